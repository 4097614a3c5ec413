-- The characters behind the first, one after another.
use Rattle.std.proofs.Common.{◌≡◌, ◌∙◌, ◌++◌, ℕ, ◌<◌, Bool, true, false, nat_lt, List, [], ◌∷◌, length, take, drop, Option, Some, None, ap, ap₂, sym, refl, arith, append_assoc, append-nil}
use Rattle.std.specs.Prelude.{slice_get, is_some}
use Rattle.std.specs.List.{flat_map}
use Rattle.std.proofs.lemmas.Bool.{lt-ltb}
use Rattle.bx_ucd.specs.Data.{Data}
use Rattle.bx_editor.specs.questions.Told.{behind}

-- the text of the next three
abbrev pub three : Data → List ℕ → List ℕ
three ucd cs = flat_map (λ c. behind ucd (Some c)) (take 3 cs)

parts : (ucd : Data) (cs : List ℕ)
    → behind ucd (slice_get cs 0) ++ (behind ucd (slice_get (drop 1 cs) 0) ++ behind ucd (slice_get (drop 1 (drop 1 cs)) 0)) ≡ three ucd cs
parts ucd [] = refl
parts ucd (a ∷ []) = refl
parts ucd (a ∷ b ∷ []) = refl
parts ucd (a ∷ b ∷ c ∷ cs) =
    ap (λ (xs : List ℕ). behind ucd (Some a) ++ (behind ucd (Some b) ++ xs)) (sym (append-nil (behind ucd (Some c))))

pub are-more : (cs : List ℕ) → nat_lt 3 (length cs) ≡ is_some (slice_get (drop 1 (drop 1 (drop 1 cs))) 0)
are-more [] = refl
are-more (a ∷ []) = refl
are-more (a ∷ b ∷ []) = refl
are-more (a ∷ b ∷ c ∷ []) = refl
are-more (a ∷ b ∷ c ∷ d ∷ cs) = lt-ltb 3 _ (omega arith)

-- three are written one by one: b, c and d, where ds and es follow them
pub three-written : (ucd : Data) (cs ds es old first second third : List ℕ) (b c d : Option ℕ)
    → b ≡ slice_get cs 0 → ds ≡ drop 1 cs → c ≡ slice_get ds 0 → es ≡ drop 1 ds → d ≡ slice_get es 0
    → first ≡ old ++ behind ucd b → second ≡ first ++ behind ucd c → third ≡ second ++ behind ucd d → third ≡ old ++ three ucd cs
three-written ucd cs ds es old first second third b c d is-b is-ds is-c is-es is-d h1 h2 h3 =
    let eb : behind ucd b ≡ behind ucd (slice_get cs 0) = ap (behind ucd) is-b in
    let ec : behind ucd c ≡ behind ucd (slice_get (drop 1 cs) 0) = ap (behind ucd) (is-c ∙ ap (λ (xs : List ℕ). slice_get xs 0) is-ds) in
    let ed : behind ucd d ≡ behind ucd (slice_get (drop 1 (drop 1 cs)) 0) =
    ap (behind ucd) (is-d ∙ ap (λ (xs : List ℕ). slice_get xs 0) (is-es ∙ ap (λ (xs : List ℕ). drop 1 xs) is-ds)) in
    let e1 : first ≡ old ++ behind ucd (slice_get cs 0) = h1 ∙ ap (λ (xs : List ℕ). old ++ xs) eb in
    let e2 : second ≡ (old ++ behind ucd (slice_get cs 0)) ++ behind ucd (slice_get (drop 1 cs) 0) =
    h2 ∙ ap₂ (λ (xs ys : List ℕ). xs ++ ys) e1 ec in
    h3 ∙ ap₂ (λ (xs ys : List ℕ). xs ++ ys) e2 ed
    ∙ append_assoc (old ++ behind ucd (slice_get cs 0)) (behind ucd (slice_get (drop 1 cs) 0)) (behind ucd (slice_get (drop 1 (drop 1 cs)) 0))
    ∙ append_assoc old (behind ucd (slice_get cs 0)) (behind ucd (slice_get (drop 1 cs) 0) ++ behind ucd (slice_get (drop 1 (drop 1 cs)) 0))
    ∙ ap (λ (xs : List ℕ). old ++ xs) (parts ucd cs)

pub fifth-is : (cs ds es fs : List ℕ) (e : Option ℕ) → ds ≡ drop 1 cs → es ≡ drop 1 ds → fs ≡ drop 1 es → e ≡ slice_get fs 0
    → nat_lt 3 (length cs) ≡ is_some e
fifth-is cs ds es fs e is-ds is-es is-fs is-e =
    are-more cs ∙ sym (ap is_some (is-e ∙ ap (λ (xs : List ℕ). slice_get xs 0)
    (is-fs ∙ ap (λ (xs : List ℕ). drop 1 xs) (is-es ∙ ap (λ (xs : List ℕ). drop 1 xs) is-ds))))
