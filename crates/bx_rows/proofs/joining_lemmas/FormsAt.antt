-- The form of one character of a body, by what stands before it and after it.
use Rattle.std.proofs.Common.{◌≡◌, ℕ, ◌≤◌, List, [], ◌∷◌, ◌++◌, map, length, get_or, take, drop, reverse, append_assoc, append-nil, Option, chars}
use Rattle.std.proofs.Common.{IsUtf8, refl, sym, ap, ap₂, ◌∙◌, arith}
use Rattle.std.specs.Str.{IsCharBoundary}
use Rattle.std.specs.List.{zip}
use Rattle.std.proofs.lemmas.Grind.{reverse_onto}
use Rattle.std.proofs.lemmas.List.{get_or_past, length-map, length-take-le, map-append, nil_from_length, take-append-drop}
use Rattle.std.proofs.lemmas.Str.{chars-append, IsUtf8-take}
use Rattle.bx_ucd.specs.Data.{Data}
use Rattle.bx_ucd.specs.declared.joining.Form.TheVariants.{Isolated}
use Rattle.bx_rows.specs.joining.Joining.{Joiner, body_forms, form_if, forms_behind, joiners, joins_after, joins_before}
use Rattle.bx_rows.proofs.joining_lemmas.Pairs.{length-zip, length-zip-le, zip-append}

pub form_between : (before done : List Joiner) (c : Joiner) (after : List Joiner)
    → get_or (forms_behind before (done ++ c ∷ after)) (length done) Isolated ≡ form_if (joins_before (reverse done ++ before) c) (joins_after c after)
form_between before [] c after = refl
form_between before (d ∷ ds) c after =
    let turned : reverse (d ∷ ds) ++ before ≡ reverse ds ++ (d ∷ before) =
    ap (λ xs. xs ++ before) (reverse_onto ds d []) ∙ append_assoc (reverse ds) (d ∷ []) before in
    form_between (d ∷ before) ds c after ∙ ap (λ xs. form_if (joins_before xs c) (joins_after c after)) (sym turned)

pub length-forms : (before cs : List Joiner) → length (forms_behind before cs) ≡ length cs
length-forms before [] = refl
length-forms before (c ∷ cs) = omega (arith, length-forms (c ∷ before) cs)

-- past the last character, or the last level
pub isolated_past : (ucd : Data) (body : List ℕ) (each : List (Option ℕ)) (number : ℕ) → length each ≤ number
    → get_or (body_forms ucd body each) number Isolated ≡ Isolated
isolated_past ucd body each number few =
    get_or_past (body_forms ucd body each) number Isolated
    (omega (arith, few, length-forms [] (joiners ucd body each), (length-zip-le (map ucd.joining (chars body)) each).1))

pub isolated_end : (ucd : Data) (body : List ℕ) (each : List (Option ℕ)) (offset number : ℕ) → number ≡ length (chars (take offset body)) → length (drop offset body) ≡ 0
    → get_or (body_forms ucd body each) number Isolated ≡ Isolated
isolated_end ucd body each offset number n none =
    let whole : body ≡ take offset body =
    sym (take-append-drop offset body) ∙ ap (λ xs. take offset body ++ xs) (nil_from_length (drop offset body) none) ∙ append-nil (take offset body) in
    get_or_past (body_forms ucd body each) number Isolated (omega (
      arith,
      n,
      ap (λ xs. length (chars xs)) whole,
      length-map (chars body) ucd.joining,
      length-forms [] (joiners ucd body each),
      (length-zip-le (map ucd.joining (chars body)) each).0,
    ))

pub form_here : (ucd : Data) (body : List ℕ) (each : List (Option ℕ)) (offset number c : ℕ) (level : Option ℕ) (behind : List ℕ) (after : List (Option ℕ))
    → IsUtf8 body → IsCharBoundary body offset → number ≡ length (chars (take offset body)) → chars (drop offset body) ≡ c ∷ chars behind
    → number ≤ length each → drop number each ≡ level ∷ after
    → get_or (body_forms ucd body each) number Isolated
    ≡ form_if (joins_before (reverse (joiners ucd (take offset body) (take number each))) (ucd.joining c, level))
    (joins_after (ucd.joining c, level) (joiners ucd behind after))
form_here ucd body each offset number c level behind after u b n e le f =
    let before = chars (take offset body) in
    let own : Joiner = (ucd.joining c, level) in
    let done = joiners ucd (take offset body) (take number each) in
    let rest = joiners ucd behind after in
    let whole : chars body ≡ before ++ c ∷ chars behind =
    ap chars (sym (take-append-drop offset body)) ∙ chars-append (take offset body) (drop offset body) (IsUtf8-take body offset u b)
    ∙ ap (λ xs. before ++ xs) e in
    let levels : each ≡ take number each ++ level ∷ after = sym (take-append-drop number each) ∙ ap (λ xs. take number each ++ xs) f in
    let counts : length (map ucd.joining before) ≡ length (take number each) =
    length-map before ucd.joining ∙ sym n ∙ sym (length-take-le number each le) in
    let pairs : joiners ucd body each ≡ done ++ own ∷ rest =
    ap₂ (λ cs ls. zip (map ucd.joining cs) ls) whole levels
    ∙ ap (λ xs. zip xs (take number each ++ level ∷ after)) (map-append ucd.joining before (c ∷ chars behind))
    ∙ zip-append (map ucd.joining before) (ucd.joining c ∷ map ucd.joining (chars behind)) (take number each) (level ∷ after) counts in
    let count : length done ≡ number = length-zip (map ucd.joining before) (take number each) counts ∙ length-map before ucd.joining ∙ sym n in
    ap (λ ps. get_or (forms_behind [] ps) number Isolated) pairs ∙ ap (λ k. get_or (forms_behind [] (done ++ own ∷ rest)) k Isolated) (sym count)
    ∙ form_between [] done own rest ∙ ap (λ xs. form_if (joins_before xs own) (joins_after own rest)) (append-nil (reverse done))
