-- Steps of the reversals of a level: a unit that is in a run, and one that ends it.
use Rattle.std.proofs.Common.{◌≡◌, ℕ, zero, suc, ◌+◌, ◌<◌, ◌≤◌, min, nat_le, Bool, true, false, List, [], ◌∷◌, ◌++◌, length, get_or, drop, map, replicate, reverse}
use Rattle.std.proofs.Common.{refl, sym, ap, ap₂, ◌∙◌, arith, inl, inr}
use Rattle.std.specs.List.{between}
use Rattle.std.proofs.Math.ListN.{get_or-map}
use Rattle.std.proofs.lemmas.Bool.{cases_lt, le-leb}
use Rattle.std.proofs.lemmas.Bool.Decides.{leb_tells}
use Rattle.std.proofs.lemmas.List.{append-nil, at_drop_more, length-map, map-append, reverse-append}
use Rattle.std.proofs.lemmas.List.Edits.{between_more}
use Rattle.bx_rows.specs.ReversedRuns.{AgreeUpTo}
use Rattle.bx_rows.specs.RowLevels.{reverse_runs}

abbrev choice : ℕ → List (ℕ × ℕ) → ℕ × ℕ → List (ℕ × ℕ) → Bool → List (ℕ × ℕ)
choice n run u us b = elim b [ true ↦ reverse_runs n (u ∷ run) us | false ↦ run ++ u ∷ reverse_runs n [] us ]

pub high : (n : ℕ) (run : List (ℕ × ℕ)) (u : ℕ × ℕ) (us : List (ℕ × ℕ)) → n ≤ u.1 → reverse_runs n run (u ∷ us) ≡ reverse_runs n (u ∷ run) us
high n run u us h = ap (choice n run u us) (le-leb n u.1 h)

pub low : (n : ℕ) (run : List (ℕ × ℕ)) (u : ℕ × ℕ) (us : List (ℕ × ℕ)) → u.1 < n → reverse_runs n run (u ∷ us) ≡ run ++ u ∷ reverse_runs n [] us
low n run u us h = let e : nat_le n u.1 ≡ false = grind (arith, leb_tells) in ap (choice n run u us) e

-- the run from one index to another, and the units after it
abbrev pub run_to : ℕ → List (ℕ × ℕ) → ℕ → ℕ → List (ℕ × ℕ)
run_to n us from i = reverse_runs n (reverse (between from i us)) (drop i us)

pub run_more : (n : ℕ) (us : List (ℕ × ℕ)) (from i : ℕ) (d : ℕ × ℕ) → from ≤ i → i < length us → n ≤ (get_or us i d).1
    → run_to n us from (i + 1) ≡ run_to n us from i
run_more n us from i d a h k =
    let u = get_or us i d in
    let run = reverse (between from i us) in
    ap (λ xs. reverse_runs n (reverse xs) (drop (i + 1) us)) (between_more us from i d a h)
    ∙ ap (λ xs. reverse_runs n xs (drop (i + 1) us)) (reverse-append (between from i us) (u ∷ []))
    ∙ sym (at_drop_more (reverse_runs n run) us i d h ∙ high n run u (drop (i + 1) us) k)

pub run_below : (n : ℕ) (us : List (ℕ × ℕ)) (from i : ℕ) (d : ℕ × ℕ) → i < length us → (get_or us i d).1 < n
    → run_to n us from i ≡ reverse (between from i us) ++ get_or us i d ∷ reverse_runs n [] (drop (i + 1) us)
run_below n us from i d h k =
    let run = reverse (between from i us) in
    at_drop_more (reverse_runs n run) us i d h ∙ low n run (get_or us i d) (drop (i + 1) us) k

-- ---- levels that agree with those of units

pub count_of : (n : ℕ) (ls : List ℕ) (us : List (ℕ × ℕ)) → AgreeUpTo n ls us → length us ≡ length ls
count_of n ls us e =
    sym (length-map us (λ u. min n u.1)) ∙ sym (ap (λ (xs : List ℕ). length xs) e) ∙ length-map ls (λ l. min n l)

pub level_at : (n : ℕ) (ls : List ℕ) (us : List (ℕ × ℕ)) (i : ℕ) → AgreeUpTo n ls us → min n (get_or ls i 0) ≡ min n (get_or us i (0, 0)).1
level_at n ls us i e =
    sym (get_or-map (λ l. min n l) ls i 0) ∙ ap (λ (xs : List ℕ). get_or xs i (min n 0)) e ∙ get_or-map (λ (u : ℕ × ℕ). min n u.1) us i (0, 0)

lower-min : {X : Type 0} (f : X → ℕ) (m n : ℕ) (xs : List X) → m ≤ n → map (λ x. min m (f x)) xs ≡ map (λ l. min m l) (map (λ x. min n (f x)) xs)
lower-min f m n [] h = refl
lower-min f m n (x ∷ xs) h =
    let here : min m (f x) ≡ min m (min n (f x)) = omega (arith, h) in
    ap₂ (λ k ks. k ∷ ks) here (lower-min f m n xs h)

pub agree-lower : (m n : ℕ) (ls : List ℕ) (us : List (ℕ × ℕ)) → m ≤ n → AgreeUpTo n ls us → AgreeUpTo m ls us
agree-lower m n ls us h e =
    lower-min (λ l. l) m n ls h ∙ ap (map (λ l. min m l)) e ∙ sym (lower-min (λ (u : ℕ × ℕ). u.1) m n us h)

replicate-middle : (k n : ℕ) (xs : List ℕ) → n ∷ replicate k n ++ xs ≡ replicate k n ++ n ∷ xs
replicate-middle zero n xs = refl
replicate-middle (suc k) n xs = ap (λ ys. n ∷ ys) (replicate-middle k n xs)

-- a run has nothing lower than the level, so to turn it round changes no level up to that one
same_runs : (n k : ℕ) (run us : List (ℕ × ℕ)) → map (λ u. min n u.1) run ≡ replicate k n
    → map (λ u. min n u.1) (reverse_runs n run us) ≡ replicate k n ++ map (λ u. min n u.1) us
same_runs n k run [] e = e ∙ sym (append-nil (replicate k n))
same_runs n k run (u ∷ us) e =
    let level : ℕ × ℕ → ℕ = λ u. min n u.1 in
    elim (cases_lt u.1 n) as (λ _. map level (reverse_runs n run (u ∷ us)) ≡ replicate k n ++ level u ∷ map level us) [
      | inl h ↦ ap (map level) (low n run u us h) ∙ map-append level run (u ∷ reverse_runs n [] us)
          ∙ ap₂ (λ xs ys. xs ++ level u ∷ ys) e (same_runs n 0 [] us refl)
      | inr h ↦
          let here : level u ≡ n = omega (arith, h) in
          ap (map level) (high n run u us h) ∙ same_runs n (suc k) (u ∷ run) us (ap₂ (λ l ls. l ∷ ls) here e)
          ∙ replicate-middle k n (map level us) ∙ ap (λ l. replicate k n ++ l ∷ map level us) (sym here)
    ]

pub agree-reversed : (n : ℕ) (ls : List ℕ) (us : List (ℕ × ℕ)) → AgreeUpTo n ls us → AgreeUpTo n ls (reverse_runs n [] us)
agree-reversed n ls us e = e ∙ sym (same_runs n 0 [] us refl)
