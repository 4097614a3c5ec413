-- One more simple character.
use Rattle.std.proofs.Common.{◌≡◌, ℕ, zero, suc, ◌+◌, ◌<◌, ◌⊎◌, true, List, [], ◌∷◌, length, take, get_or, sum_by, sym, ap, subst, ◌∙◌, arith, ⊎_elim}
use Rattle.std.specs.List.{list_all}
use Rattle.std.proofs.lemmas.Bool.{and_parts, and_from}
use Rattle.std.proofs.lemmas.List.Folds.{list_all_more}
use Rattle.std.proofs.lemmas.List.Sums.{sum_by_more}
use Rattle.bx_rows.specs.cells.Simple.{begins, is_simple, simple_columns, starts, is_simple_text}

starts-more : (cs : List ℕ) (n d : ℕ) → n < length cs → starts (take n cs) ≡ true → (begins (get_or cs n d) ≡ true) ⊎ (0 < n) → starts (take (suc n) cs) ≡ true
starts-more [] n d lt s h = absurd (omega arith)
starts-more (c ∷ cs) zero d lt s h = ⊎_elim (λ b. b) (λ some. absurd (omega arith)) h
starts-more (c ∷ cs) (suc n) d lt s h = s

-- the first n + 1 characters of a text, the last of them c
pub simple-more : (cs : List ℕ) (n c : ℕ) → (n < length cs) × (c ≡ get_or cs n c) → is_simple_text (take n cs) ≡ true → is_simple c ≡ true
    → (begins c ≡ true) ⊎ (0 < n) → is_simple_text (take (n + 1) cs) ≡ true
simple-more cs n c at simple one h =
    let parts = and_parts (starts (take n cs)) (list_all is_simple (take n cs)) simple in
    let there : (begins (get_or cs n c) ≡ true) ⊎ (0 < n) = subst (λ x. (begins x ≡ true) ⊎ (0 < n)) at.1 h in
    let e : suc n ≡ n + 1 = omega arith in
    and_from (starts (take (n + 1) cs)) (list_all is_simple (take (n + 1) cs))
    (subst (λ k. starts (take k cs) ≡ true) e (starts-more cs n c at.0 parts.0 there))
    (list_all_more is_simple cs n c at.0 ∙ and_from (list_all is_simple (take n cs)) (is_simple (get_or cs n c)) parts.1 (ap is_simple (sym at.1) ∙ one))

pub columns-more : (cs : List ℕ) (n c : ℕ) → (n < length cs) × (c ≡ get_or cs n c)
    → sum_by simple_columns (take (n + 1) cs) ≡ sum_by simple_columns (take n cs) + simple_columns c
columns-more cs n c at = sum_by_more simple_columns cs n c at.0 ∙ ap (λ x. sum_by simple_columns (take n cs) + simple_columns x) (sym at.1)

-- some columns need a character
pub some-taken : (cs : List ℕ) (n : ℕ) → 0 < sum_by simple_columns (take n cs) → 0 < n
some-taken cs zero h = absurd (omega (arith, h))
some-taken cs (suc n) h = omega arith
