-- The pairs that a search finds in the rest of a run.
use Rattle.std.proofs.Common.{◌≡◌, ◌<◌, ◌≤◌, ◌+◌, ◌∙◌, ℕ, zero, suc, List, [], ◌∷◌, ◌++◌}
use Rattle.std.proofs.Common.{length, get_or, drop, refl, ap, sym, arith, Option, Some, None, true, rules}
use Rattle.std.specs.Prelude.{◌==◌}
use Rattle.std.proofs.lemmas.List.{drop_all, at_drop_more}
use Rattle.bx_ucd.specs.Data.{Data}
use Rattle.bx_ucd.specs.declared.class.Class.{Class}
use Rattle.bx_ucd.specs.declared.class.Class.TheVariants.{L}
use Rattle.bx_levels.specs.brackets.Pairs.{bracket_at}
use Rattle.bx_levels.specs.brackets.Search.{Progress, after, pairs_after}
use Rattle.bx_levels.specs.declared.embedding.entry.ExplicitChar.{ExplicitChar}
use Rattle.bx_levels.specs.embedding.LevelIndexes.{level_indexes}
use Rattle.bx_levels.specs.resolve.Levels.{chars_at}

no_types : (ucd : Data) (p : Progress) (j : ℕ) (cs : List ℕ) → pairs_after ucd p j cs [] ≡ p.pairs
no_types ucd p j [] = refl
no_types ucd p j (c ∷ cs) = refl

pub types_out : (ucd : Data) (p : Progress) (j n : ℕ) (cs : List ℕ) (ts : List Class) → length ts ≤ n
    → pairs_after ucd p j cs (drop n ts) ≡ p.pairs
types_out ucd p j n cs ts h = ap (pairs_after ucd p j cs) (drop_all n ts h) ∙ no_types ucd p j cs

-- the first of the characters that are left
pub char_here : (k c : ℕ) (all xs : List ℕ) → drop k all ≡ c ∷ xs → c ≡ get_or all k 0
char_here zero c [] xs e = absurd (cc)
char_here zero c (a ∷ all) xs e = cc
char_here (suc k) c [] xs e = absurd (cc)
char_here (suc k) c (a ∷ all) xs e = char_here k c all xs e

suc_more : (k : ℕ) → suc (k + 1) ≡ suc k + 1
suc_more k = omega arith

drop_suc : (n a : ℕ) (all : List ℕ) → drop n all ≡ drop (suc n) (a ∷ all)
drop_suc n a all = refl

pub chars_behind : (k c : ℕ) (all xs : List ℕ) → drop k all ≡ c ∷ xs → xs ≡ drop (k + 1) all
chars_behind zero c [] xs e = absurd (cc)
chars_behind zero c (a ∷ all) xs e = cc
chars_behind (suc k) c [] xs e = absurd (cc)
chars_behind (suc k) c (a ∷ all) xs e = chars_behind k c all xs e ∙ drop_suc (k + 1) a all ∙ ap (λ i. drop i (a ∷ all)) (suc_more k)

-- a character of a run
run_at : (level k : ℕ) (g : ExplicitChar) (ks : List (Option ExplicitChar)) → g.level ≡ level → level_indexes level k (Some g ∷ ks) ≡ k ∷ level_indexes level (k + 1) ks
run_at level k g ks e = let same : (g.level == level) ≡ true = search rules in rw (same, level_indexes)

pub run_kept : (level k : ℕ) (g : ExplicitChar) (kept : List (Option ExplicitChar)) → k < length kept → get_or kept k None ≡ Some g → g.level ≡ level
    → level_indexes level k (drop k kept) ≡ k ∷ level_indexes level (k + 1) (drop (k + 1) kept)
run_kept level k g kept h e s = at_drop_more (level_indexes level k) kept k None h ∙ ap (λ x. level_indexes level k (x ∷ drop (k + 1) kept)) e
    ∙ run_at level k g (drop (k + 1) kept) s

pub run_removed : (level k : ℕ) (kept : List (Option ExplicitChar)) → k < length kept → get_or kept k None ≡ None
    → level_indexes level k (drop k kept) ≡ level_indexes level (k + 1) (drop (k + 1) kept)
run_removed level k kept h e = at_drop_more (level_indexes level k) kept k None h ∙ ap (λ x. level_indexes level k (x ∷ drop (k + 1) kept)) e

-- the pairs that a search finds after it
module _ (ucd : Data) (all : List ℕ) (kept : List (Option ExplicitChar)) (ts : List Class) (level k met : ℕ) (p : Progress) (h : k < length kept)
    (more : List ℕ) where
  pub kept_left : (c : ℕ) (g : ExplicitChar) (q : Progress) → get_or kept k None ≡ Some g → g.level ≡ level → met < length ts → c ≡ get_or all k 0
      → q ≡ after met c (bracket_at ucd c (get_or ts met L)) p
      → pairs_after ucd p met (chars_at all (level_indexes level k (drop k kept) ++ more)) (drop met ts)
      ≡ pairs_after ucd q (met + 1) (chars_at all (level_indexes level (k + 1) (drop (k + 1) kept) ++ more)) (drop (met + 1) ts)
  kept_left c g q e s m at new =
      let ps : List ℕ = level_indexes level (k + 1) (drop (k + 1) kept) in
      let us : List Class = drop (met + 1) ts in
      ap (λ xs. pairs_after ucd p met (chars_at all (xs ++ more)) (drop met ts)) (run_kept level k g kept h e s)
      ∙ at_drop_more (λ ys. pairs_after ucd p met (chars_at all (k ∷ (ps ++ more))) ys) ts met L m
      ∙ ap (λ x. pairs_after ucd (after met x (bracket_at ucd x (get_or ts met L)) p) (met + 1) (chars_at all (ps ++ more)) us) (sym at)
      ∙ ap (λ r. pairs_after ucd r (met + 1) (chars_at all (ps ++ more)) us) (sym new)

  pub removed_left : get_or kept k None ≡ None
      → pairs_after ucd p met (chars_at all (level_indexes level k (drop k kept) ++ more)) (drop met ts)
      ≡ pairs_after ucd p met (chars_at all (level_indexes level (k + 1) (drop (k + 1) kept) ++ more)) (drop met ts)
  removed_left e = ap (λ xs. pairs_after ucd p met (chars_at all (xs ++ more)) (drop met ts)) (run_removed level k kept h e)
