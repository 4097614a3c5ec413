-- Levels written at their indexes, one after another.
use Rattle.std.proofs.Common.{◌≡◌, ◌<◌, ◌≤◌, ◌+◌, ◌∙◌, ℕ, zero, suc, List, [], ◌∷◌, length, get_or, set, drop, min, refl, ap, sym, arith, ◌⊎◌, inl, inr, Option}
use Rattle.std.proofs.Common.{Some}
use Rattle.std.proofs.lemmas.List.{at_drop_more, drop_all}
use Rattle.std.proofs.Math.ListN.{length-set}
use Rattle.bx_ucd.specs.Data.{Data}
use Rattle.bx_levels.specs.declared.embedding.entry.ExplicitChar.{ExplicitChar}
use Rattle.bx_ucd.specs.declared.class.Class.{Class}
use Rattle.bx_levels.specs.embedding.Sequences.{RunSequence}
use Rattle.bx_levels.specs.resolve.Neutral.{implicit}
use Rattle.bx_levels.specs.resolve.Levels.{with_levels, with_sequences, levels_in}

pub levels_more : (ps ls : List ℕ) (each : List (Option ℕ)) (i : ℕ) → i < length ps → i < length ls
    → with_levels (drop i ps) (drop i ls) each ≡ with_levels (drop (i + 1) ps) (drop (i + 1) ls) (set each (get_or ps i 0) (Some (get_or ls i 0)))
levels_more ps ls each i h k = at_drop_more (λ xs. with_levels xs (drop i ls) each) ps i 0 h
    ∙ at_drop_more (λ xs. with_levels (get_or ps i 0 ∷ drop (i + 1) ps) xs each) ls i 0 k

no_levels : (ps : List ℕ) (each : List (Option ℕ)) → with_levels ps [] each ≡ each
no_levels [] each = refl
no_levels (p ∷ ps) each = refl

min_cases : (a b n : ℕ) → min a b ≤ n → (a ≤ n) ⊎ (b ≤ n)
min_cases zero b n h = inl (omega arith)
min_cases (suc a) zero n h = inr (omega arith)
min_cases (suc a) (suc b) zero h = absurd (omega arith)
min_cases (suc a) (suc b) (suc n) h = elim (min_cases a b n (omega arith)) [ inl k ↦ inl (omega arith) | inr k ↦ inr (omega arith) ]

pub levels_all : (ps ls : List ℕ) (each : List (Option ℕ)) (n : ℕ) → min (length ps) (length ls) ≤ n → with_levels (drop n ps) (drop n ls) each ≡ each
levels_all ps ls each n h = elim (min_cases (length ps) (length ls) n h) [
  | inl k ↦ ap (λ xs. with_levels xs (drop n ls) each) (drop_all n ps k)
  | inr k ↦ ap (λ xs. with_levels (drop n ps) xs each) (drop_all n ls k) ∙ no_levels (drop n ps) each
]

pub levels_length : (ps ls : List ℕ) (each : List (Option ℕ)) → length (with_levels ps ls each) ≡ length each
levels_length [] ls each = refl
levels_length (p ∷ ps) [] each = refl
levels_length (p ∷ ps) (l ∷ ls) each = levels_length ps ls (set each p (Some l)) ∙ length-set each p (Some l)

module _ (ucd : Data) (chars : List ℕ) (kept : List (Option ExplicitChar)) where
  pub sequences_more : (ss : List RunSequence) (each : List (Option ℕ)) (i : ℕ) (d : RunSequence) → i < length ss
      → with_sequences ucd chars kept (drop i ss) each
      ≡ with_sequences ucd chars kept (drop (i + 1) ss) (with_levels (get_or ss i d).indexes (levels_in ucd chars kept (get_or ss i d)) each)
  sequences_more ss each i d h = at_drop_more (λ xs. with_sequences ucd chars kept xs each) ss i d h

written_all : (level : ℕ) (ps : List ℕ) (ts : List Class) (i : ℕ) (each : List (Option ℕ)) → length ts ≤ i
    → with_levels ps (implicit level (drop i ts)) each ≡ each
written_all level ps ts i each h = ap (λ xs. with_levels ps (implicit level xs) each) (drop_all i ts h) ∙ no_levels ps each

-- no type is left, for any indexes
pub written_out : (level : ℕ) (ps rest : List ℕ) (ts : List Class) (i : ℕ) (each : List (Option ℕ)) → length ts ≤ i
    → with_levels ps (implicit level (drop i ts)) each ≡ with_levels rest (implicit level (drop i ts)) each
written_out level ps rest ts i each h = written_all level ps ts i each h ∙ sym (written_all level rest ts i each h)
