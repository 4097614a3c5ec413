-- Sequences of indexes that lie apart may be written in either order.
use Rattle.std.proofs.Common.{◌≡◌, ◌≢◌, ◌<◌, ◌≤◌, ◌∙◌, ℕ, List, [], ◌∷◌, ◌++◌, set, refl, ap, arith, inl, inr, Option, Some}
use Rattle.std.specs.Prelude.{All}
use Rattle.std.proofs.lemmas.List.{set_comm}
use Rattle.std.proofs.lemmas.List.Elements.{All-head, All-tail}
use Rattle.bx_ucd.specs.Data.{Data}
use Rattle.bx_levels.specs.declared.embedding.entry.ExplicitChar.{ExplicitChar}
use Rattle.bx_levels.specs.embedding.Sequences.{RunSequence}
use Rattle.bx_levels.specs.embedding.Walk.{IsIn, IsOut, IsApart, AreGiven}
use Rattle.bx_levels.specs.resolve.Levels.{with_levels, with_sequences, levels_in}

out_in : (low high p q : ℕ) → IsIn low high p → IsOut low high q → q ≢ p
out_in low high p q i (inl h) = let a : low ≤ p = i.0 in omega arith
out_in low high p q i (inr h) = let a : p < high = i.1 in omega arith

set_first : (low high q m : ℕ) (ps ls : List ℕ) (each : List (Option ℕ)) → IsOut low high q → All (IsIn low high) ps
    → with_levels ps ls (set each q (Some m)) ≡ set (with_levels ps ls each) q (Some m)
set_first low high q m [] ls each o a = refl
set_first low high q m (p ∷ ps) [] each o a = refl
set_first low high q m (p ∷ ps) (l ∷ ls) each o a =
    ap (with_levels ps ls) (set_comm each q p (Some m) (Some l) (out_in low high p q (All-head (IsIn low high) p ps a) o))
    ∙ set_first low high q m ps ls (set each p (Some l)) o (All-tail (IsIn low high) p ps a)

levels_comm : (low high : ℕ) (ps ls qs ms : List ℕ) (each : List (Option ℕ)) → All (IsIn low high) ps → All (IsOut low high) qs
    → with_levels ps ls (with_levels qs ms each) ≡ with_levels qs ms (with_levels ps ls each)
levels_comm low high ps ls [] ms each a b = refl
levels_comm low high ps ls (q ∷ qs) [] each a b = refl
levels_comm low high ps ls (q ∷ qs) (m ∷ ms) each a b = levels_comm low high ps ls qs ms (set each q (Some m)) a (All-tail (IsOut low high) q qs b)
    ∙ ap (with_levels qs ms) (set_first low high q m ps ls each (All-head (IsOut low high) q qs b) a)

-- so one of several sequences may be written first
module _ (ucd : Data) (chars : List ℕ) (kept : List (Option ExplicitChar)) (low high : ℕ) where
  written_first : (ss rest : List RunSequence) (s : RunSequence) (each : List (Option ℕ)) → All (λ (u : RunSequence). All (IsOut low high) u.indexes) ss
      → All (IsIn low high) s.indexes → with_sequences ucd chars kept (ss ++ s ∷ rest) each
      ≡ with_sequences ucd chars kept (ss ++ rest) (with_levels s.indexes (levels_in ucd chars kept s) each)
  written_first [] rest s each o a = refl
  written_first (u ∷ ss) rest s each o a =
      let outs : RunSequence → Type 0 = λ (x : RunSequence). All (IsOut low high) x.indexes in
      written_first ss rest s (with_levels u.indexes (levels_in ucd chars kept u) each) (All-tail outs u ss o) a
      ∙ ap (with_sequences ucd chars kept (ss ++ rest))
      (levels_comm low high s.indexes (levels_in ucd chars kept s) u.indexes (levels_in ucd chars kept u) each a (All-head outs u ss o))

-- the sequences in the order in which they are given write the same
module _ (ucd : Data) (chars : List ℕ) (kept : List (Option ExplicitChar)) where
  pub given_written : (given all : List RunSequence) (each : List (Option ℕ)) → AreGiven given all
      → with_sequences ucd chars kept all each ≡ with_sequences ucd chars kept given each
  given_written [] all each a = ap (λ ss. with_sequences ucd chars kept ss each) a
  given_written (s ∷ given) all each a =
      let before : List RunSequence = a.0 in
      let after : List RunSequence = a.1 in
      let v : IsApart s before = a.3 in
      let now : List (Option ℕ) = with_levels s.indexes (levels_in ucd chars kept s) each in
      ap (λ ss. with_sequences ucd chars kept ss each) a.2
      ∙ written_first ucd chars kept v.low v.high before after s each v.outside v.inside
      ∙ given_written given (before ++ after) now a.4
