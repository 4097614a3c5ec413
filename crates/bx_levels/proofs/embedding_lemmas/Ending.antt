-- The sequences in the order in which their chains end: one turn of the walk.
use Rattle.std.proofs.Common.{◌≡◌, ◌+◌, ◌∙◌, ℕ, List, [], ◌∷◌, ◌++◌, drop, reverse, refl, ap, sym, Bool, true, false, Option, Some, None}
use Rattle.std.specs.Prelude.{IfNone, IfSome}
use Rattle.bx_ucd.specs.declared.class.Class.{Class}
use Rattle.bx_levels.specs.declared.embedding.entry.ExplicitChar.{ExplicitChar}
use Rattle.bx_levels.specs.declared.embedding.runs.Run.{Run}
use Rattle.bx_levels.specs.embedding.Sequences.{runs_from, RunSequence}
use Rattle.bx_levels.specs.embedding.OpenChains.{is_over, with_run, sequence_of_runs}
use Rattle.bx_levels.specs.embedding.Walk.{over_before, still_open, ending, sequences_of, runs_to_come}

over_at : (cs : List Class) (c : List Run) (chains : List (List Run)) (q : Run) (b : Bool) → is_over cs (c ∷ chains) q ≡ b
    → over_before cs (c ∷ chains) q ≡ elim b [ true ↦ c ∷ over_before cs chains q | false ↦ [] ]
over_at cs c chains q true e = rw (e, over_before)
over_at cs c chains q false e = rw (e, over_before)

open_at : (cs : List Class) (c : List Run) (chains : List (List Run)) (q : Run) (b : Bool) → is_over cs (c ∷ chains) q ≡ b
    → still_open cs (c ∷ chains) q ≡ elim b [ true ↦ still_open cs chains q | false ↦ c ∷ chains ]
open_at cs c chains q true e = rw (e, still_open)
open_at cs c chains q false e = rw (e, still_open)

module _ (paragraph : ℕ) (cs : List Class) (kept : List (Option ExplicitChar)) where
  abbrev all_ending : List (List Run) → List (List Run) → Run → List Run → List RunSequence
  all_ending over stay q rest = sequences_of paragraph cs kept over ++ ending paragraph cs kept (with_run stay q) rest

  -- a chain that ends before the next run, and one that may go on
  pub ending_over : (c : List Run) (chains : List (List Run)) (q : Run) (rest : List Run) → is_over cs (c ∷ chains) q ≡ true
      → ending paragraph cs kept (c ∷ chains) (q ∷ rest) ≡ sequence_of_runs paragraph cs kept (reverse c) ∷ ending paragraph cs kept chains (q ∷ rest)
  ending_over c chains q rest e =
      ap (λ xs. all_ending xs (still_open cs (c ∷ chains) q) q rest) (over_at cs c chains q true e)
      ∙ ap (λ xs. all_ending (c ∷ over_before cs chains q) xs q rest) (open_at cs c chains q true e)

  pub ending_open : (chains : List (List Run)) (q : Run) (rest : List Run) → is_over cs chains q ≡ false
      → ending paragraph cs kept chains (q ∷ rest) ≡ ending paragraph cs kept (with_run chains q) rest
  ending_open [] q rest e = refl
  ending_open (c ∷ chains) q rest e =
      ap (λ xs. all_ending xs (still_open cs (c ∷ chains) q) q rest) (over_at cs c chains q false e)
      ∙ ap (λ xs. all_ending [] xs q rest) (open_at cs c chains q false e)

-- the run to come
pub come_is : (kept : List (Option ExplicitChar)) (from : ℕ) (o : Option Run) → IfNone o (runs_from from (drop from kept) ≡ [])
    → IfSome o (λ r. runs_from from (drop from kept) ≡ r ∷ runs_from (r.last + 1) (drop (r.last + 1) kept))
    → runs_to_come kept o ≡ runs_from from (drop from kept)
come_is kept from None n s = sym n
come_is kept from (Some r) n s = sym s
