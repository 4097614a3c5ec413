-- The sequences of a paragraph body, in the order in which their chains end while its level runs are met in order.
-- `paragraph`, `cs` and `kept` are as in `Sequences`; chains are listed the newest first, each with its newest run first.
use Rattle.std.specs.Prelude.{◌≡◌, ◌<◌, ◌≤◌, ◌+◌, ◌⊎◌, ℕ, Bool, true, false, List, [], ◌∷◌, ◌++◌, Option, Some, None, All, drop, length, reverse}
use Rattle.bx_ucd.specs.declared.class.Class.{Class}
use Rattle.bx_levels.specs.declared.embedding.entry.Explicit.{Explicit}
use Rattle.bx_levels.specs.declared.embedding.entry.ExplicitChar.{ExplicitChar}
use Rattle.bx_levels.specs.declared.embedding.runs.Run.{Run}
use Rattle.bx_levels.specs.embedding.Sequences.{runs_from, RunSequence}
use Rattle.bx_levels.specs.embedding.OpenChains.{OpenRuns, run_at, is_over, with_run, others, sequence_of_runs}

-- the chains that end before the run `q`, the newest first
abbrev pub over_before : List Class → List (List Run) → Run → List (List Run)
over_before cs [] q = []
over_before cs (c ∷ chains) q = elim (is_over cs (c ∷ chains) q) [ true ↦ c ∷ over_before cs chains q | false ↦ [] ]

-- the chains that do not end before it
abbrev pub still_open : List Class → List (List Run) → Run → List (List Run)
still_open cs [] q = []
still_open cs (c ∷ chains) q = elim (is_over cs (c ∷ chains) q) [ true ↦ still_open cs chains q | false ↦ c ∷ chains ]

-- the sequences of chains
abbrev pub sequences_of : ℕ → List Class → List (Option ExplicitChar) → List (List Run) → List RunSequence
sequences_of paragraph cs kept [] = []
sequences_of paragraph cs kept (c ∷ chains) = sequence_of_runs paragraph cs kept (reverse c) ∷ sequences_of paragraph cs kept chains

-- the sequences of the open chains and of the runs to come, in the order in which the chains end
abbrev pub ending : ℕ → List Class → List (Option ExplicitChar) → List (List Run) → List Run → List RunSequence
ending paragraph cs kept chains [] = sequences_of paragraph cs kept chains
ending paragraph cs kept chains (q ∷ rest) = sequences_of paragraph cs kept (over_before cs chains q)
    ++ ending paragraph cs kept (with_run (still_open cs chains q) q) rest

-- an index lies within `low..high`
abbrev pub IsIn : ℕ → ℕ → ℕ → Type 0
IsIn low high p = (low ≤ p) × (p < high)

-- an index lies outside `low..high`
abbrev pub IsOut : ℕ → ℕ → ℕ → Type 0
IsOut low high p = (p < low) ⊎ (high ≤ p)

-- a sequence lies within `low..high`, where no other sequence has an index
pub record IsApart (s : RunSequence) (others : List RunSequence) : Type 0 where
  pub low : ℕ
  pub high : ℕ
  pub inside : All (IsIn low high) s.indexes
  pub outside : All (λ (u : RunSequence). All (IsOut low high) u.indexes) others

-- the sequences that a walk gives are a permutation of `all`; one that is given ahead of others is apart from each of them
abbrev pub AreGiven : List RunSequence → List RunSequence → Type 0
AreGiven [] all = all ≡ []
AreGiven (s ∷ given) all = (before : List RunSequence) × (after : List RunSequence) × (all ≡ before ++ s ∷ after) × IsApart s before
    × AreGiven given (before ++ after)

-- the next run and the runs after it
abbrev pub runs_to_come : List (Option ExplicitChar) → Option Run → List Run
runs_to_come kept None = []
runs_to_come kept (Some r) = r ∷ runs_from (r.last + 1) (drop (r.last + 1) kept)

-- a run lies within `low..high`
pub record IsRunWithin (low high : ℕ) (r : Run) : Type 0 where
  pub starts : low ≤ r.first
  pub ordered : r.first ≤ r.last
  pub ends : r.last < high

-- `r` is a level run of the text
pub record IsRunOf (kept : List (Option ExplicitChar)) (r : Run) : Type 0 where
  pub own : r ≡ run_at kept r.first
  pub within : IsRunWithin 0 (length kept) r

-- the next run, if there is one, is a run of the text
abbrev pub IsToCome : List (Option ExplicitChar) → Option Run → Type 0
IsToCome kept None = Unit {0}
IsToCome kept (Some r) = IsRunOf kept r

-- the value of a walk: whether a sequence is lent, which one, and the sequences left, without the lent one
pub record SequencesLeft : Type 0 where
  pub explicit : Explicit
  pub has_current : Bool
  pub current : RunSequence
  pub left : List RunSequence

-- the chains without the newest one, if that is lent
abbrev pub unlent : Bool → List (List Run) → List (List Run)
unlent true chains = others chains
unlent false chains = chains

-- the sequences of the open chains and the runs to come in a paragraph body
abbrev pub sequences_left : Explicit → List (List Run) → Option Run → List RunSequence
sequences_left e chains run = ending e.level e.classes.items e.kept.items chains (runs_to_come e.kept.items run)

-- the invariant of a walk: its chains and its next run are of its text, and a chain is open while one is lent
pub record IsWalk (e : Explicit) (o : OpenRuns) (next : Option Run) (lent : Bool) : Type 0 where
  pub own : o.explicit ≡ e
  pub run : IsToCome e.kept.items next
  pub some : lent ≡ true → 0 < length o.chains
