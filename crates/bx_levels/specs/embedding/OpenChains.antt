-- Open chains: chains of level runs that a later run may join, while the runs are met in order. A chain whose newest run
-- ends in an initiator waits for the next run of its level; the higher runs before that one are inside the isolate.
-- `paragraph`, `cs` and `kept` are as in `Sequences`.
use Rattle.std.specs.Prelude.{◌==◌, ◌||◌, ℕ, nat_lt, Bool, true, false, not, List, [], ◌∷◌, Option, drop, reverse}
use Rattle.bx_ucd.specs.declared.class.Class.{Class}
use Rattle.bx_ucd.specs.declared.class.Class.TheVariants.{L}
use Rattle.bx_levels.specs.declared.embedding.entry.Explicit.{Explicit}
use Rattle.bx_levels.specs.declared.embedding.entry.ExplicitChar.{ExplicitChar}
use Rattle.bx_levels.specs.declared.embedding.runs.Run.{Run}
use Rattle.bx_levels.specs.embedding.Sequences.{run, runs_from, RunSequence, starts_with_initiator, sequence_of}

-- the first of some runs, or `run 0 0 0` if there is none
abbrev pub first_run_of : List Run → Run
first_run_of [] = run 0 0 0
first_run_of (r ∷ rs) = r

-- the first of the level runs of the characters from index `p` on; where a run begins at `p`, this run
abbrev pub run_at : List (Option ExplicitChar) → ℕ → Run
run_at kept p = first_run_of (runs_from p (drop p kept))

-- the last character of a run is an isolate initiator
abbrev pub ends_in_initiator : List Class → Run → Bool
ends_in_initiator cs r = starts_with_initiator (drop r.last cs)

-- the newest chain ends before the run `q`: no later run can join it. Chains are listed the newest first, each with its
-- newest run first; none is without a run
abbrev pub is_over : List Class → List (List Run) → Run → Bool
is_over cs [] q = false
is_over cs ([] ∷ chains) q = true
is_over cs ((r ∷ rs) ∷ chains) q = nat_lt q.level r.level || not (ends_in_initiator cs r)

-- the chains with the run `q` taken, before which the newest chain does not end: `q` joins it if it has its level, else begins a chain
abbrev pub with_run : List (List Run) → Run → List (List Run)
with_run [] q = (q ∷ []) ∷ []
with_run ([] ∷ chains) q = (q ∷ []) ∷ [] ∷ chains
with_run ((r ∷ rs) ∷ chains) q = elim (q.level == r.level) [ true ↦ (q ∷ r ∷ rs) ∷ chains | false ↦ (q ∷ []) ∷ (r ∷ rs) ∷ chains ]

-- the newest chain, its newest run first, and the others
abbrev pub newest : List (List Run) → List Run
newest [] = []
newest (c ∷ chains) = c

abbrev pub others : List (List Run) → List (List Run)
others [] = []
others (c ∷ chains) = chains

-- the sequence of the runs of a chain, in order
abbrev pub sequence_of_runs : ℕ → List Class → List (Option ExplicitChar) → List Run → RunSequence
sequence_of_runs paragraph cs kept [] = record { indexes = []; level = 0; sos = L; eos = L }
sequence_of_runs paragraph cs kept (r ∷ rs) = sequence_of paragraph cs kept r rs

-- a paragraph body after the explicit rules, and its open chains
pub record OpenRuns : Type 0 where
  pub explicit : Explicit
  pub chains : List (List Run)

-- the sequence of the newest chain
abbrev pub newest_sequence : OpenRuns → RunSequence
newest_sequence o = sequence_of_runs o.explicit.level o.explicit.classes.items o.explicit.kept.items (reverse (newest o.chains))
