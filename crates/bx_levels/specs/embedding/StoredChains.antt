-- How open chains are stored: for each chain, the newest first, its level, the last index of its newest run and the number
-- of runs before it; and the first index of each run, the oldest first. `kept` has the result of the explicit rules for each character.
use Rattle.std.specs.Prelude.{◌≡◌, ◌<◌, ◌==◌, ◌-◌, ℕ, true, false, List, [], ◌∷◌, Option, All, length, take, drop, map, reverse, slice_index_or}
use Rattle.bx_levels.specs.declared.embedding.entry.ExplicitChar.{ExplicitChar}
use Rattle.bx_levels.specs.declared.embedding.open_chains.OpenChain.{OpenChain}
use Rattle.bx_levels.specs.declared.embedding.runs.Run.{Run}
use Rattle.bx_levels.specs.embedding.OpenChains.{run_at}

-- a stored chain of these values
abbrev pub open_chain : ℕ → ℕ → ℕ → OpenChain
open_chain level last begin = record { level = level; last = last; begin = begin }

-- the chains, each with its newest run first, by the stored ones and the first indexes `ps` of all their runs
abbrev pub chains_of : List (Option ExplicitChar) → List OpenChain → List ℕ → List (List Run)
chains_of kept [] ps = []
chains_of kept (o ∷ os) ps = reverse (map (run_at kept) (drop o.begin ps)) ∷ chains_of kept os (take o.begin ps)

-- a run of a level begins at index `p`
pub record BeginsRun (kept : List (Option ExplicitChar)) (level p : ℕ) : Type 0 where
  pub within : p < length kept
  pub here : (run_at kept p).first ≡ p
  pub of_level : (run_at kept p).level ≡ level

-- the stored values of the newest chain, `o`, agree with its runs, whose first indexes are the last of `ps`
pub record IsOpenChain (kept : List (Option ExplicitChar)) (o : OpenChain) (ps : List ℕ) : Type 0 where
  pub begin_within : o.begin < length ps
  pub runs : All (BeginsRun kept o.level) (drop o.begin ps)
  pub ends : (run_at kept (slice_index_or ps (length ps - 1) 0)).last ≡ o.last

-- the stored values of all chains agree with their runs
abbrev pub AreOpen : List (Option ExplicitChar) → List OpenChain → List ℕ → Type 0
AreOpen kept [] ps = ps ≡ []
AreOpen kept (o ∷ os) ps = IsOpenChain kept o ps × AreOpen kept os (take o.begin ps)

-- a run joins the newest chain if that has its level, else begins a chain after `begin` runs
abbrev pub open_with : Run → ℕ → List OpenChain → List OpenChain
open_with r begin [] = open_chain r.level r.last begin ∷ []
open_with r begin (o ∷ os) = elim (r.level == o.level) [
  | true ↦ open_chain r.level r.last o.begin ∷ os
  | false ↦ open_chain r.level r.last begin ∷ o ∷ os
]
