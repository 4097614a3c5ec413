-- The indexes of the runs of a chain, found from the first index of each.
use Rattle.std.specs.Prelude.{◌==◌, ℕ, ◌+◌, true, false, List, [], ◌∷◌, ◌++◌, Option, Some, None, drop}
use Rattle.bx_levels.specs.declared.embedding.entry.ExplicitChar.{ExplicitChar}

-- the indexes of the kept characters from index `k` on, whose results are listed, up to the first of another level
abbrev pub level_indexes : ℕ → ℕ → List (Option ExplicitChar) → List ℕ
level_indexes level k [] = []
level_indexes level k (None ∷ cs) = level_indexes level (k + 1) cs
level_indexes level k (Some c ∷ cs) = elim (c.level == level) [ true ↦ k ∷ level_indexes level (k + 1) cs | false ↦ [] ]

-- the indexes of all runs of a chain of this level, whose runs begin at the indexes `p ∷ ps`
abbrev pub indexes_from : ℕ → List (Option ExplicitChar) → List ℕ → List ℕ
indexes_from level kept [] = []
indexes_from level kept (p ∷ ps) = level_indexes level p (drop p kept) ++ indexes_from level kept ps
