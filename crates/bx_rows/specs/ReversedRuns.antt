-- Runs reversed in place, while the levels stay in place, as the code does L2.
use Rattle.std.specs.Prelude.{◌≡◌, ℕ, List, ◌++◌, drop, map, min, reverse, take}
use Rattle.std.specs.List.{between}

-- the elements from `start` to before `stop` reversed in place
abbrev pub turned : {X : Type 0} → ℕ → ℕ → List X → List X
turned start stop xs = take start xs ++ reverse (between start stop xs) ++ drop stop xs

-- the levels are those of the units `us` (each a number and a level), if all levels from `n` up count as equal
abbrev pub AgreeUpTo : ℕ → List ℕ → List (ℕ × ℕ) → Type 0
AgreeUpTo n levels us = map (λ l. min n l) levels ≡ map (λ u. min n u.1) us
