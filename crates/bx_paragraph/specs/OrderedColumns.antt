-- The columns of a row's units in visual order, for the proof that the slots' columns stay in the window.
use Rattle.std.specs.Prelude.{ℕ, List, slice_index_or, sum_by}

-- the sum of the columns of the units whose indexes `order` has
abbrev pub ordered_columns : List ℕ → List ℕ → ℕ
ordered_columns columns order = sum_by (λ k. slice_index_or columns k 0) order
