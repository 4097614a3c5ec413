-- The ranges of indexes that a walk over the pairs knows to be clear of a direction, so that it skips them. A direction is L or R;
-- `embedding` is the direction of the sequence's level.
use Rattle.std.specs.Prelude.{◌≡◌, ◌≤◌, ◌<◌, ℕ, false, true, List, slice_index_or, max, min, length}
use Rattle.bx_ucd.specs.declared.class.Class.{Class}
use Rattle.bx_ucd.specs.declared.class.Class.TheVariants.{L}
use Rattle.bx_levels.specs.declared.brackets.resolve.Clear.{Clear}
use Rattle.bx_levels.specs.declared.brackets.resolve.Clears.{Clears}
use Rattle.bx_levels.specs.declared.brackets.resolve.Known.{Known}
use Rattle.bx_levels.specs.brackets.Resolve.{counts_as, opposite, context_of}

-- no type at an index in `from..to` counts as the direction `d`
abbrev pub IsClear : Class → List Class → Clear → Type 0
IsClear d ts c = (k : ℕ) → c.from ≤ k → k < c.to → counts_as d (slice_index_or ts k L) ≡ false

-- the two ranges are clear of the embedding direction, and of the other one
pub record AreClear (embedding : Class) (ts : List Class) (c : Clears) : Type 0 where
  pub embedding_is : IsClear embedding ts c.embedding
  pub other_is : IsClear (opposite embedding) ts c.other

-- two lists of types agree from index `n` on
abbrev pub AreSameFrom : ℕ → List Class → List Class → Type 0
AreSameFrom n old new = (k : ℕ) → n ≤ k → slice_index_or new k L ≡ slice_index_or old k L

-- the part of a clear range in `from..to`
abbrev pub between : Clear → ℕ → ℕ → Clear
between c from to = record { from = max c.from from; to = min c.to to }

-- the ranges that stay clear after the brackets of a pair, with the NSMs after them, took the direction `d`: `from..to` is between them
abbrev pub clear_after : Class → Class → Clears → ℕ → ℕ → Clears
clear_after embedding d c from to = elim (counts_as embedding d) [
  | true ↦ record c { embedding = between c.embedding from to }
  | false ↦ record c { other = between c.other from to }
]

-- the state of a walk over the pairs is right: its context is the nearest direction before its index, and its ranges are clear
pub record IsKnown (embedding sos : Class) (ts : List Class) (k : Known) : Type 0 where
  pub within : k.index ≤ length ts
  pub context_is : k.context ≡ context_of sos ts k.index
  pub clear : AreClear embedding ts k.clears

-- the state before the first pair: the context is `sos`, and the clear ranges are empty
abbrev pub known_first : Class → Known
known_first sos = record {
  index = 0;
  context = sos;
  clears = record { embedding = record { from = 0; to = 0 }; other = record { from = 0; to = 0 } };
}
