-- Where a paragraph is stored in the blocks, for a walk.
use Rattle.std.specs.Prelude.{◌≡◌, ℕ, ◌+◌, ◌<◌, ◌≤◌, List, [], ◌∷◌, ◌++◌, length, take, get_or}
use Rattle.bx_text.specs.declared.index.lengths.Lengths.{Lengths}
use Rattle.bx_text.specs.declared.index.spot.Spot.{Spot}
use Rattle.bx_text.specs.index.Flat.{flat}

-- the paragraphs of some blocks, and then the last, of `last` bytes
abbrev pub closed : List (List Lengths) → ℕ → List Lengths
closed bs last = flat bs ++ record { body = last; separator = 0 } ∷ []

-- the spot is where the paragraph of its number is stored: in a block, or after all blocks
pub record IsSpot (bs : List (List Lengths)) (s : Spot) : Type 0 where
  pub inside : s.block ≤ length bs
  pub counted : s.number ≡ length (flat (take s.block bs)) + s.within
  pub held : s.block < length bs → s.within < length (get_or bs s.block [])
  pub behind : length bs ≤ s.block → s.within ≡ 0
