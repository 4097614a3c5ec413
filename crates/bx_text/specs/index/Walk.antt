-- The value of a walk over the paragraphs of a text: the paragraphs, and the number of the one that it is at.
use Rattle.std.specs.Prelude.{◌≡◌, ℕ, ◌≤◌, List, take, get_or, map}
use Rattle.bx_text.specs.Edits.{largest_text}
use Rattle.bx_text.specs.declared.index.lengths.Lengths.{Lengths}
use Rattle.bx_text.specs.declared.index.walk.ParagraphWalk.TheInside.{Inside}
use Rattle.bx_text.specs.index.Paragraphs.{total}
use Rattle.bx_text.specs.index.Spots.{IsSpot, closed}

pub record WalkState : Type 0 where
  pub paragraphs : List Lengths
  -- from 0, below the number of paragraphs
  pub number : ℕ

-- all paragraphs of the text, the last included
abbrev pub all_of : Inside → List Lengths
all_of w = closed w.blocks.now.blocks w.last

-- the value of the code's walk
abbrev pub walk_of : Inside → WalkState
walk_of w = record { paragraphs = all_of w; number = w.spot.number }

-- what always holds of a walk: its spot, start and lengths are of one paragraph
pub record IsWalk (w : Inside) : Type 0 where
  pub stands : IsSpot w.blocks.now.blocks w.spot
  pub begins : w.start ≡ total (take w.spot.number (all_of w))
  pub is : w.here ≡ get_or (all_of w) w.spot.number w.here
  pub short : total (all_of w) ≤ largest_text

-- the length of each separator
abbrev pub separators : List Lengths → List ℕ
separators ps = map (λ p. p.separator) ps
