-- The value of an `Index` of the code: the lengths of each paragraph in bytes, and the room made for the next edit.
-- `ucd` is Unicode's data.
use Rattle.std.specs.Prelude.{ℕ, ◌+◌, ◌*◌, ◌≤◌, min, List, [], ◌∷◌, ◌++◌, length, Option, IfSome, IsUtf8, ◌-◌}
use Rattle.bx_ucd.specs.Data.{Data}
use Rattle.bx_text.specs.Edits.{largest_text}
use Rattle.bx_text.specs.Text.{HasRoomFor}
use Rattle.bx_text.specs.declared.index.lengths.Lengths.{Lengths}
use Rattle.bx_text.specs.declared.index.index.Index.TheInside.{Inside}
use Rattle.bx_text.specs.index.Capacity.{block_capacity}
use Rattle.bx_text.specs.index.Flat.{flat}
use Rattle.bx_text.specs.index.Paragraphs.{total, lengths}

pub record IndexState : Type 0 where
  pub paragraphs : List Lengths
  -- if it is Some n, the next edit allocates nothing if the added text has at most n separators; None: no room was made
  pub room : Option ℕ

-- the value of the code's index: the paragraphs in blocks, and the last, which has no separator
abbrev pub index_of : Inside → IndexState
index_of i = record { paragraphs = flat i.front.blocks ++ record { body = i.last; separator = 0 } ∷ []; room = i.room }

-- Enough spare blocks for the added separators (no text has more of them than bytes), two more paragraphs at the edges of the
-- edit, and the two blocks that it splits.
abbrev pub HasSpares : ℕ → ℕ → Type 0
HasSpares spares separators = min separators largest_text + 2 * block_capacity + 2 ≤ block_capacity * spares

-- what always holds of an `Index`
pub record IsIndex (i : Inside) : Type 0 where
  pub short : total (flat i.front.blocks ++ record { body = i.last; separator = 0 } ∷ []) ≤ largest_text
  pub few : length (flat i.front.blocks) ≤ largest_text
  pub has_room : IfSome i.room (HasSpares i.front.spares)

-- the number of paragraphs of a text that end with a separator: all but the last
abbrev pub separator_count : Data → List ℕ → ℕ
separator_count ucd text = length (lengths ucd text) - 1

-- a room covers the separators of each text of at most `bytes` bytes
abbrev pub CoversBytes : Option ℕ → ℕ → Type 0
CoversBytes room bytes = (ucd : Data) (text : List ℕ) → IsUtf8 text → length text ≤ bytes → HasRoomFor room (separator_count ucd text)
