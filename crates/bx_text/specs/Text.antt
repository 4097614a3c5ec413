-- The value of a `Text` of the code: its bytes with past and future, and the room made for the next edit.
use Rattle.std.specs.Prelude.{ℕ, ◌+◌, ◌≤◌, List, length, reverse, Option, None, Some, IfSome, string_bytes, string_len, string_capacity, vec_len, vec_capacity}
use Rattle.bx_text.specs.declared.text.Text.TheInside.{Inside}
use Rattle.bx_text.specs.Buffers.{Buffers, bytes_of, AreInBuffers}
use Rattle.bx_text.specs.Edits.{Edited, largest_text}
use Rattle.bx_text.specs.Steps.{past_of, future_of, AreSteps}

pub record TextState : Type 0 where
  pub edited : Edited
  -- if it is Some n, the next edit that inserts at most n bytes allocates nothing; None: no room was made
  pub room : Option ℕ

-- the buffers of a `Text`
abbrev pub buffers_of : Inside → Buffers
buffers_of t = record { opened = string_bytes t.opened; added = string_bytes t.added }

-- the text's bytes
abbrev pub bytes_in : Inside → List ℕ
bytes_in t = bytes_of (buffers_of t) t.pieces

-- the value; the code keeps the latest step of the past and the next of the future last, so both are read in reverse
abbrev pub text_of : Inside → TextState
text_of t = record {
  edited = record {
    text = bytes_in t;
    past = past_of (buffers_of t) (bytes_in t) (reverse t.past.items);
    future = future_of (buffers_of t) (bytes_in t) (reverse t.future.items);
  };
  room = t.room;
}

-- There is room for `bytes` bytes more, for one step more, and for the three nodes that one edit takes at most: two where it cuts
-- the pieces, one for the piece that it puts in.
pub record HasRoom (t : Inside) (bytes : ℕ) : Type 0 where
  pub bytes_fit : string_len t.added + bytes ≤ string_capacity t.added
  pub step_fits : vec_len t.past + 1 ≤ vec_capacity t.past
  pub trees : 3 ≤ t.spares

-- what always holds of a `Text`
pub record IsText (t : Inside) : Type 0 where
  pub in_buffers : AreInBuffers (buffers_of t) t.pieces
  pub short : length (bytes_in t) ≤ largest_text
  pub past_steps : AreSteps (buffers_of t) (bytes_in t) (reverse t.past.items)
  pub future_steps : AreSteps (buffers_of t) (bytes_in t) (reverse t.future.items)
  pub has_room : IfSome t.room (HasRoom t)

-- room was made for `bytes` bytes
abbrev pub HasRoomFor : Option ℕ → ℕ → Type 0
HasRoomFor None bytes = ⊥
HasRoomFor (Some room) bytes = bytes ≤ room
