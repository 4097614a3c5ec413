-- A text that is searched, lent piece by piece, since it is stored in pieces.
use Rattle.std.specs.Prelude.{◌≡◌, ℕ, ◌+◌, ◌<◌, List, length, take, drop, IsCharBoundary}

-- the text continues with this piece at an offset, and the piece ends between characters
pub record IsPieceAt (text : List ℕ) (at : ℕ) (piece : List ℕ) : Type 0 where
  pub bytes : take (length piece) (drop at text) ≡ piece
  pub not_empty : 0 < length piece
  pub next : IsCharBoundary text (at + length piece)
