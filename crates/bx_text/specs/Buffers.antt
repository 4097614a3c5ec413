-- Pieces of whole characters in the two buffers of a text.
use Rattle.std.specs.Prelude.{◌≡◌, ℕ, ◌+◌, ◌<◌, ◌≤◌, List, [], ◌∷◌, length, take, drop, IsCharBoundary}
use Rattle.std.specs.Str.{IsUtf8}
use Rattle.bx_text.specs.declared.pieces.piece.Buffer.TheVariants.{Added}
use Rattle.bx_text.specs.declared.pieces.piece.Piece.{Piece}
use Rattle.bx_text.specs.pieces.Pieces.{pushed}
pub use Rattle.bx_text.specs.pieces.Bytes.{Buffers, buffer_bytes, bytes_of, piece_bytes}

-- the piece lies in its buffer, and consists of whole characters
pub record IsInBuffer (b : Buffers) (p : Piece) : Type 0 where
  pub inside : p.start + p.len ≤ length (buffer_bytes b p.buffer)
  pub utf8 : IsUtf8 (piece_bytes b p)

-- each of the pieces lies so in its buffer
abbrev pub AreInBuffers : Buffers → List Piece → Type 0
AreInBuffers b [] = Unit {0}
AreInBuffers b (p ∷ ps) = IsInBuffer b p × AreInBuffers b ps

-- the pieces, and then len bytes of the added text from offset start
abbrev pub with_added : List Piece → ℕ → ℕ → List Piece
with_added ps start len = pushed ps (record { buffer = Added; start = start; len = len })

-- `rest` are the bytes of the text from the offset `at` to a later character boundary
pub record IsRest (text : List ℕ) (at : ℕ) (rest : List ℕ) : Type 0 where
  pub bytes : take (length rest) (drop at text) ≡ rest
  pub not_empty : 0 < length rest
  pub next : IsCharBoundary text (at + length rest)
