-- The two buffers of a text, and the bytes that pieces have in them.
use Rattle.std.specs.Prelude.{ℕ, ◌+◌, ◌≤◌, List, [], ◌∷◌, ◌++◌, length, take, drop}
use Rattle.bx_text.specs.declared.pieces.piece.Buffer.{Buffer}
use Rattle.bx_text.specs.declared.pieces.piece.Buffer.TheVariants.{Opened, Added}
use Rattle.bx_text.specs.declared.pieces.piece.Piece.{Piece}

-- the text as opened, and all text inserted since
pub record Buffers : Type 0 where
  pub opened : List ℕ
  pub added : List ℕ

abbrev pub buffers : List ℕ → List ℕ → Buffers
buffers opened added = record { opened = opened; added = added }

-- the bytes of the buffer that a piece names
abbrev pub buffer_bytes : Buffers → Buffer → List ℕ
buffer_bytes b Opened = b.opened
buffer_bytes b Added = b.added

-- the bytes of a piece: `len` bytes of its buffer from `start` on
abbrev pub piece_bytes : Buffers → Piece → List ℕ
piece_bytes b p = take p.len (drop p.start (buffer_bytes b p.buffer))

-- the bytes of pieces, joined: of all pieces of a text, the text
abbrev pub bytes_of : Buffers → List Piece → List ℕ
bytes_of b [] = []
bytes_of b (p ∷ ps) = piece_bytes b p ++ bytes_of b ps

-- each piece lies in its buffer
abbrev pub AreWithin : Buffers → List Piece → Type 0
AreWithin b [] = Unit {0}
AreWithin b (p ∷ ps) = (p.start + p.len ≤ length (buffer_bytes b p.buffer)) × AreWithin b ps
