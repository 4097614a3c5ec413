-- Sequences of pieces of a text, split at offsets in bytes of that text.
use Rattle.std.specs.Prelude.{◌^◌, ◌<◌, ◌&&◌, ℕ, ◌+◌, ◌-◌, Bool, true, false, nat_le, ◌==◌, List, [], ◌∷◌, ◌++◌, Option, Some, None, if◌then◌else◌}
use Rattle.bx_text.specs.declared.pieces.piece.Buffer.{Buffer}
use Rattle.bx_text.specs.declared.pieces.piece.Buffer.TheVariants.{Opened, Added}
use Rattle.bx_text.specs.declared.pieces.piece.Piece.{Piece}

-- the length of the pieces in bytes
abbrev pub total : List Piece → ℕ
total [] = 0
total (p ∷ ps) = p.len + total ps

-- the piece with the byte at offset k, and the offset of that byte in the piece
abbrev pub holding : List Piece → ℕ → Option (Piece × ℕ)
holding [] k = None
holding (p ∷ ps) k = if nat_le p.len k then holding ps (k - p.len) else Some (p, k)

-- the first k bytes of a piece, and those after them
abbrev pub first_of : Piece → ℕ → Piece
first_of p k = record p { len = k }

abbrev pub rest_of : Piece → ℕ → Piece
rest_of p k = record p { start = p.start + k; len = p.len - k }

-- the pieces of the first k bytes, and those of the bytes after them; a piece with bytes on both sides is split
abbrev pub front : List Piece → ℕ → List Piece
front [] k = []
front (p ∷ ps) k = if nat_le p.len k then p ∷ front ps (k - p.len) else if k == 0 then [] else first_of p k ∷ []

abbrev pub back : List Piece → ℕ → List Piece
back [] k = []
back (p ∷ ps) k = if nat_le p.len k then back ps (k - p.len) else if k == 0 then p ∷ ps else rest_of p k ∷ ps

-- the two buffers are the same
abbrev pub are_same : Buffer → Buffer → Bool
are_same Opened Opened = true
are_same Opened Added = false
are_same Added Opened = false
are_same Added Added = true

-- the piece `q` begins where `p` ends, in the same buffer
abbrev pub goes_on : Piece → Piece → Bool
goes_on p q = are_same p.buffer q.buffer && (p.start + p.len == q.start)

-- the last piece, if there is one
abbrev pub last_of : List Piece → Option Piece
last_of [] = None
last_of (p ∷ []) = Some p
last_of (p ∷ x ∷ ps) = last_of (x ∷ ps)

-- the last piece gets n bytes longer
abbrev pub longer : List Piece → ℕ → List Piece
longer [] n = []
longer (p ∷ []) n = record p { len = p.len + n } ∷ []
longer (p ∷ x ∷ ps) n = p ∷ longer (x ∷ ps) n

-- the pieces `ps`, whose last one is given, after a piece `q` is appended: it lengthens the last one if it begins where that one ends
abbrev pub pushed_after : Option Piece → List Piece → Piece → List Piece
pushed_after None ps q = ps ++ q ∷ []
pushed_after (Some p) ps q = if goes_on p q then longer ps q.len else ps ++ q ∷ []

-- the pieces `ps` after a piece `q` is appended; an empty piece changes nothing
abbrev pub pushed : List Piece → Piece → List Piece
pushed ps q = if q.len == 0 then ps else pushed_after (last_of ps) ps q

-- each piece ends at an offset of its buffer below 2^64
abbrev pub IsAddressable : List Piece → Type 0
IsAddressable [] = Unit {0}
IsAddressable (p ∷ ps) = (p.start + p.len < 2 ^ 64) × IsAddressable ps
