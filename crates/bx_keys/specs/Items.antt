-- The items that input is made of: control characters, characters, and escape sequences (ECMA-35, 13; ECMA-48, 5.4). `bs` are
-- bytes.
use Rattle.std.specs.Prelude.{ℕ, Bool, List, [], ◌∷◌, ◌++◌}
use Rattle.bx_bytes.specs.Pattern.{Piece, One, Many, matches_any, begins_any}
use Rattle.bx_bytes.specs.Utf8.{long_characters}

-- one byte below 80, except ESC
abbrev pub single_bytes : List (List Piece)
single_bytes = (One 0x00 0x1A ∷ []) ∷ (One 0x1C 0x7F ∷ []) ∷ []

abbrev pub escape : Piece
escape = One 0x1B 0x1B

-- CSI (ESC and `[`), parameter and intermediate bytes, and a final byte. Unlike in ECMA-48, 5.4, the two may be mixed, so
-- that such a sequence is dropped as a whole.
abbrev pub control_sequence : List Piece
control_sequence = escape ∷ One 0x5B 0x5B ∷ Many 0x20 0x3F ∷ One 0x40 0x7E ∷ []

-- SS3 (ESC and `O`) and one byte
abbrev pub single_shift : List Piece
single_shift = escape ∷ One 0x4F 0x4F ∷ One 0x20 0x7E ∷ []

-- ESC, intermediate bytes, and a final byte (ECMA-35, 13)
abbrev pub long_escape : List Piece
long_escape = escape ∷ One 0x20 0x2F ∷ Many 0x20 0x2F ∷ One 0x30 0x7E ∷ []

-- ESC and a final byte other than `O` (4F) and `[` (5B)
abbrev pub short_escapes : List (List Piece)
short_escapes =
    (escape ∷ One 0x30 0x4E ∷ [])
    ∷ (escape ∷ One 0x50 0x5A ∷ [])
    ∷ (escape ∷ One 0x5C 0x7E ∷ [])
    ∷ []

-- each way to make an item, as a row of pieces: `One` is a byte of a range, `Many` any number of such bytes
abbrev pub items : List (List Piece)
items = single_bytes ++ long_characters ++ (control_sequence ∷ single_shift ∷ long_escape ∷ short_escapes)

-- the bytes are one whole item
abbrev pub is_item : List ℕ → Bool
is_item bs = matches_any items bs

-- the bytes begin an item, or are one
abbrev pub begins_item : List ℕ → Bool
begins_item bs = begins_any items bs
