-- Well-formed UTF-8 byte sequences (the Unicode Standard, table 3-7), as a grammar whose items are the characters.
use Rattle.std.specs.Prelude.{List, [], ◌∷◌}
use Rattle.bx_bytes.specs.Pattern.{Piece, One}
pub use Rattle.bx_common.specs.Characters.{is_control, is_ascii_printable, are_printable}

-- a byte after the first, where the table has its whole range
abbrev pub trail : Piece
trail = One 0x80 0xBF

-- the table's rows of more than one byte
abbrev pub long_characters : List (List Piece)
long_characters =
    (One 0xC2 0xDF ∷ trail ∷ [])
    ∷ (One 0xE0 0xE0 ∷ One 0xA0 0xBF ∷ trail ∷ [])
    ∷ (One 0xE1 0xEC ∷ trail ∷ trail ∷ [])
    ∷ (One 0xED 0xED ∷ One 0x80 0x9F ∷ trail ∷ [])
    ∷ (One 0xEE 0xEF ∷ trail ∷ trail ∷ [])
    ∷ (One 0xF0 0xF0 ∷ One 0x90 0xBF ∷ trail ∷ trail ∷ [])
    ∷ (One 0xF1 0xF3 ∷ trail ∷ trail ∷ trail ∷ [])
    ∷ (One 0xF4 0xF4 ∷ One 0x80 0x8F ∷ trail ∷ trail ∷ [])
    ∷ []

-- all rows of the table
abbrev pub characters : List (List Piece)
characters = (One 0x00 0x7F ∷ []) ∷ long_characters
