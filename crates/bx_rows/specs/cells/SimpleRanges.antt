-- The ranges of characters that the code takes as simple (src/cells/simple.rt), each with both ends included. They are part of the simple
-- characters; proofs/cells_lemmas/RangeFacts.antt shows that.
use Rattle.std.specs.Prelude.{◌≡◌, ℕ, true, List, [], ◌∷◌, ⊤}
use Rattle.ucd_table.specs.Rows.{Range}
use Rattle.bx_rows.specs.cells.Simple.{begins, is_mark, own_columns}
use Rattle.bx_rows.specs.declared.cells.simple.Simple.{Simple}
use Rattle.bx_rows.specs.declared.cells.simple.Simple.TheVariants.{Begins, Extends, Other}

-- printable ASCII, Hebrew letters and the main block of Arabic letters
abbrev pub common_ranges : List Range
common_ranges =
    (0x0020, 0x007E)
    ∷ (0x05D0, 0x05EA)
    ∷ (0x061D, 0x064A)
    ∷ []

-- Further characters of one column, in this order: Latin-1, Latin Extended and IPA; Greek, Cyrillic and Armenian; Hebrew and
-- Arabic punctuation, digits and further letters; Latin and Greek Extended Additional; dashes, quotation marks and dots;
-- currency signs and letterlike symbols; lines and boxes.
abbrev pub narrow_ranges : List Range
narrow_ranges =
    (0x00A1, 0x00AC)
    ∷ (0x00AE, 0x02FF)
    ∷ (0x0370, 0x0482)
    ∷ (0x048A, 0x0590)
    ∷ (0x05BE, 0x05BE)
    ∷ (0x05C0, 0x05C0)
    ∷ (0x05C3, 0x05C3)
    ∷ (0x05C6, 0x05C6)
    ∷ (0x05EB, 0x05FF)
    ∷ (0x0606, 0x060F)
    ∷ (0x061B, 0x061B)
    ∷ (0x0660, 0x066F)
    ∷ (0x0671, 0x06D5)
    ∷ (0x06EE, 0x070E)
    ∷ (0x1E00, 0x200A)
    ∷ (0x2010, 0x2027)
    ∷ (0x202F, 0x205F)
    ∷ (0x2070, 0x20CF)
    ∷ (0x2100, 0x2319)
    ∷ (0x2500, 0x25FC)
    ∷ []

-- kana, CJK and full width forms
abbrev pub wide_ranges : List Range
wide_ranges =
    (0x2F00, 0x2FD5)
    ∷ (0x3001, 0x3029)
    ∷ (0x3041, 0x3096)
    ∷ (0x309B, 0x30FF)
    ∷ (0x3400, 0x4DBF)
    ∷ (0x4E00, 0x9FFF)
    ∷ (0xF900, 0xFAFF)
    ∷ (0xFF01, 0xFF60)
    ∷ []

-- Hebrew points, Arabic marks, combining marks
abbrev pub mark_ranges : List Range
mark_ranges =
    (0x0300, 0x0337)
    ∷ (0x0339, 0x036F)
    ∷ (0x0483, 0x0489)
    ∷ (0x0591, 0x05BD)
    ∷ (0x05BF, 0x05BF)
    ∷ (0x05C1, 0x05C2)
    ∷ (0x05C4, 0x05C5)
    ∷ (0x05C7, 0x05C7)
    ∷ (0x0610, 0x061A)
    ∷ (0x064B, 0x065F)
    ∷ (0x0670, 0x0670)
    ∷ (0x06D6, 0x06DC)
    ∷ (0x06DF, 0x06E4)
    ∷ []

-- Hebrew points, among the marks
abbrev pub point_ranges : List Range
point_ranges =
    (0x0591, 0x05BD)
    ∷ (0x05BF, 0x05BF)
    ∷ (0x05C1, 0x05C2)
    ∷ (0x05C4, 0x05C5)
    ∷ (0x05C7, 0x05C7)
    ∷ []

-- kana letters and the main block of ideographs, among the wide characters
abbrev pub ideograph_ranges : List Range
ideograph_ranges =
    (0x3041, 0x3096)
    ∷ (0x30A1, 0x30FA)
    ∷ (0x4E00, 0x9FFF)
    ∷ []

-- Arabic letters in their forms, each a character of its own, which take one column
abbrev pub form_ranges : List Range
form_ranges =
    (0xFB50, 0xFBB1)
    ∷ (0xFBD3, 0xFBFF)
    ∷ (0xFE80, 0xFEFC)
    ∷ []

-- the kind agrees with the rules for the character; `Other` agrees with any
abbrev pub Tells : ℕ → Simple → Type 0
Tells c (Begins columns) = (begins c ≡ true) × (own_columns c ≡ columns)
Tells c Extends = is_mark c ≡ true
Tells c Other = ⊤
