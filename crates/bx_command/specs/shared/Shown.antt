-- Names and texts in messages (`src/shared/shown.rt`).
use Rattle.std.specs.Prelude.{ℕ, Bool, ◌==◌, ◌&&◌, ◌||◌, nat_lt, if◌then◌else◌, List, [], ◌∷◌, length}
use Rattle.std.specs.Char.{is_ascii_alphanumeric}
use Rattle.std.specs.List.{list_all, list_any}
use Rattle.std.specs.Str.{chars}
use Rattle.ucd_table.specs.Rows.{Range, in_ranges}
use Rattle.bx_command.specs.declared.shared.shown.Style.{Style}
use Rattle.bx_command.specs.declared.shared.shown.Style.TheVariants.{Bare, Quoted, Escaped}

-- the characters that a terminal obeys, takes for directions or shows in no column, but for joiners: controls (Cc), line and
-- paragraph separators, and format characters (Cf) without Prepended_Concatenation_Mark; from 2060 to 206F and from E0000 to
-- E0FFF all, also unassigned ones
abbrev pub hidden_ranges : List Range
hidden_ranges =
    (0x0000, 0x001F)
    ∷ (0x007F, 0x009F)
    ∷ (0x00AD, 0x00AD)
    ∷ (0x061C, 0x061C)
    ∷ (0x180E, 0x180E)
    ∷ (0x200B, 0x200B)
    ∷ (0x200E, 0x200F)
    ∷ (0x2028, 0x202E)
    ∷ (0x2060, 0x206F)
    ∷ (0xFEFF, 0xFEFF)
    ∷ (0xFFF9, 0xFFFB)
    ∷ (0x13430, 0x1343F)
    ∷ (0x1BCA0, 0x1BCA3)
    ∷ (0x1D173, 0x1D17A)
    ∷ (0xE0000, 0xE0FFF)
    ∷ []

-- the character is one of these
abbrev pub is_hidden : ℕ → Bool
is_hidden c = in_ranges hidden_ranges c

-- the characters that a shell takes as they are: letters and digits of ASCII and _ . / + , @ % : = -
abbrev pub is_plain : ℕ → Bool
is_plain c = is_ascii_alphanumeric c || (c == 95 || (c == 46 || (c == 47 || (c == 43 || (c == 44 || (c == 64 || (c == 37 || (c == 58 || (c == 61 || c == 45)))))))))

-- a name is shown in $'..' if one of its characters is hidden, bare if it has characters and all are plain, else in quotes
abbrev pub style_of : List ℕ → Style
style_of name =
    if list_any is_hidden (chars name) then Escaped
    else (if nat_lt 0 (length name) && list_all is_plain (chars name) then Bare else Quoted)
