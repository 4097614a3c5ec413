-- The status row: at its left what is told, at its right a file's name and the direction of a paragraph. `d` is the data of Unicode's
-- tables, `w` the row's columns.
use Rattle.std.specs.Prelude.{ℕ, ◌+◌, ◌-◌, ◌==◌, ◌||◌, nat_le, Bool, true, false, not, List, [], ◌∷◌, ◌++◌, filter, replicate, chars, codes, encode_utf8_all}
use Rattle.std.specs.Prelude.{Option, Some, None, if◌then◌else◌}
use Rattle.bx_document.specs.InputLine.{columns_taken, line_glyphs}
use Rattle.bx_rows.specs.RowPicture.{Glyph, blank, letter_glyphs}
use Rattle.bx_text.specs.index.Paragraphs.{is_separator}
use Rattle.bx_ucd.specs.Data.{Data}

-- a character that no input line has, and no name shows: a tab, or one that separates paragraphs
abbrev pub is_no_letter : Data → ℕ → Bool
is_no_letter d c = (c == 0x9) || is_separator (d.class c)

-- the characters of a name that are shown, in UTF-8
abbrev pub shown_name : Data → List ℕ → List ℕ
shown_name d name = encode_utf8_all (filter (λ c. not (is_no_letter d c)) (chars name))

-- the glyphs of a name: as an input line's
abbrev pub name_glyphs : Data → List ℕ → List Glyph
name_glyphs d name = line_glyphs d (shown_name d name)

-- a direction in letters
abbrev pub direction_text : Bool → List ℕ
direction_text true = codes "rtl"
direction_text false = codes "ltr"

-- the end of the row: a name with a blank behind it, if it has glyphs, and a direction
abbrev pub row_end : List Glyph → Bool → List Glyph
row_end [] is_rtl = letter_glyphs (direction_text is_rtl)
row_end (g ∷ gs) is_rtl = (g ∷ gs) ++ (blank ∷ letter_glyphs (direction_text is_rtl))

-- an end has room behind the left side, with two blanks between them
abbrev pub has_end : ℕ → List Glyph → List Glyph → Bool
has_end w left end = nat_le (columns_taken left + 2 + columns_taken end) w

-- the left side, and at the row's end an end that has room
abbrev pub joined : ℕ → List Glyph → List Glyph → List Glyph
joined w left end = left ++ (replicate (w - columns_taken left - columns_taken end) blank ++ end)

-- the glyphs of the row: with name and direction where they have room, else with the direction alone if it has
abbrev pub with_end : ℕ → List Glyph → List Glyph → Bool → List Glyph
with_end w left name is_rtl =
    if has_end w left (row_end name is_rtl)
    then joined w left (row_end name is_rtl)
    else if has_end w left (row_end [] is_rtl) then joined w left (row_end [] is_rtl) else left

-- the glyphs of the row, where something stands at its end
abbrev pub with_some_end : ℕ → List Glyph → Option (List Glyph × Bool) → List Glyph
with_some_end w left None = left
with_some_end w left (Some end) = with_end w left end.0 end.1
