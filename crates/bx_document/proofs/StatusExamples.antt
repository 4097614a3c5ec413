-- Worked examples, computed with the small tables: input lines, and what a row shows of them with its end.
use Rattle.std.proofs.Common.{◌≡◌, ℕ, false, List, [], ◌∷◌, ◌++◌, map, refl}
use Rattle.std.specs.Prelude.{Option, Some, None, codes, encode_utf8_all}
use Rattle.unicode_segmentation.proofs.Computing.{unicode_segmentation}
use Rattle.unicode_width.proofs.Computing.{unicode_width}
use Rattle.bx_ucd.specs.SmallTables.{small}
use Rattle.bx_grid.specs.Columns.{Col, Glyph, blank}
use Rattle.bx_rows.specs.RowPicture.{letter_glyphs}
use Rattle.bx_document.specs.Drawing.{glyph_row}
use Rattle.bx_document.specs.InputLine.{column_shown, glyphs_or, input_line, line_glyphs}
use Rattle.bx_document.specs.StatusRow.{name_glyphs, with_end}

-- columns of one character each, of one byte or two
abbrev plain : List ℕ → List Col
plain text = map (λ b. Glyph (b ∷ []) 1 0 false) text

abbrev letter : ℕ → ℕ → Col
letter first second = Glyph (first ∷ second ∷ []) 1 0 false

abbrev alef : ℕ
alef = 0x5d0

abbrev bet : ℕ
bet = 0x5d1

abbrev wide : ℕ
wide = 0x4e16

abbrev latin : List ℕ
latin = codes "xyz"

abbrev hebrew : List ℕ
hebrew = encode_utf8_all (alef ∷ bet ∷ [])

-- a text of two letters and a line in a row of `w` columns, with the cursor at a place of the line
abbrev asked : ℕ → List ℕ → ℕ → List Col
asked w line place = glyph_row w (letter_glyphs (codes "ab") ++ glyphs_or (line_glyphs small line) (input_line small w 2 line place))

abbrev cursor : ℕ → List ℕ → ℕ → Option ℕ
cursor w line place = column_shown (input_line small w 2 line place)

a_line_with_room : asked 7 latin 3 ≡ plain (codes "abxyz  ")
unfolding unicode_segmentation unicode_width
a_line_with_room = refl

a_cursor_at_its_end : cursor 7 latin 3 ≡ Some 6
unfolding unicode_segmentation unicode_width
a_cursor_at_its_end = refl

-- for the cursor a letter is left out at the left
a_letter_is_left_out : asked 5 latin 3 ≡ plain (codes "abyz ")
unfolding unicode_segmentation unicode_width
a_letter_is_left_out = refl

its_cursor_is_in_the_row : cursor 5 latin 3 ≡ Some 5
unfolding unicode_segmentation unicode_width
its_cursor_is_in_the_row = refl

-- none, where the cursor has room
none_is_left_out : asked 4 latin 0 ≡ plain (codes "abxy")
unfolding unicode_segmentation unicode_width
none_is_left_out = refl

no_room_for_the_cursor : cursor 2 latin 0 ≡ None
unfolding unicode_segmentation unicode_width
no_room_for_the_cursor = refl

-- a line from right to left is in its own order, beside the text, and its end is left of it
a_line_in_its_order : asked 5 hebrew 0 ≡ plain (codes "ab") ++ letter 0xd7 0x91 ∷ letter 0xd7 0x90 ∷ blank ∷ []
unfolding unicode_segmentation unicode_width
a_line_in_its_order = refl

its_first_letter_is_at_the_right : cursor 5 hebrew 0 ≡ Some 4
unfolding unicode_segmentation unicode_width
its_first_letter_is_at_the_right = refl

its_end_is_at_the_left : cursor 5 hebrew 4 ≡ Some 2
unfolding unicode_segmentation unicode_width
its_end_is_at_the_left = refl

-- a wide glyph needs two columns, and no glyph follows one that has no room
a_wide_glyph_has_no_room : asked 3 (encode_utf8_all (wide ∷ 0x78 ∷ [])) 0 ≡ plain (codes "ab ")
unfolding unicode_segmentation unicode_width
a_wide_glyph_has_no_room = refl

an_empty_line : asked 4 [] 0 ≡ plain (codes "ab  ")
unfolding unicode_segmentation unicode_width
an_empty_line = refl

-- a text of two letters, and a name and a direction at the row's end
abbrev ended : ℕ → List ℕ → List Col
ended w name = glyph_row w (with_end w (letter_glyphs (codes "ab")) (name_glyphs small name) false)

-- two blanks stand before it
an_end_with_room : ended 9 (codes "f") ≡ plain (codes "ab  f ltr")
unfolding unicode_segmentation unicode_width
an_end_with_room = refl

a_name_without_room : ended 8 (codes "f") ≡ plain (codes "ab   ltr")
unfolding unicode_segmentation unicode_width
a_name_without_room = refl

a_direction_without_room : ended 6 (codes "f") ≡ plain (codes "ab    ")
unfolding unicode_segmentation unicode_width
a_direction_without_room = refl

-- a tab in a name is not shown
no_tab_in_a_name : ended 11 (0x66 ∷ 0x9 ∷ 0x67 ∷ []) ≡ plain (codes "ab   fg ltr")
unfolding unicode_segmentation unicode_width
no_tab_in_a_name = refl
