-- Worked examples, computed with the small tables: status rows, regions in drawn rows, lines, and what an edit touches.
use Rattle.std.proofs.Common.{◌≡◌, ℕ, ◌==◌, true, false, List, [], ◌∷◌, ◌++◌, map, replicate, Some, None, refl}
use Rattle.std.specs.Prelude.{codes}
use Rattle.unicode_segmentation.proofs.Computing.{unicode_segmentation}
use Rattle.unicode_width.proofs.Computing.{unicode_width}
use Rattle.bx_ucd.specs.SmallTables.{small}
use Rattle.bx_common.specs.declared.base.Base.TheVariants.{Auto}
use Rattle.bx_text.specs.Edits.{Edited, inserted, opened, wrapped}
use Rattle.bx_text.specs.Changes.{exchanged}
use Rattle.bx_grid.specs.Columns.{Col, Glyph, blank}
use Rattle.bx_rows.specs.RowPicture.{letter_glyphs}
use Rattle.bx_view.specs.TextRows.{TextRow, row_at}
use Rattle.bx_view.proofs.Computed.{rows}
use Rattle.bx_document.specs.declared.edits.RegionEnd.TheVariants.{Start, Stop}
use Rattle.bx_document.specs.declared.history.HistoryStep.TheVariants.{Undo, Redo}
use Rattle.bx_document.specs.Document.{Document, after_replacement, after_wrap, at_opening, place_after}
use Rattle.bx_document.specs.Drawing.{glyph_row, row_columns, region_columns, region_rows, turned_where}
use Rattle.bx_document.specs.History.{next_changes, stepped_times}
use Rattle.bx_document.specs.Past.{next_change, stepped}
use Rattle.bx_document.specs.Line.{line_of}
use Rattle.bx_document.specs.Shown.{rows_above, shown_columns}
use Rattle.bx_document.specs.Touched.{touched}

-- columns of one character each, not negative or negative
abbrev plain : List ℕ → List Col
plain text = map (λ b. Glyph (b ∷ []) 1 0 false) text

abbrev negative : List ℕ → List Col
negative text = map (λ b. Glyph (b ∷ []) 1 0 true) text

-- columns of a character of two bytes
abbrev letter : ℕ → ℕ → Col
letter first second = Glyph (first ∷ second ∷ []) 1 0 false

abbrev wide : ℕ
wide = 0x4e16

abbrev alef : ℕ
alef = 0x5d0

abbrev bet : ℕ
bet = 0x5d1

-- ---- the status row

blanks_after_a_message : glyph_row 6 (letter_glyphs (codes "- 1")) ≡ plain (codes "- 1   ")
unfolding unicode_segmentation unicode_width
blanks_after_a_message = refl

a_long_message_is_cut : glyph_row 2 (letter_glyphs (codes "abc")) ≡ plain (codes "ab")
unfolding unicode_segmentation unicode_width
a_long_message_is_cut = refl

-- ---- a row, and a region in it

-- row `k` of a text in a window of `w` columns
abbrev row : ℕ → List ℕ → ℕ → TextRow
row w text k = row_at (rows w text) k

a_row_has_the_width : row_columns small 5 (row 5 (codes "abc") 0) ≡ plain (codes "abc  ")
unfolding unicode_segmentation unicode_width
a_row_has_the_width = refl

columns_by_number : turned_where (λ k. k == 2) 1 (plain (codes "abc")) ≡ plain (codes "a") ++ negative (codes "b") ++ plain (codes "c")
columns_by_number = refl

-- from the offset 1 up to 2
region_of_a_letter : region_columns small 5 (1, 2) (row 5 (codes "abc") 0) ≡ plain (codes "a") ++ negative (codes "b") ++ plain (codes "c  ")
unfolding unicode_segmentation unicode_width
region_of_a_letter = refl

an_empty_region : region_columns small 5 (1, 1) (row 5 (codes "abc") 0) ≡ plain (codes "abc  ")
unfolding unicode_segmentation unicode_width
an_empty_region = refl

-- the first of two Hebrew letters is the right one
region_from_right_to_left : region_columns small 3 (0, 2) (row 3 (alef ∷ bet ∷ []) 0)
    ≡ blank ∷ letter 0xd7 0x91 ∷ Glyph (0xd7 ∷ 0x90 ∷ []) 1 0 true ∷ []
unfolding unicode_segmentation unicode_width
region_from_right_to_left = refl

-- both columns of a wide glyph
region_of_a_wide_glyph : region_columns small 3 (0, 3) (row 3 (wide ∷ 0x61 ∷ []) 0)
    ≡ Glyph (0xe4 ∷ 0xb8 ∷ 0x96 ∷ []) 2 0 true ∷ Glyph (0xe4 ∷ 0xb8 ∷ 0x96 ∷ []) 2 1 true ∷ plain (codes "a")
unfolding unicode_segmentation unicode_width
region_of_a_wide_glyph = refl

-- a region over two rows, and a row of blanks past the text's end
region_over_rows : region_rows small 2 (1, 3) 3 (rows 2 (codes "ab\ncd"))
    ≡ plain (codes "a") ++ negative (codes "b") ++ plain (codes "cd") ++ replicate 2 blank
unfolding unicode_segmentation unicode_width
region_over_rows = refl

-- ---- visible rows

abbrev three_lines : Document
three_lines = at_opening (codes "1\n2\n3") 2 Auto

rows_from_the_second : shown_columns small three_lines 2 (0, 0) 2 ≡ plain (codes "2 3 ")
unfolding unicode_segmentation unicode_width
rows_from_the_second = refl

one_row_above_the_third : rows_above small three_lines 2 4 ≡ 1
unfolding unicode_segmentation unicode_width
one_row_above_the_third = refl

-- ---- lines, and what an edit touches

first_line : line_of small (codes "a\nb") 1 ≡ (0, 2)
unfolding unicode_segmentation unicode_width
first_line = refl

last_line : line_of small (codes "a\nb") 3 ≡ (2, 3)
unfolding unicode_segmentation unicode_width
last_line = refl

-- 2 becomes x; the paragraph before it ends at the edit, so it is touched too
touched_by_a_letter : touched small (codes "1\n2\n3") 2 3 (codes "x") ≡ codes "1\nx\n"
unfolding unicode_segmentation unicode_width
touched_by_a_letter = refl

-- a letter before a mark takes it, and the cursor goes after both
a_letter_takes_a_mark : place_after small (at_opening (0xcc ∷ 0x81 ∷ []) 4 Auto) 0 0 (codes "e") ≡ 3
unfolding unicode_segmentation unicode_width
a_letter_takes_a_mark = refl

-- ---- undo and redo

-- x was put in at 1
undo_takes_it_out : next_change Undo (inserted (opened (codes "ab")) 1 (codes "x") 1 2) ≡ Some (record { start = 1; removed = 1; added = 0; place = 1 })
undo_takes_it_out = refl

no_redo_after_an_edit : next_change Redo (inserted (opened (codes "ab")) 1 (codes "x") 1 2) ≡ None
no_redo_after_an_edit = refl

redo_after_undo : stepped Redo (stepped Undo (inserted (opened (codes "ab")) 1 (codes "x") 1 2)) ≡ inserted (opened (codes "ab")) 1 (codes "x") 1 2
redo_after_undo = refl

-- x and y were put in: both are taken out at once, and the cursor is where it was before the first
abbrev two_letters : Edited
two_letters = inserted (inserted (opened (codes "ab")) 1 (codes "x") 1 2) 2 (codes "y") 2 3

two_undone : next_changes Undo 2 two_letters ≡ Some (record { start = 1; removed = 2; added = 0; place = 1 })
two_undone = refl

two_undone_text : (stepped_times Undo 2 two_letters).text ≡ codes "ab"
two_undone_text = refl

two_redone : next_changes Redo 2 (stepped_times Undo 2 two_letters) ≡ Some (record { start = 1; removed = 0; added = 2; place = 3 })
two_redone = refl

-- ---- two edits at once

-- x takes the place of ab
a_letter_for_two : (after_replacement small (at_opening (codes "abc") 4 Auto) 0 2 (codes "x") 2).content
    ≡ exchanged (opened (codes "abc")) 0 2 0 (codes "x") 2 0 1
unfolding unicode_segmentation unicode_width
a_letter_for_two = refl

-- e takes the place of a, and with it the mark that stood on a
a_letter_for_one_with_a_mark : (after_replacement small (at_opening (0x61 ∷ 0xcc ∷ 0x81 ∷ []) 4 Auto) 0 1 (codes "e") 3).content
    ≡ exchanged (opened (0x61 ∷ 0xcc ∷ 0x81 ∷ [])) 0 1 0 (codes "e") 3 0 3
unfolding unicode_segmentation unicode_width
a_letter_for_one_with_a_mark = refl

-- Removing the separator joins the mark to a, so x is inserted after the mark.
behind_a_mark_that_joins : (after_replacement small (at_opening (0x61 ∷ 0x0a ∷ 0xcc ∷ 0x81 ∷ []) 4 Auto) 1 2 (codes "x") 2).content
    ≡ exchanged (opened (0x61 ∷ 0x0a ∷ 0xcc ∷ 0x81 ∷ [])) 1 2 3 (codes "x") 2 3 4
unfolding unicode_segmentation unicode_width
behind_a_mark_that_joins = refl

-- brackets around b: the cursor stays at the same end of b
wrapped_from_the_start : (after_wrap small (at_opening (codes "abc") 8 Auto) 1 2 (codes "(") (codes ")") 1 Start).content
    ≡ wrapped (opened (codes "abc")) 1 2 (codes "(") (codes ")") 1 3 2
unfolding unicode_segmentation unicode_width
wrapped_from_the_start = refl

wrapped_from_the_end : (after_wrap small (at_opening (codes "abc") 8 Auto) 1 2 (codes "(") (codes ")") 2 Stop).content
    ≡ wrapped (opened (codes "abc")) 1 2 (codes "(") (codes ")") 2 3 3
unfolding unicode_segmentation unicode_width
wrapped_from_the_end = refl
