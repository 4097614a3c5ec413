-- Pointing, computed: the places at columns of the picture's rows, and the cells that they have.
use Rattle.std.proofs.Common.{◌≡◌, ℕ, List, [], ◌∷◌, ◌++◌, refl, map}
use Rattle.std.specs.Prelude.{codes}
use Rattle.unicode_segmentation.proofs.Computing.{unicode_segmentation}
use Rattle.unicode_width.proofs.Computing.{unicode_width}
use Rattle.bx_common.specs.declared.base.Base.TheVariants.{Rtl}
use Rattle.bx_view.specs.Top.{pointed_at, follow}
use Rattle.bx_view.specs.TextRows.{TextRow, cell_of}
use Rattle.bx_view.proofs.Computed.{rows, rows_under}

abbrev alef : ℕ
alef = 0x5d0

abbrev bet : ℕ
bet = 0x5d1

abbrev gimel : ℕ
gimel = 0x5d2

abbrev wide : ℕ
wide = 0x4e16

abbrev acute : ℕ
acute = 0x301

-- the places at columns of the picture's row `r`
abbrev along : ℕ → List TextRow → ℕ → ℕ → List ℕ → List ℕ
along w rs top r columns = map (pointed_at w rs top r) columns

-- a place, and the column of its cell
abbrev with_cell : ℕ → List TextRow → ℕ → ℕ × ℕ
with_cell w rs place = (place, cell_of w rs place)

-- letters, right of them the end, and past the window too
abbrev letters : List TextRow
letters = rows 10 (codes "abcd")

at_letters : along 10 letters 0 1 (3 ∷ 1 ∷ 4 ∷ 5 ∷ 10 ∷ 11 ∷ 500 ∷ []) ≡ 2 ∷ 0 ∷ 3 ∷ 4 ∷ 4 ∷ 4 ∷ 4 ∷ []
unfolding unicode_segmentation unicode_width
at_letters = refl

cells_of_letters : map (with_cell 10 letters) (2 ∷ 4 ∷ []) ≡ (2, 3) ∷ (4, 5) ∷ []
unfolding unicode_segmentation unicode_width
cells_of_letters = refl

-- from right to left: left of the letters is the end, and past the window too
abbrev hebrew : List TextRow
hebrew = rows 6 (alef ∷ bet ∷ gimel ∷ [])

at_hebrew : along 6 hebrew 0 1 (6 ∷ 5 ∷ 4 ∷ 3 ∷ 1 ∷ 6 ∷ 7 ∷ []) ≡ 0 ∷ 2 ∷ 4 ∷ 6 ∷ 6 ∷ 0 ∷ 6 ∷ []
unfolding unicode_segmentation unicode_width
at_hebrew = refl

end_of_hebrew : cell_of 6 hebrew 6 ≡ 3
unfolding unicode_segmentation unicode_width
end_of_hebrew = refl

-- both directions in a row, and a forced direction
at_mixed : along 8 (rows 8 (codes "a " ++ (alef ∷ bet ∷ []) ++ codes " b")) 0 1 (1 ∷ 2 ∷ 3 ∷ 4 ∷ 5 ∷ 6 ∷ 7 ∷ 8 ∷ [])
    ≡ 0 ∷ 1 ∷ 4 ∷ 2 ∷ 6 ∷ 7 ∷ 8 ∷ 8 ∷ []
unfolding unicode_segmentation unicode_width
at_mixed = refl

at_number : along 8 (rows 8 ((alef ∷ bet ∷ []) ++ codes " 12")) 0 1 (1 ∷ 2 ∷ 3 ∷ 4 ∷ 5 ∷ 6 ∷ 7 ∷ 8 ∷ [])
    ≡ 7 ∷ 7 ∷ 7 ∷ 5 ∷ 6 ∷ 4 ∷ 2 ∷ 0 ∷ []
unfolding unicode_segmentation unicode_width
at_number = refl

abbrev forced : List TextRow
forced = rows_under Rtl 20 (codes "ab")

at_forced : along 20 forced 0 1 (20 ∷ 19 ∷ 18 ∷ 1 ∷ []) ≡ 1 ∷ 0 ∷ 2 ∷ 2 ∷ []
unfolding unicode_segmentation unicode_width
at_forced = refl

end_of_forced : cell_of 20 forced 2 ≡ 18
unfolding unicode_segmentation unicode_width
end_of_forced = refl

-- either column of a wide character leads to it, and the cursor stands in the first
abbrev wide_ones : List TextRow
wide_ones = rows 6 ((wide ∷ []) ++ codes "x" ++ (wide ∷ []))

at_wide : along 6 wide_ones 0 1 (1 ∷ 2 ∷ 3 ∷ 4 ∷ 5 ∷ 6 ∷ []) ≡ 0 ∷ 0 ∷ 3 ∷ 4 ∷ 4 ∷ 7 ∷ []
unfolding unicode_segmentation unicode_width
at_wide = refl

cells_of_wide : map (with_cell 6 wide_ones) (0 ∷ 4 ∷ []) ≡ (0, 1) ∷ (4, 4) ∷ []
unfolding unicode_segmentation unicode_width
cells_of_wide = refl

at_wide_from_right : along 6 (rows 6 (alef ∷ wide ∷ [])) 0 1 (6 ∷ 5 ∷ 4 ∷ 3 ∷ []) ≡ 0 ∷ 2 ∷ 2 ∷ 5 ∷ []
unfolding unicode_segmentation unicode_width
at_wide_from_right = refl

-- each column of a tab leads to it, in either direction
abbrev tab : List TextRow
tab = rows 12 (codes "a" ++ (9 ∷ []) ++ codes "b")

at_tab : along 12 tab 0 1 (1 ∷ 2 ∷ 8 ∷ 9 ∷ 10 ∷ 12 ∷ []) ≡ 0 ∷ 1 ∷ 1 ∷ 2 ∷ 3 ∷ 3 ∷ []
unfolding unicode_segmentation unicode_width
at_tab = refl

abbrev tab_from_right : List TextRow
tab_from_right = rows 16 (alef ∷ 9 ∷ bet ∷ [])

at_tab_from_right : along 16 tab_from_right 0 1 (16 ∷ 15 ∷ 9 ∷ 8 ∷ 7 ∷ 1 ∷ []) ≡ 0 ∷ 2 ∷ 2 ∷ 3 ∷ 5 ∷ 5 ∷ []
unfolding unicode_segmentation unicode_width
at_tab_from_right = refl

cells_of_tabs : cell_of 12 tab 1 ∷ cell_of 16 tab_from_right 2 ∷ [] ≡ 2 ∷ 9 ∷ []
unfolding unicode_segmentation unicode_width
cells_of_tabs = refl

-- marks: of an isolate and its end, of a control, of an accent with no letter, and of a character that is wider than the window
at_marks : along 6 (rows 6 (codes "a" ++ (0x2067 ∷ []) ++ codes "b" ++ (0x2069 ∷ 1 ∷ []))) 0 1 (1 ∷ 2 ∷ 3 ∷ 4 ∷ 5 ∷ 6 ∷ []) ≡ 0 ∷ 1 ∷ 4 ∷ 5 ∷ 8 ∷ 9 ∷ []
unfolding unicode_segmentation unicode_width
at_marks = refl

at_accent : along 4 (rows 4 ((acute ∷ []) ++ codes "x")) 0 1 (1 ∷ 2 ∷ 3 ∷ []) ≡ 0 ∷ 2 ∷ 3 ∷ []
unfolding unicode_segmentation unicode_width
at_accent = refl

at_too_wide : pointed_at 1 (rows 1 ((wide ∷ []) ++ codes "x")) 0 1 1 ≡ 0
unfolding unicode_segmentation unicode_width
at_too_wide = refl

-- a letter with its points is one, and so is one with an accent
abbrev with_points : List TextRow
with_points = rows 6 (0x5e9 ∷ 0x5c1 ∷ 0x5b8 ∷ 0x5dc ∷ [])

at_points : along 6 with_points 0 1 (6 ∷ 5 ∷ 4 ∷ []) ≡ 0 ∷ 6 ∷ 8 ∷ []
unfolding unicode_segmentation unicode_width
at_points = refl

end_behind_points : cell_of 6 with_points 8 ≡ 4
unfolding unicode_segmentation unicode_width
end_behind_points = refl

at_accented : along 4 (rows 4 (codes "e" ++ (acute ∷ []) ++ codes "f")) 0 1 (1 ∷ 2 ∷ 3 ∷ []) ≡ 0 ∷ 3 ∷ 4 ∷ []
unfolding unicode_segmentation unicode_width
at_accented = refl

-- a paragraph in two rows: its end is in the last alone, beside the first stands that row's outermost unit
abbrev wrapped : List TextRow
wrapped = rows 4 (codes "ab cd")

at_wrapped : along 4 wrapped 0 1 (1 ∷ 4 ∷ []) ++ along 4 wrapped 0 2 (1 ∷ 4 ∷ []) ≡ 0 ∷ 2 ∷ 3 ∷ 5 ∷ []
unfolding unicode_segmentation unicode_width
at_wrapped = refl

cells_of_wrapped : map (with_cell 4 wrapped) (2 ∷ 5 ∷ []) ≡ (2, 3) ∷ (5, 3) ∷ []
unfolding unicode_segmentation unicode_width
cells_of_wrapped = refl

abbrev wrapped_from_right : List TextRow
wrapped_from_right = rows 4 ((alef ∷ bet ∷ []) ++ codes " cd")

at_wrapped_from_right : along 4 wrapped_from_right 0 1 (4 ∷ 3 ∷ 2 ∷ 1 ∷ []) ++ along 4 wrapped_from_right 0 2 (4 ∷ 3 ∷ 2 ∷ 1 ∷ [])
    ≡ 0 ∷ 2 ∷ 4 ∷ 4 ∷ 6 ∷ 5 ∷ 7 ∷ 7 ∷ []
unfolding unicode_segmentation unicode_width
at_wrapped_from_right = refl

cells_from_right : map (with_cell 4 wrapped_from_right) (4 ∷ 7 ∷ []) ≡ (4, 2) ∷ (7, 2) ∷ []
unfolding unicode_segmentation unicode_width
cells_from_right = refl

abbrev wrapped_mixed : List TextRow
wrapped_mixed = rows 5 (codes "a " ++ (alef ∷ bet ∷ []) ++ codes " " ++ (gimel ∷ []))

at_wrapped_mixed : along 5 wrapped_mixed 0 1 (1 ∷ 2 ∷ 3 ∷ 4 ∷ 5 ∷ []) ++ along 5 wrapped_mixed 0 2 (1 ∷ 2 ∷ 5 ∷ [])
    ≡ 0 ∷ 1 ∷ 4 ∷ 2 ∷ 6 ∷ 7 ∷ 9 ∷ 9 ∷ []
unfolding unicode_segmentation unicode_width
at_wrapped_mixed = refl

-- below the text its last row
abbrev two_lines : List TextRow
two_lines = rows 10 (codes "ab" ++ (10 ∷ []) ++ codes "cde")

at_lines : pointed_at 10 two_lines 0 2 2 ∷ pointed_at 10 two_lines 0 4 3 ∷ pointed_at 10 two_lines 0 5 9 ∷ pointed_at 10 two_lines 0 1 9 ∷ []
    ≡ 4 ∷ 5 ∷ 6 ∷ 2 ∷ []
unfolding unicode_segmentation unicode_width
at_lines = refl

cell_below_the_text : cell_of 10 two_lines 5 ≡ 3
unfolding unicode_segmentation unicode_width
cell_below_the_text = refl

-- a window of one row, at the second line
at_one_row : pointed_at 4 (rows 4 (codes "ab" ++ (10 ∷ []) ++ codes "cd")) 3 1 1 ≡ 3
unfolding unicode_segmentation unicode_width
at_one_row = refl

-- two rows are shown, from the third line on, and pointing leaves the top
abbrev four_lines : List TextRow
four_lines = rows 4 (codes "1" ++ (10 ∷ []) ++ codes "2" ++ (10 ∷ []) ++ codes "3" ++ (10 ∷ []) ++ codes "4")

at_scrolled : pointed_at 4 four_lines 4 1 1 ∷ pointed_at 4 four_lines 4 2 2 ∷ pointed_at 4 four_lines 4 1 4 ∷ [] ≡ 4 ∷ 7 ∷ 5 ∷ []
unfolding unicode_segmentation unicode_width
at_scrolled = refl

cells_scrolled : map (with_cell 4 four_lines) (4 ∷ 7 ∷ 5 ∷ []) ≡ (4, 1) ∷ (7, 2) ∷ (5, 2) ∷ []
unfolding unicode_segmentation unicode_width
cells_scrolled = refl

top_stays : map (λ place. follow four_lines 4 place 2) (4 ∷ 7 ∷ 5 ∷ []) ≡ 4 ∷ 4 ∷ 4 ∷ []
unfolding unicode_segmentation unicode_width
top_stays = refl

-- rows are counted from the top as it stands: from the first line on
at_first_rows : pointed_at 4 four_lines 0 1 1 ∷ pointed_at 4 four_lines 0 2 2 ∷ [] ≡ 0 ∷ 3 ∷ []
unfolding unicode_segmentation unicode_width
at_first_rows = refl

-- the end of a full row has a unit's cell, and the unit is taken
abbrev full : List TextRow
full = rows 4 (codes "abcd")

at_full_end : cell_of 4 full 4 ∷ pointed_at 4 full 0 1 4 ∷ cell_of 4 full 3 ∷ [] ≡ 4 ∷ 3 ∷ 4 ∷ []
unfolding unicode_segmentation unicode_width
at_full_end = refl

abbrev full_from_right : List TextRow
full_from_right = rows 2 (alef ∷ bet ∷ [])

at_full_end_from_right : cell_of 2 full_from_right 4 ∷ pointed_at 2 full_from_right 0 1 1 ∷ [] ≡ 1 ∷ 2 ∷ []
unfolding unicode_segmentation unicode_width
at_full_end_from_right = refl

-- the end of a short line between longer ones is its own cell's
abbrev short_between : List TextRow
short_between = rows 20 (codes "abcdef" ++ (10 ∷ []) ++ codes "ab" ++ (10 ∷ []) ++ codes "abcdef")

at_short_line : with_cell 20 short_between (pointed_at 20 short_between 0 2 3) ≡ (9, 3)
unfolding unicode_segmentation unicode_width
at_short_line = refl
