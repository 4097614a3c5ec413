-- Keys that move the view, computed: the top row is given by the offset at which it begins.
use Rattle.std.proofs.Common.{◌≡◌, ℕ, List, [], ◌∷◌, ◌++◌, map, refl}
use Rattle.std.specs.Prelude.{codes}
use Rattle.unicode_segmentation.proofs.Computing.{unicode_segmentation}
use Rattle.unicode_width.proofs.Computing.{unicode_width}
use Rattle.bx_view.specs.declared.moves.Goal.TheVariants.{Column, Start, End}
use Rattle.bx_view.specs.declared.moves.Vertical.TheVariants.{Up, Down}
use Rattle.bx_view.specs.Moves.{goal_of, rows_away}
use Rattle.bx_view.specs.TextRows.{TextRow}
use Rattle.bx_view.specs.Top.{centred, filled, to_shown, top_away}
use Rattle.bx_view.proofs.Computed.{rows, walk}

-- lines with the numbers from 1 to 30
abbrev thirty : List TextRow
thirty = rows 20 (codes "1\n2\n3\n4\n5\n6\n7\n8\n9\n10\n11\n12\n13\n14\n15\n16\n17\n18\n19\n20\n21\n22\n23\n24\n25\n26\n27\n28\n29\n30")

-- ---- the middle of a window with nine rows for text

-- line 17 from the first top row; then it is shown, and the top stays
in_the_middle : centred thirty 0 39 9 ∷ centred thirty 27 39 9 ∷ [] ≡ 27 ∷ 27 ∷ []
unfolding unicode_segmentation unicode_width
in_the_middle = refl

-- lines 29 and 5: the window is full near the text's ends too
near_the_ends : centred thirty 0 75 9 ∷ centred thirty 54 8 9 ∷ [] ≡ 54 ∷ 0 ∷ []
unfolding unicode_segmentation unicode_width
near_the_ends = refl

-- lines 9, 19 and 9: what is shown stays where it is
shown_stays : centred thirty 0 16 9 ∷ centred thirty 0 46 9 ∷ centred thirty 33 16 9 ∷ [] ≡ 0 ∷ 33 ∷ 8 ∷ []
unfolding unicode_segmentation unicode_width
shown_stays = refl

-- line 17 in windows with one to four rows for text
small_windows : map (centred thirty 0 39) (1 ∷ 2 ∷ 3 ∷ 4 ∷ []) ≡ 39 ∷ 36 ∷ 36 ∷ 33 ∷ []
unfolding unicode_segmentation unicode_width
small_windows = refl

-- ---- pages of eight rows, in the same window

abbrev next_page : ℕ → ℕ
next_page top = top_away thirty Down 8 top 9

abbrev page_before : ℕ → ℕ
page_before top = top_away thirty Up 8 top 9

pages_on : walk (next_page ∷ next_page ∷ next_page ∷ next_page ∷ []) 0 ≡ 16 ∷ 39 ∷ 54 ∷ 54 ∷ []
unfolding unicode_segmentation unicode_width
pages_on = refl

pages_back : walk (page_before ∷ page_before ∷ page_before ∷ page_before ∷ []) 54 ≡ 30 ∷ 10 ∷ 0 ∷ 0 ∷ []
unfolding unicode_segmentation unicode_width
pages_back = refl

-- a top row that is past the last full window stays
past_the_end : top_away thirty Down 8 72 9 ∷ top_away thirty Up 8 72 9 ∷ [] ≡ 72 ∷ 48 ∷ []
unfolding unicode_segmentation unicode_width
past_the_end = refl

-- ---- a window that is filled

fills_a_window : filled thirty 72 9 ∷ filled thirty 54 9 ∷ filled thirty 33 9 ∷ filled thirty 72 40 ∷ [] ≡ 54 ∷ 54 ∷ 33 ∷ 0 ∷ []
unfolding unicode_segmentation unicode_width
fills_a_window = refl

-- a window that is made wider has fewer rows to show
abbrev narrow : List TextRow
narrow = rows 2 (codes "abcdefgh")

abbrev wide : List TextRow
wide = rows 4 (codes "abcdefgh")

after_widening : filled narrow 4 2 ∷ filled wide 4 2 ∷ [] ≡ 4 ∷ 0 ∷ []
unfolding unicode_segmentation unicode_width
after_widening = refl

-- ---- scrolling by three rows

-- lines with the numbers from 1 to 12, in a window with five rows for text
abbrev twelve : List TextRow
twelve = rows 20 (codes "1\n2\n3\n4\n5\n6\n7\n8\n9\n10\n11\n12")

abbrev on : ℕ → ℕ
on top = top_away twelve Down 3 top 5

scrolls : walk (on ∷ on ∷ on ∷ on ∷ []) 0 ≡ 6 ∷ 12 ∷ 14 ∷ 14 ∷ []
unfolding unicode_segmentation unicode_width
scrolls = refl

-- a place at line 5 stays while its row is shown, and goes to the first row when it is not
place_on : to_shown 20 twelve 6 5 Start 8 ∷ to_shown 20 twelve 12 5 Start 8 ∷ to_shown 20 twelve 14 5 Start 12 ∷ [] ≡ 8 ∷ 12 ∷ 14 ∷ []
unfolding unicode_segmentation unicode_width
place_on = refl

-- and on the way back to the last row
place_back : to_shown 20 twelve 8 5 Start 14 ∷ to_shown 20 twelve 2 5 Start 14 ∷ to_shown 20 twelve 0 5 Start 10 ∷ [] ≡ 14 ∷ 10 ∷ 8 ∷ []
unfolding unicode_segmentation unicode_width
place_back = refl

-- in a column that is kept, or at the row's end, also from right to left
abbrev both_ways : List TextRow
both_ways = rows 8 (codes "abcd\n" ++ (0x5d0 ∷ 0x5d1 ∷ 10 ∷ []) ++ codes "abcd\n" ++ (0x5d0 ∷ 0x5d1 ∷ 10 ∷ []) ++ (0x5d0 ∷ 0x5d1 ∷ 0x5d2 ∷ 0x5d0 ∷ 0x5d1 ∷ 0x5d2 ∷ 10 ∷ []) ++ codes "ab")

by_columns_and_ends : to_shown 8 both_ways 15 2 End 4 ∷ to_shown 8 both_ways 15 2 (Column 4) 3 ∷ to_shown 8 both_ways 0 2 (Column 4) 19 ∷ [] ≡ 19 ∷ 19 ∷ 9 ∷ []
unfolding unicode_segmentation unicode_width
by_columns_and_ends = refl

-- ---- goals

-- from a line's start to the next line's start, at whichever edge that stands
abbrev three_lines : List TextRow
three_lines = rows 10 ((0x5d0 ∷ 0x5d1 ∷ 0x5d2 ∷ 10 ∷ []) ++ codes "abc\n" ++ (0x5d0 ∷ 0x5d1 ∷ []))

from_start_to_start : walk (rows_away 10 three_lines Down 1 Start ∷ rows_away 10 three_lines Down 1 Start ∷ rows_away 10 three_lines Up 1 Start ∷ rows_away 10 three_lines Up 1 Start ∷ []) 0
    ≡ 7 ∷ 11 ∷ 7 ∷ 0 ∷ []
unfolding unicode_segmentation unicode_width
from_start_to_start = refl

from_end_to_end : walk (rows_away 10 three_lines Down 1 End ∷ rows_away 10 three_lines Down 1 End ∷ rows_away 10 three_lines Up 1 End ∷ []) 6 ≡ 10 ∷ 15 ∷ 10 ∷ []
unfolding unicode_segmentation unicode_width
from_end_to_end = refl

-- wrapped rows
abbrev wrapped : List TextRow
wrapped = rows 4 (codes "ab cd ef")

over_wrapped_rows : walk (rows_away 4 wrapped Down 1 Start ∷ rows_away 4 wrapped Down 1 Start ∷ rows_away 4 wrapped Up 1 Start ∷ []) 0 ++ walk (rows_away 4 wrapped Down 1 End ∷ rows_away 4 wrapped Up 1 End ∷ rows_away 4 wrapped Up 1 End ∷ []) 5
    ≡ 3 ∷ 6 ∷ 3 ∷ 8 ∷ 5 ∷ 2 ∷ []
unfolding unicode_segmentation unicode_width
over_wrapped_rows = refl

-- which goal a place keeps: the start where it is its row's first place
kept_goals : goal_of 10 three_lines 0 ∷ goal_of 10 three_lines 7 ∷ goal_of 10 three_lines 8 ∷ goal_of 10 three_lines 6 ∷ [] ≡ Start ∷ Start ∷ Column 2 ∷ Column 7 ∷ []
unfolding unicode_segmentation unicode_width
kept_goals = refl
