-- Whole texts, computed: rows, places, moves and the top.
use Rattle.std.proofs.Common.{◌≡◌, ℕ, true, List, [], ◌∷◌, ◌++◌, refl, replicate, map}
use Rattle.std.specs.Prelude.{codes}
use Rattle.unicode_segmentation.proofs.Computing.{unicode_segmentation}
use Rattle.unicode_width.proofs.Computing.{unicode_width}
use Rattle.bx_common.specs.declared.base.Base.TheVariants.{Ltr, Rtl}
use Rattle.bx_paragraph.specs.declared.moves.Visual.TheVariants.{Left, Right}
use Rattle.bx_paragraph.specs.declared.slots.Slot.{Slot}
use Rattle.bx_view.specs.declared.moves.Logical.TheVariants.{Back, Forward}
use Rattle.bx_view.specs.declared.moves.Vertical.TheVariants.{Up, Down}
use Rattle.bx_view.specs.TextParts.{slots_in}
use Rattle.bx_view.specs.TextRows.{TextRow, cell_of, places, row_of, slots}
use Rattle.bx_view.specs.Moves.{page, place_at, place_from, row_end, row_home, step_logical, step_visual, vertical}
use Rattle.bx_view.specs.Top.{follow}
use Rattle.bx_view.proofs.Computed.{has_one_slot_each, pictures, rows, rows_under, shown, walk}

abbrev alef : ℕ
alef = 0x5d0

abbrev bet : ℕ
bet = 0x5d1

abbrev gimel : ℕ
gimel = 0x5d2

abbrev wide : ℕ
wide = 0x4e16

abbrev lri : ℕ
lri = 0x2066

abbrev fsi : ℕ
fsi = 0x2068

abbrev pdi : ℕ
pdi = 0x2069

abbrev acute : ℕ
acute = 0x301

-- the rows of a AB G in five columns
abbrev mixed : List TextRow
mixed = rows 5 (codes "a " ++ (alef ∷ bet ∷ []) ++ codes " " ++ (gimel ∷ []))

-- the rows of AB 12
abbrev number : ℕ → List TextRow
number w = rows w ((alef ∷ bet ∷ []) ++ codes " 12")

-- the rows of the digits 1 to 3, and 1 to 5, each in a line
abbrev three_lines : List TextRow
three_lines = rows 4 (codes "1" ++ (10 ∷ []) ++ codes "2" ++ (10 ∷ []) ++ codes "3")

abbrev five_lines : List TextRow
five_lines = rows 4 (codes "1" ++ (10 ∷ []) ++ codes "2" ++ (10 ∷ []) ++ codes "3" ++ (10 ∷ []) ++ codes "4" ++ (10 ∷ []) ++ codes "5")

-- the rows of lines a and b, and of lines a and A
abbrev two_letters : List TextRow
two_letters = rows 6 (codes "a" ++ (10 ∷ []) ++ codes "b")

abbrev two_directions : List TextRow
two_directions = rows 6 (codes "a" ++ (10 ∷ alef ∷ []))

-- the rows of lines abc and d, and of lines abc and A
abbrev then_short : List TextRow
then_short = rows 6 (codes "abc" ++ (10 ∷ []) ++ codes "d")

abbrev then_short_from_right : List TextRow
then_short_from_right = rows 6 (codes "abc" ++ (10 ∷ alef ∷ []))

-- the rows of a line of two letters and a line of a wide character
abbrev then_wide : List TextRow
then_wide = rows 6 (codes "ab" ++ (10 ∷ wide ∷ []))

-- the rows of LF 1 LF 2, and of a CR LF b
abbrev after_empty : List TextRow
after_empty = rows 4 ((10 ∷ []) ++ codes "1" ++ (10 ∷ []) ++ codes "2")

abbrev with_crlf : List TextRow
with_crlf = rows 5 (codes "a" ++ (13 ∷ 10 ∷ []) ++ codes "b")

-- seven times Right
right_through_mixed : walk (replicate 7 (step_visual 5 mixed Right)) 0 ≡ 1 ∷ 4 ∷ 2 ∷ 6 ∷ 7 ∷ 9 ∷ 9 ∷ []
unfolding unicode_segmentation unicode_width
right_through_mixed = refl

-- and Left back to the beginning
left_through_mixed : walk (replicate 7 (step_visual 5 mixed Left)) 9 ≡ 7 ∷ 6 ∷ 2 ∷ 4 ∷ 1 ∷ 0 ∷ 0 ∷ []
unfolding unicode_segmentation unicode_width
left_through_mixed = refl

-- its slots
mixed_slots : map (slots 5) mixed ≡ (0 ∷ 1 ∷ 4 ∷ 2 ∷ 6 ∷ []) ∷ (7 ∷ 9 ∷ []) ∷ []
unfolding unicode_segmentation unicode_width
mixed_slots = refl

abbrev offset_and_column : Slot → ℕ × ℕ
offset_and_column s = (s.offset, s.column)

-- offset and column of the slots in the part from one offset up to another: B and the blank after it, then G, and no slot of the
-- end
slots_in_part : map (λ r. map offset_and_column (slots_in 5 (4, 99) r)) mixed ≡ ((4, 3) ∷ (6, 5) ∷ []) ∷ ((7, 1) ∷ []) ∷ []
unfolding unicode_segmentation unicode_width
slots_in_part = refl

-- neighbours in the text, apart on the screen
slots_apart : map (λ r. map offset_and_column (slots_in 5 (1, 4) r)) mixed ≡ ((1, 2) ∷ (2, 4) ∷ []) ∷ [] ∷ []
unfolding unicode_segmentation unicode_width
slots_apart = refl

-- each place has one slot in all rows together
one_slot_each : has_one_slot_each 5 mixed ∷ has_one_slot_each 6 two_directions ∷ has_one_slot_each 5 with_crlf ∷ [] ≡ true ∷ true ∷ true ∷ []
unfolding unicode_segmentation unicode_width
one_slot_each = refl

-- the column of each place
columns_of_places : map (cell_of 5 mixed) (0 ∷ 1 ∷ 2 ∷ 4 ∷ 6 ∷ 7 ∷ 9 ∷ []) ≡ 1 ∷ 2 ∷ 4 ∷ 3 ∷ 5 ∷ 1 ∷ 2 ∷ []
unfolding unicode_segmentation unicode_width
columns_of_places = refl

-- what it shows
mixed_pictures : pictures 5 mixed ≡ (codes "a " ++ (bet ∷ alef ∷ []) ++ codes " ") ∷ ((gimel ∷ []) ++ codes "    ") ∷ []
unfolding unicode_segmentation unicode_width
mixed_pictures = refl

-- Down from line to line
down_twice : walk (replicate 2 (vertical 4 three_lines Down)) 0 ≡ 2 ∷ 4 ∷ []
unfolding unicode_segmentation unicode_width
down_twice = refl

-- Up stops at the first row
up_to_first : walk (replicate 3 (vertical 4 three_lines Up)) 4 ≡ 2 ∷ 0 ∷ 0 ∷ []
unfolding unicode_segmentation unicode_width
up_to_first = refl

-- the second of two rows shown: the top stays
top_stays : follow three_lines 0 2 2 ≡ 0
unfolding unicode_segmentation unicode_width
top_stays = refl

-- the third row: the top moves by one
top_follows_down : follow three_lines 0 4 2 ≡ 2
unfolding unicode_segmentation unicode_width
top_follows_down = refl

-- back before the top: the top is the cursor's row
top_follows_up : follow three_lines 4 0 2 ≡ 0
unfolding unicode_segmentation unicode_width
top_follows_up = refl

-- what is shown then
shown_after : shown 4 2 2 three_lines ≡ codes "2   " ∷ codes "3   " ∷ []
unfolding unicode_segmentation unicode_width
shown_after = refl

-- a separator falls in the row that it ends, an offset past the end in the last row
last_row_of_lines : row_of three_lines 4 ∷ row_of three_lines 3 ∷ row_of three_lines 99 ∷ [] ≡ 2 ∷ 1 ∷ 2 ∷ []
unfolding unicode_segmentation unicode_width
last_row_of_lines = refl

-- PageDown by two rows
page_down : page 4 three_lines Down 2 0 ≡ 4
unfolding unicode_segmentation unicode_width
page_down = refl

-- and PageUp
page_up : page 4 three_lines Up 2 4 ≡ 0
unfolding unicode_segmentation unicode_width
page_up = refl

-- pages of two rows stop at the last row
pages : walk (page 4 five_lines Down 2 ∷ page 4 five_lines Down 2 ∷ page 4 five_lines Down 2 ∷ page 4 five_lines Up 2 ∷ []) 0 ≡ 4 ∷ 8 ∷ 8 ∷ 4 ∷ []
unfolding unicode_segmentation unicode_width
pages = refl

-- Hebrew begins at the right edge, and ends left of its units
end_cell : map (cell_of 8 (number 8)) (0 ∷ 7 ∷ []) ≡ 8 ∷ 3 ∷ []
unfolding unicode_segmentation unicode_width
end_cell = refl

-- Right from the end goes into the number
right_from_end : step_visual 8 (number 8) Right 7 ∷ cell_of 8 (number 8) 5 ∷ [] ≡ 5 ∷ 4 ∷ []
unfolding unicode_segmentation unicode_width
right_from_end = refl

-- in a full row the end is at the edge
end_cell_in_full_row : cell_of 5 (number 5) 7 ≡ 1
unfolding unicode_segmentation unicode_width
end_cell_in_full_row = refl

-- the same line forced to the right begins in column 5 and ends in column 6
cells_under_ltr : map (cell_of 8 (rows_under Ltr 8 ((alef ∷ bet ∷ []) ++ codes " 12"))) (0 ∷ 7 ∷ []) ≡ 5 ∷ 6 ∷ []
unfolding unicode_segmentation unicode_width
cells_under_ltr = refl

-- a line forced to the left begins at the right edge
cell_under_rtl : cell_of 6 (rows_under Rtl 6 (codes "a " ++ (alef ∷ bet ∷ []) ++ codes " b")) 0 ≡ 6
unfolding unicode_segmentation unicode_width
cell_under_rtl = refl

-- nested isolates forced to the right
isolates_under_ltr : pictures 7 (rows_under Ltr 7 ((fsi ∷ lri ∷ []) ++ codes "a" ++ (pdi ∷ bet ∷ pdi ∷ []) ++ codes "c"))
    ≡ (codes "f" ++ (bet ∷ []) ++ codes "PaiPc") ∷ []
unfolding unicode_segmentation unicode_width
isolates_under_ltr = refl

-- and to the left
isolates_under_rtl : pictures 7 (rows_under Rtl 7 ((fsi ∷ lri ∷ []) ++ codes "a" ++ (pdi ∷ bet ∷ pdi ∷ []) ++ codes "c"))
    ≡ (codes "cP" ++ (bet ∷ []) ++ codes "Paif") ∷ []
unfolding unicode_segmentation unicode_width
isolates_under_rtl = refl

-- RowEnd in a row that wraps is before its last unit
end_of_wrapped_row : row_end (rows 4 (codes "ab cd")) 0 ∷ cell_of 4 (rows 4 (codes "ab cd")) 2 ∷ [] ≡ 2 ∷ 3 ∷ []
unfolding unicode_segmentation unicode_width
end_of_wrapped_row = refl

-- a row ends after a blank
wraps_after_blanks : pictures 4 (rows 4 (codes "ab cd")) ≡ codes "ab  " ∷ codes "cd  " ∷ []
unfolding unicode_segmentation unicode_width
wraps_after_blanks = refl

-- each row of a paragraph of level 1 ends at the right edge
wraps_within_level_1 : pictures 4 (rows 4 ((alef ∷ bet ∷ []) ++ codes " cd")) ≡ (codes "  " ++ (bet ∷ alef ∷ [])) ∷ codes "  cd" ∷ []
unfolding unicode_segmentation unicode_width
wraps_within_level_1 = refl

-- a place forward and back
forward_and_back : step_logical (rows 5 (codes "ab")) Forward 0 ∷ step_logical (rows 5 (codes "ab")) Back 1 ∷ [] ≡ 1 ∷ 0 ∷ []
unfolding unicode_segmentation unicode_width
forward_and_back = refl

-- at the text's ends nothing
nothing_at_the_ends : step_logical (rows 5 (codes "ab")) Back 0 ∷ step_logical (rows 5 (codes "ab")) Forward 2 ∷ [] ≡ 0 ∷ 2 ∷ []
unfolding unicode_segmentation unicode_width
nothing_at_the_ends = refl

-- RowEnd and RowHome
home_and_end : row_end (rows 5 (codes "ab")) 0 ∷ row_home (rows 5 (codes "ab")) 2 ∷ [] ≡ 2 ∷ 0 ∷ []
unfolding unicode_segmentation unicode_width
home_and_end = refl

-- Left goes over the line's end to the row before
up_and_down_and_aside : walk
    (vertical 6 two_letters Down ∷ step_visual 6 two_letters Left ∷ step_visual 6 two_letters Right ∷ step_visual 6 two_letters Left ∷ []) 0
    ≡ 2 ∷ 1 ∷ 2 ∷ 1 ∷ []
unfolding unicode_segmentation unicode_width
up_and_down_and_aside = refl

-- the next row is entered at its reading start, from which Right leads back
to_and_fro : walk (replicate 4 (step_visual 6 two_directions Right)) 0 ≡ 1 ∷ 2 ∷ 1 ∷ 2 ∷ []
unfolding unicode_segmentation unicode_width
to_and_fro = refl

-- Down to a shorter row goes to its reading end
down_past_units : let end = row_end then_short 0 in let down = vertical 6 then_short Down end in down ∷ cell_of 6 then_short down ∷ [] ≡ 5 ∷ 2 ∷ []
unfolding unicode_segmentation unicode_width
down_past_units = refl

-- in a row from right to left that is the leftmost slot
down_past_units_from_right :
    let end = row_end then_short_from_right 0 in
    let down = vertical 6 then_short_from_right Down end in
    down ∷ cell_of 6 then_short_from_right down ∷ [] ≡ 6 ∷ 5 ∷ []
unfolding unicode_segmentation unicode_width
down_past_units_from_right = refl

-- Down onto the second column of a wide character
down_into_wide : let down = vertical 6 then_wide Down (step_visual 6 then_wide Right 0) in down ∷ cell_of 6 then_wide down ∷ [] ≡ 3 ∷ 1 ∷ []
unfolding unicode_segmentation unicode_width
down_into_wide = refl

-- Down from columns that no unit of the next row covers
down_into_rtl : map (vertical 5 (rows 5 (codes "ab" ++ (10 ∷ alef ∷ bet ∷ []))) Down) (0 ∷ 1 ∷ 2 ∷ []) ≡ 7 ∷ 7 ∷ 7 ∷ []
unfolding unicode_segmentation unicode_width
down_into_rtl = refl

-- one row is shown, and the top is the cursor's row
narrow_top : follow (rows 2 (codes "xyabcd")) 0 2 1 ≡ 2
unfolding unicode_segmentation unicode_width
narrow_top = refl

-- what is shown
narrow_shown : shown 2 1 2 (rows 2 (codes "xyabcd")) ≡ codes "ab" ∷ []
unfolding unicode_segmentation unicode_width
narrow_shown = refl

-- the place after a separator begins the next row
after_separator : place_from after_empty 1 ∷ row_of after_empty 1 ∷ cell_of 4 after_empty 1 ∷ [] ≡ 1 ∷ 1 ∷ 1 ∷ []
unfolding unicode_segmentation unicode_width
after_separator = refl

-- CR LF is one unit
crlf_is_one_unit : places with_crlf ≡ 0 ∷ 1 ∷ 3 ∷ 4 ∷ []
unfolding unicode_segmentation unicode_width
crlf_is_one_unit = refl

-- a byte of a separator falls in its paragraph's last row
inside_separator : row_of with_crlf 2 ∷ row_of with_crlf 9 ∷ [] ≡ 0 ∷ 1 ∷ []
unfolding unicode_segmentation unicode_width
inside_separator = refl

-- the least place not before an offset inside a cluster is after it
place_from_inside_cluster : place_from (rows 5 (codes "e" ++ (acute ∷ []))) 3 ∷ place_from (rows 5 (codes "e" ++ (acute ∷ []))) 1 ∷ [] ≡ 3 ∷ 3 ∷ []
unfolding unicode_segmentation unicode_width
place_from_inside_cluster = refl

-- two clusters of two characters, and a letter between them
abbrev with_vowels : List TextRow
with_vowels = rows 30 ((0x915 ∷ 0x93f ∷ []) ++ codes "x" ++ (0x915 ∷ 0x93f ∷ []))

-- the place of an offset inside a cluster is before it; that of a place is itself
place_of_offset : map (place_at with_vowels) (3 ∷ 6 ∷ 10 ∷ 13 ∷ []) ≡ 0 ∷ 6 ∷ 7 ∷ 13 ∷ []
unfolding unicode_segmentation unicode_width
place_of_offset = refl

-- inside a separator it is the paragraph's end, and past the text's end the text's end
place_of_offset_in_separator : map (place_at with_crlf) (1 ∷ 2 ∷ 3 ∷ 9 ∷ []) ≡ 1 ∷ 1 ∷ 3 ∷ 4 ∷ []
unfolding unicode_segmentation unicode_width
place_of_offset_in_separator = refl

-- the end after a wide character
end_behind_wide : cell_of 4 (rows 4 (codes "x" ++ (wide ∷ []))) 4 ≡ 4
unfolding unicode_segmentation unicode_width
end_behind_wide = refl

-- no text: one row, one place
empty_text : map (slots 10) (rows 10 []) ≡ (0 ∷ []) ∷ []
unfolding unicode_segmentation unicode_width
empty_text = refl

-- in the first column
empty_text_cell : cell_of 10 (rows 10 []) 0 ≡ 1
unfolding unicode_segmentation unicode_width
empty_text_cell = refl

-- Down goes to an empty last row
empty_last_row : vertical 4 (rows 4 (codes "a" ++ (10 ∷ []))) Down 0 ≡ 2
unfolding unicode_segmentation unicode_width
empty_last_row = refl
