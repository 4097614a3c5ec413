-- The rows of small bodies, their slots and columns, computed.
use Rattle.std.proofs.Common.{◌≡◌, ℕ, List, [], ◌∷◌, ◌++◌, refl, map, take, arith}
use Rattle.std.specs.Prelude.{codes, Some, None}
use Rattle.std.specs.Str.{IsCharBoundary, IsUtf8}
use Rattle.std.proofs.lemmas.Str.{IsCharBoundary-from_drop}
use Rattle.unicode_segmentation.proofs.Computing.{unicode_segmentation}
use Rattle.unicode_width.proofs.Computing.{unicode_width}
use Rattle.bx_common.specs.declared.base.Base.TheVariants.{Ltr, Rtl}
use Rattle.bx_paragraph.specs.declared.moves.Visual.TheVariants.{Right}
use Rattle.bx_ucd.specs.SmallTables.{small}
use Rattle.bx_rows.specs.RowStarts.{row_starts}
use Rattle.bx_rows.specs.declared.start_search.RowStart.{RowStart}
use Rattle.bx_paragraph.specs.Laws.{RowsBeforeStay}
use Rattle.bx_paragraph.specs.BodyRows.{first_of, last_of, offsets_of, row_at}
use Rattle.bx_paragraph.specs.Layout.{row_of}
use Rattle.bx_paragraph.specs.Slots.{beside, column_of, covering, entry, reading_order}
use Rattle.bx_paragraph.proofs.Computed.{pictures, rows, rows_under, slots}

abbrev alef : ℕ
alef = 0x5d0

abbrev bet : ℕ
bet = 0x5d1

abbrev gimel : ℕ
gimel = 0x5d2

abbrev wide : ℕ
wide = 0x4e16

abbrev lri : ℕ
lri = 0x2066

abbrev fsi : ℕ
fsi = 0x2068

abbrev pdi : ℕ
pdi = 0x2069

abbrev acute : ℕ
acute = 0x301

-- a AB G: a letter and a blank, two Hebrew letters, a blank and another
abbrev mixed : List ℕ
mixed = codes "a " ++ (alef ∷ bet ∷ []) ++ codes " " ++ (gimel ∷ [])

-- AB 12: Hebrew and a number
abbrev number : List ℕ
number = (alef ∷ bet ∷ []) ++ codes " 12"

-- Hebrew letters in a line from left to right are from right to left; the end is a slot of the last row alone
mixed_slots : slots 5 (rows 5 mixed) ≡ ((0, 1, 1) ∷ (1, 2, 1) ∷ (4, 3, 1) ∷ (2, 4, 1) ∷ (6, 5, 1) ∷ []) ∷ ((7, 1, 1) ∷ (9, 2, 0) ∷ []) ∷ []
unfolding unicode_segmentation unicode_width
mixed_slots = refl

-- the blank at the end of a row has the level of the paragraph
mixed_pictures : pictures 5 (rows 5 mixed) ≡ (codes "a " ++ (bet ∷ alef ∷ []) ++ codes " ") ∷ ((gimel ∷ []) ++ codes "    ") ∷ []
unfolding unicode_segmentation unicode_width
mixed_pictures = refl

-- where its rows begin
mixed_firsts : map first_of (rows 5 mixed) ≡ 0 ∷ 7 ∷ []
unfolding unicode_segmentation unicode_width
mixed_firsts = refl

-- their last places: before the last unit, and the end
mixed_lasts : map last_of (rows 5 mixed) ≡ 6 ∷ 9 ∷ []
unfolding unicode_segmentation unicode_width
mixed_lasts = refl

-- an offset past the end falls in the last row
mixed_rows_of_offsets : map (row_of (rows 5 mixed)) (0 ∷ 6 ∷ 7 ∷ 9 ∷ 20 ∷ []) ≡ 0 ∷ 0 ∷ 1 ∷ 1 ∷ 1 ∷ []
unfolding unicode_segmentation unicode_width
mixed_rows_of_offsets = refl

-- Right goes from slot to slot
mixed_beside : map (beside 5 (row_at (rows 5 mixed) 0) Right) (0 ∷ 1 ∷ 4 ∷ 2 ∷ 6 ∷ []) ≡ Some 1 ∷ Some 4 ∷ Some 2 ∷ Some 6 ∷ None ∷ []
unfolding unicode_segmentation unicode_width
mixed_beside = refl

-- the units that cover columns of its first row
mixed_covering : map (covering 5 (row_at (rows 5 mixed) 0)) (1 ∷ 3 ∷ 4 ∷ 6 ∷ []) ≡ Some 0 ∷ Some 4 ∷ Some 2 ∷ None ∷ []
unfolding unicode_segmentation unicode_width
mixed_covering = refl

-- from right to left the end is left of the units
end_beside_units : slots 8 (rows 8 number) ≡ ((7, 3, 0) ∷ (5, 4, 1) ∷ (6, 5, 1) ∷ (4, 6, 1) ∷ (2, 7, 1) ∷ (0, 8, 1) ∷ []) ∷ []
unfolding unicode_segmentation unicode_width
end_beside_units = refl

-- in a full row it is in the first column
end_at_edge : slots 5 (rows 5 number) ≡ ((7, 1, 0) ∷ (5, 1, 1) ∷ (6, 2, 1) ∷ (4, 3, 1) ∷ (2, 4, 1) ∷ (0, 5, 1) ∷ []) ∷ []
unfolding unicode_segmentation unicode_width
end_at_edge = refl

-- the same body from left to right: its first letter has column 5, its end column 6
end_under_ltr : slots 8 (rows_under Ltr 8 number) ≡ ((5, 1, 1) ∷ (6, 2, 1) ∷ (4, 3, 1) ∷ (2, 4, 1) ∷ (0, 5, 1) ∷ (7, 6, 0) ∷ []) ∷ []
unfolding unicode_segmentation unicode_width
end_under_ltr = refl

-- it is read from the right
reads_from_right : map (reading_order 8) (rows 8 number) ≡ (0 ∷ 2 ∷ 4 ∷ 6 ∷ 5 ∷ 7 ∷ []) ∷ []
unfolding unicode_segmentation unicode_width
reads_from_right = refl

-- the end of a full row from left to right is in the last column
end_of_full_row : slots 2 (rows 2 (codes "ab")) ≡ ((0, 1, 1) ∷ (1, 2, 1) ∷ (2, 2, 0) ∷ []) ∷ []
unfolding unicode_segmentation unicode_width
end_of_full_row = refl

-- a row ends after a blank
wraps_after_blanks : pictures 4 (rows 4 (codes "ab cd")) ≡ codes "ab  " ∷ codes "cd  " ∷ []
unfolding unicode_segmentation unicode_width
wraps_after_blanks = refl

-- each row of a paragraph of level 1 ends at the right edge
wraps_within_level_1 : pictures 4 (rows 4 ((alef ∷ bet ∷ []) ++ codes " cd")) ≡ (codes "  " ++ (bet ∷ alef ∷ [])) ∷ codes "  cd" ∷ []
unfolding unicode_segmentation unicode_width
wraps_within_level_1 = refl

-- a wide character covers two columns
wide_columns : slots 4 (rows 4 (codes "x" ++ (wide ∷ []))) ≡ ((0, 1, 1) ∷ (1, 2, 2) ∷ (4, 4, 0) ∷ []) ∷ []
unfolding unicode_segmentation unicode_width
wide_columns = refl

-- a tab covers the columns to the next stop, counted from where the row begins
tab_columns : slots 16 (rows 16 ((alef ∷ 9 ∷ bet ∷ []))) ≡ ((5, 7, 0) ∷ (3, 8, 1) ∷ (2, 9, 7) ∷ (0, 16, 1) ∷ []) ∷ []
unfolding unicode_segmentation unicode_width
tab_columns = refl

-- an empty body has one row, and its end there
empty_body : slots 10 (rows 10 []) ≡ ((0, 1, 0) ∷ []) ∷ []
unfolding unicode_segmentation unicode_width
empty_body = refl

-- at the right edge where it is from right to left
empty_body_under_rtl : slots 10 (rows_under Rtl 10 []) ≡ ((0, 10, 0) ∷ []) ∷ []
unfolding unicode_segmentation unicode_width
empty_body_under_rtl = refl

-- a letter with a mark is one unit
cluster_places : map offsets_of (rows 5 (codes "e" ++ (acute ∷ []))) ≡ (0 ∷ 3 ∷ []) ∷ []
unfolding unicode_segmentation unicode_width
cluster_places = refl

-- a line of Latin and Hebrew forced to level 1 begins at the right edge
forced_right : column_of 6 (row_at (rows_under Rtl 6 (codes "a " ++ (alef ∷ bet ∷ []) ++ codes " b")) 0) 0 ≡ 6
unfolding unicode_segmentation unicode_width
forced_right = refl

-- a row is entered past its units at its reading end
entered_past_units : map (entry 6 (row_at (rows 6 (codes "d")) 0)) (1 ∷ 4 ∷ []) ≡ Some 0 ∷ Some 1 ∷ []
unfolding unicode_segmentation unicode_width
entered_past_units = refl

-- ---- examples from the law alone

abbrev start : ℕ → RowStart
start n = record { offset = n; units = n; chars = n }

letters : IsUtf8 (codes "abcdef")
unfolding unicode_segmentation unicode_width
letters = (codes "abcdef", (refl, refl))

before_last : IsCharBoundary (codes "abcdef") 5
unfolding unicode_segmentation unicode_width
before_last = IsCharBoundary-from_drop (codes "abcdef") 5 (omega arith) (codes "f", (refl, refl))

-- in a window of one column the first two rows after `abcde` are those of a and b, whatever comes after
rows_before_stay : RowsBeforeStay → (new : List ℕ) → IsUtf8 new → IsCharBoundary new 5 → codes "abcde" ≡ take 5 new
    → take 2 (row_starts small 1 new) ≡ start 0 ∷ start 1 ∷ []
unfolding unicode_segmentation unicode_width
rows_before_stay law new valid boundary same =
    law small 1 (codes "abcdef") new 5 1 4 (start 1) (start 4) (omega arith) letters valid before_last boundary same refl refl (omega arith) (omega arith)
