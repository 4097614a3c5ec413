-- Moves in a column that is kept, computed: through a short line, by pages, and in rows from right to left.
use Rattle.std.proofs.Common.{◌≡◌, ℕ, List, [], ◌∷◌, ◌++◌, refl}
use Rattle.std.specs.Prelude.{codes}
use Rattle.unicode_segmentation.proofs.Computing.{unicode_segmentation}
use Rattle.unicode_width.proofs.Computing.{unicode_width}
use Rattle.bx_ucd.specs.SmallTables.{small}
use Rattle.bx_view.specs.declared.moves.Goal.TheVariants.{Column}
use Rattle.bx_view.specs.declared.moves.Move.TheVariants.{Rows, RowsIn}
use Rattle.bx_view.specs.declared.moves.Vertical.TheVariants.{Up, Down}
use Rattle.bx_view.specs.Moves.{rows_away, row_end, vertical}
use Rattle.bx_view.specs.Moved.{moved}
use Rattle.bx_view.specs.TextRows.{TextRow, cell_of}
use Rattle.bx_view.proofs.Computed.{rows, walk}

-- in the column of the place's own cell the move is the cursor's own
own_column : (text : List ℕ) (w : ℕ) (rs : List TextRow) (n place : ℕ)
    → moved small text w rs (RowsIn Down n (Column (cell_of w rs place))) place ≡ moved small text w rs (Rows Down n) place
own_column text w rs n place = refl

-- the rows of lines of six letters, two and six
abbrev short_between : List TextRow
short_between = rows 20 (codes "abcdef" ++ (10 ∷ []) ++ codes "ab" ++ (10 ∷ []) ++ codes "abcdef")

end_of_first_line : row_end short_between 0 ∷ cell_of 20 short_between 6 ∷ [] ≡ 6 ∷ 7 ∷ []
unfolding unicode_segmentation unicode_width
end_of_first_line = refl

-- twice down and twice up from the end of the first line: the column of the first move is kept
through_a_short_line : walk (rows_away 20 short_between Down 1 (Column 7) ∷ rows_away 20 short_between Down 1 (Column 7) ∷ rows_away 20 short_between Up 1 (Column 7) ∷ rows_away 20 short_between Up 1 (Column 7) ∷ []) 6
    ≡ 9 ∷ 16 ∷ 9 ∷ 6 ∷ []
unfolding unicode_segmentation unicode_width
through_a_short_line = refl

-- Down and Up go by the column of the place that they leave
own_columns : walk (vertical 20 short_between Down ∷ vertical 20 short_between Down ∷ vertical 20 short_between Up ∷ vertical 20 short_between Up ∷ []) 6
    ≡ 9 ∷ 12 ∷ 9 ∷ 2 ∷ []
unfolding unicode_segmentation unicode_width
own_columns = refl

-- the rows of lines of four letters with an empty line between two of them
abbrev empty_between : List TextRow
empty_between = rows 20 (codes "abcd" ++ (10 ∷ 10 ∷ []) ++ codes "abcd" ++ (10 ∷ 10 ∷ []) ++ codes "abcd")

-- a row down, twice a page of two rows down, and a page up, from the end of the first line
by_pages : walk (rows_away 20 empty_between Down 1 (Column 5) ∷ rows_away 20 empty_between Down 2 (Column 5) ∷ rows_away 20 empty_between Down 2 (Column 5) ∷ rows_away 20 empty_between Up 2 (Column 5) ∷ []) 4
    ≡ 5 ∷ 11 ∷ 16 ∷ 10 ∷ []
unfolding unicode_segmentation unicode_width
by_pages = refl

-- the rows of lines of three Hebrew letters and one
abbrev hebrew : List TextRow
hebrew = rows 6 (0x5d0 ∷ 0x5d1 ∷ 0x5d2 ∷ 10 ∷ 0x5d0 ∷ [])

end_of_hebrew_line : cell_of 6 hebrew 6 ≡ 3
unfolding unicode_segmentation unicode_width
end_of_hebrew_line = refl

in_hebrew : walk (rows_away 6 hebrew Down 1 (Column 3) ∷ rows_away 6 hebrew Up 1 (Column 3) ∷ []) 6 ≡ 9 ∷ 6 ∷ []
unfolding unicode_segmentation unicode_width
in_hebrew = refl

own_columns_in_hebrew : walk (vertical 6 hebrew Down ∷ vertical 6 hebrew Up ∷ []) 6 ≡ 9 ∷ 2 ∷ []
unfolding unicode_segmentation unicode_width
own_columns_in_hebrew = refl
