-- The rows of a whole text in a window of `w` columns, numbered from 0. Offsets count bytes of the text. `ucd` is what the
-- tables say.
use Rattle.std.specs.Prelude.{ℕ, ◌+◌, ◌-◌, List, [], ◌∷◌, ◌++◌, map, flat_map, slice_index_or, Contains}
use Rattle.bx_ucd.specs.Data.{Data}
use Rattle.bx_common.specs.declared.base.Base.{Base}
use Rattle.bx_text.specs.index.Paragraphs.{Paragraph, paragraphs, lengths_of, bytes_of}
use Rattle.bx_rows.specs.RowPicture.{Glyph}
use Rattle.bx_paragraph.specs.BodyRows.{BodyRow, body_rows, first_of, falls_in, no_row, offsets_of, row_glyphs}
use Rattle.bx_paragraph.specs.Slots.{column_of, slot_offsets}

-- a row of a text: the offset at which its paragraph's body begins, and the row of that body
pub record TextRow : Type 0 where
  pub start : ℕ
  pub row : BodyRow

-- a row of a text, by the offset at which its paragraph's body begins and the row of that body
abbrev pub text_row : ℕ → BodyRow → TextRow
text_row start r = record { start = start; row = r }

-- the rows of paragraphs, of which the first begins at the offset `start`
abbrev pub rows_from : Data → Base → ℕ → ℕ → List Paragraph → List TextRow
rows_from ucd base w start [] = []
rows_from ucd base w start (p ∷ ps) =
    map (text_row start) (body_rows ucd base w p.body) ++ rows_from ucd base w (start + bytes_of (lengths_of p)) ps

-- the rows of a text
abbrev pub text_rows : Data → Base → ℕ → List ℕ → List TextRow
text_rows ucd base w text = rows_from ucd base w 0 (paragraphs ucd text)

-- the offset at which a row begins
abbrev pub first : TextRow → ℕ
first r = r.start + first_of r.row

-- The number of the row that an offset falls in: the last one that begins at or before it. A place falls in the row with
-- its slot, a separator's bytes in the last row of its paragraph, an offset past the text's end in the last row.
abbrev pub row_of : List TextRow → ℕ → ℕ
row_of rows offset = falls_in (map first rows) offset

-- an empty row, for numbers without a row
abbrev pub no_text_row : TextRow
no_text_row = text_row 0 no_row

-- a row by its number
abbrev pub row_at : List TextRow → ℕ → TextRow
row_at rows k = slice_index_or rows k no_text_row

-- offsets of a row's body as offsets of the text
abbrev pub in_text : TextRow → List ℕ → List ℕ
in_text r offsets = map (λ o. r.start + o) offsets

-- the places of a row in text order: the start of each unit, and in a paragraph's last row the paragraph's end
abbrev pub places_of : TextRow → List ℕ
places_of r = in_text r (offsets_of r.row)

-- the places of a text in order: the boundaries of its units; a separator is a unit too
abbrev pub places : List TextRow → List ℕ
places rows = flat_map places_of rows

-- an offset is a place of the text
abbrev pub IsPlace : List TextRow → ℕ → Type 0
IsPlace rows offset = Contains (places rows) offset

-- the places of a row from left to right
abbrev pub slots : ℕ → TextRow → List ℕ
slots w r = in_text r (slot_offsets w r.row)

-- the column of the cell of a place, from 1
abbrev pub cell_of : ℕ → List TextRow → ℕ → ℕ
cell_of w rows place = let r = row_at rows (row_of rows place) in column_of w r.row (place - r.start)

-- the glyphs of a row from left to right
abbrev pub text_row_glyphs : Data → ℕ → TextRow → List Glyph
text_row_glyphs ucd w r = row_glyphs ucd w r.row
