-- The model of a paragraph's layout, and its rows. `ucd` is what the tables say.
use Rattle.std.specs.Prelude.{◌≡◌, ℕ, Bool, true, List, Option, IsUtf8, chars, map}
use Rattle.bx_ucd.specs.Data.{Data}
use Rattle.bx_common.specs.Characters.{is_side}
use Rattle.bx_common.specs.declared.base.Base.{Base}
use Rattle.bx_levels.specs.resolve.Edited.{HasNoFormatting}
use Rattle.bx_levels.specs.resolve.Levels.{paragraph_level_under, levels_under}
use Rattle.bx_rows.specs.declared.start_search.RowStart.{RowStart}
use Rattle.bx_rows.specs.RowStarts.{row_starts}
use Rattle.bx_paragraph.specs.BodyRows.{BodyRow, body_rows, row_at, falls_in, first_of}

-- a body, the base direction, the window's columns (`w`), the paragraph level, the level of each character (`each`), the row starts, and
-- whether the body is known to have no formatting character and none of class BN
pub record LayoutState : Type 0 where
  pub body : List ℕ
  pub base : Base
  pub w : ℕ
  pub paragraph : ℕ
  pub each : List (Option ℕ)
  pub starts : List RowStart
  pub is_unformatted : Bool

-- the levels and the row starts are those that the definitions give for the data
pub record IsLayoutBy (ucd : Data) (l : LayoutState) : Type 0 where
  pub paragraph : l.paragraph ≡ paragraph_level_under ucd l.base (chars l.body)
  pub each : l.each ≡ levels_under ucd l.base (chars l.body)
  pub starts : l.starts ≡ row_starts ucd l.w l.body
  pub unformatted : l.is_unformatted ≡ true → HasNoFormatting ucd (chars l.body)

-- what holds of every layout: its width is within its limits, and its body is UTF-8
pub record IsSound (l : LayoutState) : Type 0 where
  pub side : is_side l.w ≡ true
  pub utf8 : IsUtf8 l.body

-- the rows of the layout's body
abbrev pub rows_by : Data → LayoutState → List BodyRow
rows_by ucd l = body_rows ucd l.base l.w l.body

-- row `k` of the layout, from 0
abbrev pub row_by : Data → LayoutState → ℕ → BodyRow
row_by ucd l k = row_at (rows_by ucd l) k

-- the layout's rows have the property `P`, whatever the data
abbrev pub OfRows : LayoutState → (List BodyRow → Type 0) → Type 0
OfRows l P = (ucd : Data) → IsLayoutBy ucd l → P (rows_by ucd l)

-- the number of the row that an offset falls in: the last one that begins at or before it
abbrev pub row_of : List BodyRow → ℕ → ℕ
row_of rows offset = falls_in (map first_of rows) offset
