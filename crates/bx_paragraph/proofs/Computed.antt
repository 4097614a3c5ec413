-- The rows of a body, computed, by the small tables.
use Rattle.std.proofs.Common.{ℕ, List, map}
use Rattle.std.specs.Prelude.{flat_map, chars, encode_utf8_all}
use Rattle.bx_ucd.specs.SmallTables.{small}
use Rattle.bx_common.specs.declared.base.Base.{Base}
use Rattle.bx_common.specs.declared.base.Base.TheVariants.{Auto}
use Rattle.bx_paragraph.specs.BodyRows.{BodyRow, body_rows, row_glyphs}
use Rattle.bx_paragraph.specs.Slots.{row_slots}

-- the rows of a body of these characters
abbrev pub rows_under : Base → ℕ → List ℕ → List BodyRow
rows_under base w cs = body_rows small base w (encode_utf8_all cs)

abbrev pub rows : ℕ → List ℕ → List BodyRow
rows w cs = rows_under Auto w cs

-- the slots of each row from left to right: offset, leftmost column, columns
abbrev pub slots : ℕ → List BodyRow → List (List (ℕ × ℕ × ℕ))
slots w rs = map (λ r. map (λ s. (s.offset, s.column, s.columns)) (row_slots w r)) rs

-- the characters of the glyphs of each row, from left to right
abbrev pub pictures : ℕ → List BodyRow → List (List ℕ)
pictures w rs = map (λ r. flat_map (λ g. chars g.text) (row_glyphs small w r)) rs
