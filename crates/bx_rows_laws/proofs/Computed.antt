-- A whole body, computed: its rows, the levels of their units, and their pictures.
use Rattle.std.proofs.Common.{ℕ, Bool, List, map, Option}
use Rattle.std.specs.Prelude.{flat_map, chars, encode_utf8_all, Some, None, ◌==◌, if◌then◌else◌}
use Rattle.bx_ucd.specs.Data.{Data}
pub use Rattle.bx_ucd.specs.SmallTables.{mirror}
use Rattle.bx_ucd.specs.SmallTables.{small}
use Rattle.bx_common.specs.declared.base.Base.{Base}
use Rattle.bx_common.specs.declared.base.Base.TheVariants.{Auto}
use Rattle.bx_levels.specs.resolve.Levels.{paragraph_level_under, levels_under}
use Rattle.bx_rows.specs.declared.cells.unit.Unit.{Unit}
use Rattle.bx_rows.specs.cells.Units.{units}
use Rattle.bx_rows.specs.Wrapping.{wrap, row_units}
use Rattle.bx_rows.specs.RowLevels.{row_levels, visual}
use Rattle.bx_rows.specs.RowPicture.{Glyph, draw}

-- the same, but the opening parenthesis mirrors to a wide character
abbrev pub wide_mirror : ℕ → Option ℕ
wide_mirror c = if c == 0x28 then Some 0x4e16 else mirror c

-- a wide character mirrors to a letter, and a mark to another
abbrev pub narrow_mirror : ℕ → Option ℕ
narrow_mirror c = if c == 0x4e16 then Some 0x61 else (if c == 0x301 then Some 0x62 else None)

-- the units of each row of a body of these characters
abbrev pub rows_units : ℕ → List ℕ → List (List Unit)
rows_units w cs =
    let body = encode_utf8_all cs in
    let us = units small w body in
    map (row_units us) (wrap small w body us)

-- the rows, each from unit to unit
abbrev pub rows : ℕ → List ℕ → List (ℕ × ℕ)
rows w cs = let body = encode_utf8_all cs in map (λ r. (r.start, r.stop)) (wrap small w body (units small w body))

-- the levels of the units of each row
abbrev pub levels_under_base : Base → ℕ → List ℕ → List (List ℕ)
levels_under_base base w cs =
    let each = levels_under small base cs in
    map (row_levels small (encode_utf8_all cs) (paragraph_level_under small base cs) each) (rows_units w cs)

abbrev pub levels : ℕ → List ℕ → List (List ℕ)
levels w cs = levels_under_base Auto w cs

-- the visual order of each row
abbrev pub orders : ℕ → List ℕ → List (List ℕ)
orders w cs = map visual (levels w cs)

-- the glyphs of each row by any tables
abbrev pub drawn_by : Data → Base → ℕ → List ℕ → List (List Glyph)
drawn_by ucd base w cs =
    let body = encode_utf8_all cs in
    let us = units ucd w body in
    let paragraph = paragraph_level_under ucd base cs in
    let each = levels_under ucd base cs in
    map (λ r. draw ucd w body paragraph each (row_units us r) (row_levels ucd body paragraph each (row_units us r))) (wrap ucd w body us)

-- the glyphs of each row, with these mirrors
abbrev pub drawn : (ℕ → Option ℕ) → Base → ℕ → List ℕ → List (List Glyph)
drawn mirrors base w cs = drawn_by (record small { mirror = mirrors }) base w cs

-- the characters of a row's glyphs from left to right
abbrev pub texts : List (List Glyph) → List (List ℕ)
texts rows = map (λ gs. flat_map (λ g. chars g.text) gs) rows

abbrev pub pictures : ℕ → List ℕ → List (List ℕ)
pictures w cs = texts (drawn mirror Auto w cs)

-- the columns of each glyph, and which glyphs are in negative image
abbrev pub columns : List (List Glyph) → List (List ℕ)
columns rows = map (λ gs. map (λ g. g.columns) gs) rows

abbrev pub negatives : List (List Glyph) → List (List Bool)
negatives rows = map (λ gs. map (λ g. g.negative) gs) rows
