-- The lines of one paragraph's rows, each after a line feed (10): so the paragraphs of a text are appended one by one. `ucd` is
-- Unicode's data, `w` the columns of a row.
use Rattle.std.specs.Prelude.{ℕ, List, ◌∷◌, flat_map}
use Rattle.bx_ucd.specs.Data.{Data}
use Rattle.bx_common.specs.declared.base.Base.{Base}
use Rattle.bx_paragraph.specs.BodyRows.{BodyRow, body_rows, row_glyphs}
use Rattle.bx_print.specs.declared.style.Placeholders.{Placeholders}
use Rattle.bx_print.specs.Page.{line}

-- the line of a row of a body, after a line feed
abbrev pub body_line : Data → Placeholders → ℕ → BodyRow → List ℕ
body_line ucd placeholders w r = 10 ∷ line placeholders (row_glyphs ucd w r)

-- the lines of all rows of a body
abbrev pub body_lines : Data → Placeholders → Base → ℕ → List ℕ → List ℕ
body_lines ucd placeholders base w body = flat_map (body_line ucd placeholders w) (body_rows ucd base w body)
