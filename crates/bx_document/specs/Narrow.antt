-- Glyphs that a terminal shows in as many columns as they are said to have.
use Rattle.std.specs.Prelude.{◌≡◌, true}
use Rattle.std.specs.Cow.{cow_str_bytes}
use Rattle.bx_common.specs.Glyphs.{is_one_glyph, run_width}
use Rattle.bx_rows.specs.declared.drawn.Drawn.{Drawn}

-- a glyph whose text a terminal shows as one, in the glyph's columns
pub record IsWellDrawn (g : Drawn) : Type 0 where
  pub one : is_one_glyph (cow_str_bytes g.text) ≡ true
  pub columns : run_width (cow_str_bytes g.text) ≡ g.columns
