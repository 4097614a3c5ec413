-- Where words can be read from: a row whose words do not depend on the rows above it, but for its first unit. `ucd` is what the
-- tables say, rows are numbered from 0.
use Rattle.std.specs.Prelude.{◌≡◌, ℕ, ◌<◌, true, false, drop}
use Rattle.bx_ucd.specs.Data.{Data}
use Rattle.unicode_segmentation.specs.Grapheme.{graphemes}
use Rattle.bx_paragraph.specs.BodyRows.{first_of, row_at}
use Rattle.bx_paragraph.specs.Layout.{LayoutState, rows_by}
use Rattle.bx_view.specs.Words.{first_kind, is_sign}

-- row `k` of a layout is the body's first one or begins with no sign
abbrev pub ReadsAlone : Data → LayoutState → ℕ → Type 0
ReadsAlone ucd l k = 0 < k → is_sign (first_kind ucd (graphemes true (drop (first_of (row_at (rows_by ucd l) k)) l.body))) ≡ false
