use Rattle.std.proofs.Common.{◌≡◌, drop, map}
use Rattle.bx_rows.specs.Shown.{glyph_of}
use Rattle.bx_document.specs.InputLine.{shown_line}
use Rattle.bx_document.proofs.status_row.cut_for.Given as goal

-- what is shown is decided by the glyphs from the next one on
abbrev pub invariant-loop-i : goal.invariant-loop-i
invariant-loop-i l =
    shown_line l.fn.width l.fn.before (map glyph_of (drop l.i l.fn.glyphs)) l.cell
    ≡ shown_line l.fn.width l.fn.before (map glyph_of l.fn.glyphs) l.fn.cell
