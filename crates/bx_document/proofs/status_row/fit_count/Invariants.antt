use Rattle.bx_document.proofs.Fitting.{IsFit}
use Rattle.bx_document.proofs.status_row.fit_count.Given as goal

abbrev pub invariant-loop-i : goal.invariant-loop-i
invariant-loop-i l = IsFit l.fn.width l.fn.glyphs l.i l.left
