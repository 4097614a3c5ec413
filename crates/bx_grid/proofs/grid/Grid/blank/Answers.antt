use Rattle.std.proofs.Common.{sym}
use Rattle.bx_grid.proofs.Grids.{sized_blanks, blank_codes}
use Rattle.bx_grid.proofs.grid.Grid.blank.Goals as goal

pub invariant_of-result : goal.invariant_of-result
invariant_of-result c = (
  sized_blanks c.args.height c.args.width _ (sym (rw (c.if-not-is_side.false) at c.is_side.ensures))
      (sym (rw (c.if-not-is_side-2.false) at c.is_side-else-not-is_side.ensures)) c.in_ok-columns.ensures,
  blank_codes _ _ _ c.in_ok-codes.ensures c.in_ok-columns.ensures,
)
