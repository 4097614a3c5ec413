-- The starts so far and the current row determine the starts of the whole body.
use Rattle.std.proofs.Common.{◌-◌, length}
use Rattle.std.specs.Str.{IsCharBoundary}
use Rattle.bx_rows.specs.cells.UnitFacts.{units_from}
use Rattle.bx_rows.specs.RowScan.{IsInOrder, IsRead}
use Rattle.bx_rows.proofs.start_search.row_starts.Given as goal

abbrev pub invariant-loop-at : goal.invariant-loop-at
invariant-loop-at g l = record {
  in_turn : IsInOrder l.w l.body l.scan l.at;
  boundary : IsCharBoundary l.body l.at;
  read : IsRead (g.D.BidiData.data l.tables) l.w l.body l.starts.items l.scan (units_from (g.D.BidiData.data l.tables) l.w l.body l.at);
}

abbrev pub decreases-loop-at : goal.decreases-loop-at
decreases-loop-at g l = length l.body - l.at
