-- The units so far, and the first units of the rest, are the first units from the offset on.
use Rattle.std.proofs.Common.{◌≡◌, ◌≤◌, ◌++◌, ◌-◌, length, take}
use Rattle.std.specs.Str.{IsCharBoundary}
use Rattle.bx_rows.specs.cells.UnitFacts.{units_from}
use Rattle.bx_rows.proofs.cells.first_units.listed_from.Given as goal

abbrev pub invariant-loop-range : goal.invariant-loop-range
invariant-loop-range g l = record {
  boundary : IsCharBoundary l.body l.next;
  within : length l.units.items ≤ l.range.count;
  all : l.units.items ++ take (l.range.count - length l.units.items) (units_from (g.D.BidiData.data l.tables) l.w l.body l.next)
      ≡ take l.range.count (units_from (g.D.BidiData.data l.tables) l.w l.body l.range.start);
}

abbrev pub decreases-loop-range : goal.decreases-loop-range
decreases-loop-range g l = length l.body - l.next
