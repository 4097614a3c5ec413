-- The rows so far, and those of the units after them, are all.
use Rattle.std.proofs.Common.{◌≡◌, ◌++◌, ◌-◌, ◌≤◌, length, drop}
use Rattle.bx_rows.specs.Wrapping.{is_break, rows_from}
use Rattle.bx_rows_laws.proofs.library.all_rows.Given as goal

abbrev pub invariant-loop-start : goal.invariant-loop-start
invariant-loop-start g l = record {
  within : l.start ≤ length l.units;
  all : l.rows.items ++ rows_from (is_break (g.D.BidiData.data l.tables) l.body) l.w l.start 0 (drop l.start l.units)
      ≡ rows_from (is_break (g.D.BidiData.data l.tables) l.body) l.w 0 0 l.units;
}

abbrev pub decreases-loop-start : goal.decreases-loop-start
decreases-loop-start g l = length l.units - l.start
