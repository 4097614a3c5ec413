-- No unit from number n on is a break.
use Rattle.std.proofs.Common.{◌≡◌, ◌≤◌, length, take}
use Rattle.bx_rows.specs.Wrapping.{is_break, up_to_last}
use Rattle.bx_rows_laws.proofs.library.up_to_last_break.Given as goal

abbrev pub invariant-loop-n : goal.invariant-loop-n
invariant-loop-n g l = record {
  within : l.n ≤ length l.units;
  none : up_to_last (is_break (g.D.BidiData.data l.tables) l.body) (take l.n l.units)
      ≡ up_to_last (is_break (g.D.BidiData.data l.tables) l.body) l.units;
}

abbrev pub decreases-loop-n : goal.decreases-loop-n
decreases-loop-n g l = l.n
