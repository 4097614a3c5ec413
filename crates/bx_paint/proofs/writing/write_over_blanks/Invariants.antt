use Rattle.std.proofs.Common.{◌≡◌, ◌-◌, ◌*◌, drop, replicate, false}
use Rattle.bx_grid.specs.Columns.{blank}
use Rattle.bx_paint.specs.Painting.{rows_sent, then_sent}
use Rattle.bx_paint.proofs.writing.write_over_blanks.Given as goal

abbrev pub invariant-loop-row : goal.invariant-loop-row
invariant-loop-row l = record {
  bytes : then_sent l.out.painting (rows_sent (l.new.height - l.row) l.row l.new.width l.negative
      (drop (l.row * l.new.width) (replicate (l.new.height * l.new.width) blank))
      (drop (l.row * l.new.width) l.new.columns))
      ≡ then_sent l.initial.out.painting (rows_sent l.new.height 0 l.new.width false (replicate (l.new.height * l.new.width) blank) l.new.columns);
  before : l.out.before ≡ l.initial.out.before;
}
