use Rattle.std.proofs.Common.{◌≡◌, ◌-◌, ◌*◌, drop, false}
use Rattle.bx_paint.specs.Painting.{rows_sent, then_sent}
use Rattle.bx_paint.proofs.writing.write_rows.Given as goal

abbrev pub invariant-loop-row : goal.invariant-loop-row
invariant-loop-row l = record {
  bytes : then_sent l.out.painting (rows_sent (l.new.height - l.row) l.row l.new.width l.negative (drop (l.row * l.new.width) l.old.columns)
      (drop (l.row * l.new.width) l.new.columns))
      ≡ then_sent l.initial.out.painting (rows_sent l.new.height 0 l.new.width false l.old.columns l.new.columns);
  before : l.out.before ≡ l.initial.out.before;
}
