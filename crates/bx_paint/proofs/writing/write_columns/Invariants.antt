use Rattle.std.proofs.Common.{◌≡◌, drop, false}
use Rattle.bx_paint.specs.Painting.{columns_sent, then_sent}
use Rattle.bx_paint.proofs.writing.write_columns.Given as goal

abbrev pub invariant-loop-i : goal.invariant-loop-i
invariant-loop-i l = record {
  bytes : then_sent l.out.painting (columns_sent l.row l.i l.pen.near l.pen.negative (drop l.i l.old) (drop l.i l.new))
      ≡ then_sent l.initial.out.painting (columns_sent l.row 0 false l.negative l.old l.new);
  before : l.out.before ≡ l.initial.out.before;
}
