-- The columns so far, and those of the units after, are all.
use Rattle.std.proofs.Common.{◌≡◌, ◌+◌, ◌++◌, length, drop, sum}
use Rattle.bx_rows.specs.RowPicture.{unit_columns, columns_used}
use Rattle.bx_rows.proofs.picture.unit_columns.Given as goal

abbrev pub invariant-loop-unit : goal.invariant-loop-unit
invariant-loop-unit l = record {
  count : length l.columns.items ≡ l.unit-index;
  all : l.columns.items ++ unit_columns l.w l.c (drop l.unit-index l.units) ≡ unit_columns l.w 0 l.units;
  total : l.c + sum (unit_columns l.w l.c (drop l.unit-index l.units)) ≡ columns_used l.w l.units;
}
