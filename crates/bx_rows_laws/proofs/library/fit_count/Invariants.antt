use Rattle.std.proofs.Common.{◌≡◌, ◌+◌, ◌≤◌, drop}
use Rattle.bx_rows.specs.Wrapping.{fit_count, fit_count_from}
use Rattle.bx_rows_laws.proofs.library.fit_count.Given as goal

abbrev pub invariant-loop-unit : goal.invariant-loop-unit
invariant-loop-unit l = record {
  columns : l.c ≤ l.w;
  counted : l.n ≡ l.unit-index;
  rest : fit_count l.w l.units ≡ l.n + fit_count_from l.w l.c (drop l.unit-index l.units);
}
