-- The characters read so far are simple, and `left` is the window's columns without theirs.
use Rattle.std.proofs.Common.{◌≡◌, ◌+◌, true, length, take, chars, sum_by}
use Rattle.bx_rows.specs.cells.Simple.{is_simple_text, simple_columns}
use Rattle.bx_rows.proofs.cells.fitting.is_simple_within.Given as goal

abbrev pub invariant-loop-c : goal.invariant-loop-c
invariant-loop-c l = record {
  simple : is_simple_text (take (length l.yielded) (chars l.body)) ≡ true;
  columns : sum_by simple_columns (take (length l.yielded) (chars l.body)) + l.left ≡ l.w;
}
