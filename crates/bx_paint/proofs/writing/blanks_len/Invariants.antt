use Rattle.std.proofs.Common.{◌≡◌, ◌+◌, drop}
use Rattle.bx_grid.specs.Seen.{all_seen}
use Rattle.bx_paint.specs.Painting.{leading_blanks}
use Rattle.bx_paint.proofs.writing.blanks_len.Given as goal

abbrev pub invariant-loop-column : goal.invariant-loop-column
invariant-loop-column l = record {
  count : l.len ≡ l.column-index;
  blanks : leading_blanks (all_seen l.columns) ≡ l.len + leading_blanks (all_seen (drop l.len l.columns));
}
