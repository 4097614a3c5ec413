use Rattle.std.proofs.Common.{◌≡◌, ◌≤◌, length, take}
use Rattle.bx_grid.specs.Seen.{all_seen}
use Rattle.bx_paint.specs.Painting.{before_tail}
use Rattle.bx_paint.proofs.writing.front_len.Given as goal

abbrev pub invariant-loop-len : goal.invariant-loop-len
invariant-loop-len l = record {
  within : l.len ≤ length l.columns;
  front : before_tail (all_seen (take l.len l.columns)) ≡ before_tail (all_seen l.columns);
}

abbrev pub decreases-loop-len : goal.decreases-loop-len
decreases-loop-len l = l.len
