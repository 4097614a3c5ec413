use Rattle.std.proofs.Common.{◌≡◌, ◌+◌, ◌≤◌, List, length, take}
use Rattle.bx_grid.specs.Columns.{Col}
use Rattle.bx_grid.specs.Grid.{paste}
use Rattle.bx_grid.specs.Seen.{all_seen}
use Rattle.bx_grid.proofs.rows.copy_short.Given as goal

abbrev pub invariant-loop-i : goal.invariant-loop-i
invariant-loop-i l =
    (start : List Col) → l.from + length l.others ≤ length start → all_seen l.initial.columns ≡ paste start l.from (all_seen (take l.at l.others))
    → all_seen l.columns ≡ paste start l.from (all_seen (take l.i l.others))
