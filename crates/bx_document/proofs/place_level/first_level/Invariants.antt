-- The levels read so far are none.
use Rattle.std.proofs.Common.{◌≡◌, drop}
use Rattle.bx_rows.specs.RowLevels.{first_level}
use Rattle.bx_document.proofs.place_level.first_level.Given as goal

abbrev pub invariant-loop-level : goal.invariant-loop-level
invariant-loop-level l = first_level l.levels ≡ first_level (drop l.level-index l.levels)
