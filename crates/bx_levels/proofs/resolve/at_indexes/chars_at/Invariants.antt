use Rattle.std.proofs.Common.{◌≡◌, take}
use Rattle.bx_levels.specs.resolve.Levels.{chars_at}
use Rattle.bx_levels.proofs.resolve.at_indexes.chars_at.Given as goal

abbrev pub invariant-loop-p : goal.invariant-loop-p
invariant-loop-p l = l.found.items ≡ chars_at l.chars (take l.p-index l.indexes)
