use Rattle.std.proofs.Common.{◌≡◌, take}
use Rattle.bx_levels.specs.resolve.Levels.{types_at}
use Rattle.bx_levels.proofs.resolve.at_indexes.types_at.Given as goal

abbrev pub invariant-loop-p : goal.invariant-loop-p
invariant-loop-p l = l.types.items ≡ types_at l.kept (take l.p-index l.indexes)
