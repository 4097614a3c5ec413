-- All types so far are neutral, so the rest has the same side.
use Rattle.std.proofs.Common.{◌≡◌, drop}
use Rattle.bx_levels.specs.resolve.Neutral.{side}
use Rattle.bx_levels.proofs.resolve.neutral.side.Given as goal

abbrev pub invariant-loop-t : goal.invariant-loop-t
invariant-loop-t l = side l.end l.types ≡ side l.end (drop l.t-index l.types)
