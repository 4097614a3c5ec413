-- The levels of the types so far.
use Rattle.std.proofs.Common.{◌≡◌, length, map, take, Some}
use Rattle.bx_levels.specs.resolve.Neutral.{implicit_at}
use Rattle.bx_levels.proofs.resolve.resolve.write_found.Given as goal

abbrev pub invariant-loop-i : goal.invariant-loop-i
invariant-loop-i l = record {
  count : length l.each ≡ length l.types;
  same : take l.i l.each ≡ map (λ t. Some (implicit_at l.level t)) (take l.i l.types);
}
