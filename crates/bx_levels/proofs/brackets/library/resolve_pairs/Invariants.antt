-- The pairs so far are resolved, and the walk's state is right for the types.
use Rattle.std.proofs.Common.{◌≡◌, drop}
use Rattle.bx_levels.specs.brackets.Resolve.{resolve_pairs}
use Rattle.bx_levels.specs.brackets.Clear.{IsKnown}
use Rattle.bx_levels.proofs.brackets.library.resolve_pairs.Given as goal

abbrev pub invariant-loop-pair : goal.invariant-loop-pair
invariant-loop-pair l = record {
  known : IsKnown l.embedding l.sos l.types l.known;
  done : resolve_pairs l.embedding l.sos l.was_nsm l.pairs l.fn.types ≡ resolve_pairs l.embedding l.sos l.was_nsm (drop l.pair-index l.pairs) l.types;
}
