-- The pairs before index `i` are resolved, and the walk's state is right for the types.
use Rattle.std.proofs.Common.{◌≡◌, drop}
use Rattle.bx_levels.specs.brackets.Resolve.{resolve_pairs}
use Rattle.bx_levels.specs.brackets.Search.{pairs_in}
use Rattle.bx_levels.specs.brackets.Clear.{IsKnown}
use Rattle.bx_levels.proofs.brackets.resolve.resolve_closers.Given as goal

abbrev pub invariant-loop-i : goal.invariant-loop-i
invariant-loop-i l = record {
  known : IsKnown l.embedding l.sos l.types l.known;
  done : resolve_pairs l.embedding l.sos l.was_nsm (pairs_in 0 l.closers) l.fn.types
      ≡ resolve_pairs l.embedding l.sos l.was_nsm (pairs_in l.i (drop l.i l.closers)) l.types;
}
