-- The types done so far, and the result of the rules on the rest.
use Rattle.std.proofs.Common.{◌≡◌, ◌++◌, take, drop, MatchOption}
use Rattle.bx_levels.specs.resolve.Neutral.{n1, side}
use Rattle.bx_levels.specs.resolve.Kept.{all_taken}
use Rattle.bx_levels.proofs.resolve_lemmas.Run.{run, next_neutral}
use Rattle.bx_levels.proofs.resolve_lemmas.Fused.{out_taken}
use Rattle.bx_levels.proofs.resolve.neutral.resolve_neutrals.Given as goal

abbrev pub invariant-loop-i : goal.invariant-loop-i
invariant-loop-i l = record {
  done : all_taken l.embedding (n1 l.fn.sos l.eos l.fn.types)
      ≡ take l.i l.types ++ run next_neutral (out_taken l.embedding l.eos) l.before (drop l.i l.types);
  known_is : MatchOption l.known (Unit {0}) (λ a. a ≡ side l.eos (drop l.i l.types));
}
