-- The types done so far, and the result of the rule on the rest.
use Rattle.std.proofs.Common.{◌≡◌, ◌++◌, take, drop, MatchOption}
use Rattle.bx_levels.specs.resolve.Weak.{w5, is_en_past}
use Rattle.bx_levels.proofs.resolve_lemmas.Run.{run, next_past, out_terminator}
use Rattle.bx_levels.proofs.resolve.weak.w5.Given as goal

abbrev pub invariant-loop-i : goal.invariant-loop-i
invariant-loop-i l = record {
  done : w5 l.fn.types ≡ take l.i l.types ++ run next_past out_terminator l.before (drop l.i l.types);
  known_is : MatchOption l.known (Unit {0}) (λ a. a ≡ is_en_past (drop l.i l.types));
}
