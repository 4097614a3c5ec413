use Rattle.std.proofs.Common.{◌≡◌, ◌-◌}
use Rattle.bx_text.proofs.MergedSteps.{IsSoFar, all_merged}
use Rattle.bx_text.proofs.turns.change_of_last.Given as goal

abbrev pub invariant-loop-others : goal.invariant-loop-others
invariant-loop-others l =
    (all_merged l.way l.whole (l.n - l._others) l.rest ≡ all_merged l.way l.initial.whole (l.n - 1) l.initial.rest) × IsSoFar l.whole l.rest
