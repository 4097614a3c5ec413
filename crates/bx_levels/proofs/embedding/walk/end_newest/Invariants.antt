-- The same sequences are left.
use Rattle.std.proofs.Common.{◌≡◌, length}
use Rattle.bx_levels.specs.embedding.Walk.{IsToCome, sequences_left, runs_to_come}
use Rattle.bx_levels.proofs.embedding.walk.end_newest.Given as goal

abbrev pub invariant-loop-run : goal.invariant-loop-run
invariant-loop-run l = record {
  own : l.chains.explicit ≡ l.explicit;
  run : IsToCome l.explicit.kept.items l.run;
  same : sequences_left l.explicit l.chains.chains l.run ≡ sequences_left l.explicit l.fn.chains.chains l.fn.run;
}

abbrev pub decreases-loop-run : goal.decreases-loop-run
decreases-loop-run l = length (runs_to_come l.explicit.kept.items l.run)
