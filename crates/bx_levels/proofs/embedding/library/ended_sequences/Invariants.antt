-- The sequences lent so far, and the sequences left.
use Rattle.std.proofs.Common.{◌≡◌, ◌++◌, length}
use Rattle.bx_levels.specs.embedding.Sequences.{sequences}
use Rattle.bx_levels.specs.embedding.Walk.{AreGiven}
use Rattle.bx_levels.proofs.embedding.library.ended_sequences.Given as goal

abbrev pub invariant-loop-all : goal.invariant-loop-all
invariant-loop-all l = record {
  own : l.walk.explicit ≡ l.explicit;
  given : AreGiven (l.all.items ++ l.walk.left) (sequences l.explicit.level l.explicit.classes.items l.explicit.kept.items);
}

abbrev pub decreases-loop-all : goal.decreases-loop-all
decreases-loop-all l = length l.walk.left
