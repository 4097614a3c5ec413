use Rattle.std.proofs.Common.{◌≡◌, ◌≤◌, reverse, take, length}
use Rattle.bx_levels.specs.embedding.Sequences.{level_of_first}
use Rattle.bx_levels.proofs.embedding.ends.level_before.Given as goal

abbrev pub invariant-loop-k : goal.invariant-loop-k
invariant-loop-k l = record {
  within : l.k ≤ length l.kept;
  same : level_of_first l.paragraph (reverse l.kept)
      ≡ level_of_first l.paragraph (reverse (take l.k l.kept));
}

abbrev pub decreases-loop-k : goal.decreases-loop-k
decreases-loop-k l = l.k
