use Rattle.std.proofs.Common.{◌≡◌, drop}
use Rattle.bx_levels.specs.embedding.Sequences.{level_of_first}
use Rattle.bx_levels.proofs.embedding.ends.level_of_first.Given as goal

abbrev pub invariant-loop-c : goal.invariant-loop-c
invariant-loop-c l = level_of_first l.paragraph l.kept ≡ level_of_first l.paragraph (drop l.c-index l.kept)
