use Rattle.std.proofs.Common.{◌≤◌, ◌++◌, ◌∙◌, arith, drop, length}
use Rattle.bx_levels.specs.embedding.LevelIndexes.{level_indexes}
use Rattle.bx_levels.proofs.resolve_lemmas.Written.{written_out}
use Rattle.bx_levels.proofs.resolve.formatted.write_run.Goals as goal

pub returns-else-written-types-clause-written : goal.returns-else-written-types-clause-written
returns-else-written-types-clause-written c = λ rest.
    let none : length c.args.types.now ≤ c.loop-k.written = omega arith in
    c.loop-k.invariant.written rest ∙ written_out c.args.run.level (level_indexes c.args.run.level c.loop-k.k (drop c.loop-k.k c.args.run.kept.now) ++ rest) rest
    c.args.types.now c.loop-k.written c.loop-k.each.items none
