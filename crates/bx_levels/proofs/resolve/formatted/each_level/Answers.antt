use Rattle.std.proofs.Common.{arith, ap, length}
use Rattle.bx_levels.proofs.resolve_lemmas.Small.{few_chars}
use Rattle.bx_levels.proofs.resolve.formatted.each_level.Goals as goal

pub write_left-requires-clause-small : goal.write_left-requires-clause-small
write_left-requires-clause-small g c =
    omega (arith, ap length c.deref.ensures.value, c.args.explicit.now.as_long, c.requires.as_long, few_chars c.args.body.now c.utf8.body, c.requires.small)
