use Rattle.std.proofs.Common.{◌∙◌, sym, arith}
use Rattle.bx_levels.proofs.resolve_lemmas.Written.{levels_all}
use Rattle.bx_levels.proofs.resolve.at_indexes.write_levels.Goals as goal

pub returns : goal.returns
returns c = sym (c.loop-i.invariant.written ∙ levels_all c.args.indexes.now c.args.levels.now c.loop-i.each.items c.loop-i.i (omega arith))
