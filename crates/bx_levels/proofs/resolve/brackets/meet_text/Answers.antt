use Rattle.std.proofs.Common.{◌∙◌, sym, arith, chars}
use Rattle.bx_levels.proofs.resolve_lemmas.PairsLeft.{types_out}
use Rattle.bx_levels.proofs.resolve.brackets.meet_text.Goals as goal

pub returns-clause-pairs : goal.returns-clause-pairs
returns-clause-pairs g c = sym (c.loop-index.invariant.left ∙ types_out (g.D.BidiData.data c.args.tables.now) c.loop-index.search.progress
    c.loop-index.index c.loop-index.index (chars c.loop-index.rest.now) c.args.types.now (omega arith))
