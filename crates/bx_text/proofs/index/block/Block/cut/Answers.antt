use Rattle.std.proofs.Common.{ap, arith}
use Rattle.bx_text.specs.index.Paragraphs.{total}
use Rattle.bx_text.proofs.index_lemmas.Totals.{total_rest}
use Rattle.bx_text.proofs.index.block.Block.cut.Goals as goal

pub total-requires : goal.total-requires
total-requires c = omega (arith, total_rest c.deref.result.now c.args.at, ap total c.deref.ensures.value, c.self.invariant.bytes, c.self.ranges)

pub overflow_sub-self : goal.overflow_sub-self
overflow_sub-self c = omega (arith, total_rest c.deref.result.now c.args.at, ap total c.deref.ensures.value, c.self.invariant.bytes, c.total.ensures)
