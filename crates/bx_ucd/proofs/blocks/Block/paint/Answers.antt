-- The painted codes and the others.
use Rattle.std.proofs.Common.{◌<◌, ◌∙◌, refl, length, arith, length-set, inl, inr}
use Rattle.std.proofs.lemmas.Bool.{cases_lt}
use Rattle.bx_ucd.proofs.ClassLemmas.{class_in_more, class_in_kept}
use Rattle.bx_ucd.proofs.blocks.Block.paint.Goals as goal

pub loop-i-init : goal.loop-i-init
loop-i-init c = record {
  whole = refl;
  len = c.each-self.ensures.len;
  upto = omega arith;
  painted = λ k ge lt. absurd (omega arith);
  below = λ k lt within. c.each-self.ensures.each k within;
  above = λ k ge within. c.each-self.ensures.each k within;
}

pub loop-i-preserved : goal.loop-i-preserved
loop-i-preserved c =
    let own = c.loop-i.invariant.whole in
    let within : c.loop-i.i < length c.loop-i.self.each = omega arith in
    record {
      whole = own;
      len = length-set c.loop-i.self.each c.loop-i.i c.args.class ∙ c.loop-i.invariant.len;
      upto = omega arith;
      painted = class_in_more c.loop-i.self c.args.low c.loop-i.i c.args.class own within c.loop-i.invariant.painted;
      below = λ k lt in_block. class_in_kept c.loop-i.self c.loop-i.i k c.args.class own (omega arith) ∙ c.loop-i.invariant.below k lt in_block;
      above = λ k ge in_block. class_in_kept c.loop-i.self c.loop-i.i k c.args.class own (omega arith) ∙ c.loop-i.invariant.above k (omega arith) in_block;
    }

pub returns-clause-above : goal.returns-clause-above
returns-clause-above c k ge in_block =
    elim (cases_lt k c.args.low) [ inl lt ↦ c.loop-i.invariant.below k lt in_block | inr low ↦ c.loop-i.invariant.above k (omega arith) in_block ]
