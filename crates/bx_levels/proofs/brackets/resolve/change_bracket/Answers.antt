use Rattle.std.proofs.Common.{arith, ◌≡◌, ◌≢◌, ◌∙◌, length, set}
use Rattle.std.proofs.Math.ListN.{length-set}
use Rattle.std.proofs.lemmas.List.{get_or-set_other}
use Rattle.bx_ucd.specs.declared.class.Class.TheVariants.{L}
use Rattle.bx_levels.proofs.brackets_lemmas.Nsms.{nsms_more}
use Rattle.bx_levels.proofs.brackets.resolve.change_bracket.Goals as goal

pub loop-k-preserved : goal.loop-k-preserved
loop-k-preserved c =
    let n : length (set c.args.types.now c.args.p c.args.d) ≡ length c.args.types.now = length-set c.args.types.now c.args.p c.args.d in
    record {
      value = c.loop-k.invariant.value ∙ nsms_more c.args.d c.args.was_nsm.now c.loop-k.types c.loop-k.k (omega arith) (omega arith) c.if-not-was_nsm-k.false;
      rest = λ k h. let ne : k ≢ c.loop-k.k = omega arith in get_or-set_other c.loop-k.types c.loop-k.k k c.args.d L ne
          ∙ c.loop-k.invariant.rest k (omega arith);
    }
