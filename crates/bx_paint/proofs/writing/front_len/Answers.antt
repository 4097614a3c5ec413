use Rattle.std.proofs.Common.{◌-◌, take, ap, sym, ◌∙◌, arith}
use Rattle.bx_grid.specs.Seen.{seen, all_seen}
use Rattle.bx_paint.specs.Painting.{before_tail}
use Rattle.bx_paint.proofs.Sent.{before_tail_blank, before_tail_other, last_seen}
use Rattle.bx_paint.proofs.writing.front_len.Goals as goal

pub loop-len-preserved : goal.loop-len-preserved
loop-len-preserved c =
    let columns = c.args.columns.now in
    let k = c.loop-len.len - 1 in
    let x = c.index-columns-len.result in
    let split = last_seen columns c.loop-len.len x (omega (arith, c.loop-len.invariant.within, c.loop-len-test.true)) c.index-columns-len.is in
    record {
      within = omega (arith, c.loop-len.invariant.within);
      front = sym (before_tail_blank (all_seen (take k columns)) (seen x) (sym c.is_blank.ensures ∙ c.if-is_blank.true)) ∙ ap before_tail (sym split)
          ∙ c.loop-len.invariant.front;
    }

pub returns-else-is_blank-clause-front : goal.returns-else-is_blank-clause-front
returns-else-is_blank-clause-front c =
    let columns = c.args.columns.now in
    let k = c.loop-len.len - 1 in
    let x = c.index-columns-len.result in
    let split = last_seen columns c.loop-len.len x (omega (arith, c.loop-len.invariant.within, c.loop-len-test.true)) c.index-columns-len.is in
    split ∙ sym (before_tail_other (all_seen (take k columns)) (seen x) (sym c.is_blank.ensures ∙ c.if-is_blank.false)) ∙ ap before_tail (sym split)
    ∙ c.loop-len.invariant.front
