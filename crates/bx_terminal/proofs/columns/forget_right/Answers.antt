use Rattle.std.proofs.Common.{◌∙◌, arith}
use Rattle.std.proofs.lemmas.List.{length-map}
use Rattle.bx_grid.specs.Columns.{cut_after}
use Rattle.bx_grid.specs.Seen.{seen, all_seen}
use Rattle.bx_terminal.proofs.Spoils.{right_forgot, mixed_all, length-cut_after-seen}
use Rattle.bx_terminal.proofs.Uncut.{right_all}
use Rattle.bx_terminal.proofs.columns.forget_right.Goals as goal

pub loop-next-preserved : goal.loop-next-preserved
loop-next-preserved c =
    let next = c.loop-next.next in
    let kept = c.loop-next.invariant in
    record {
      low = omega (arith, c.loop-next-test.true, c.loop-next.auto.row);
      cut = right_forgot c.args.row.now c.loop-next.row next c.index-row-next.result c.forget.new.column c.forget.ensures
          (omega (arith, c.loop-next-test.true, c.loop-next.auto.row)) c.loop-next.auto.row kept.cut
          (omega (arith, c.if-columns_before-next.true, c.columns_before.ensures));
    }

pub returns-else-columns_before-next : goal.returns-else-columns_before-next
returns-else-columns_before-next c =
    right_all c.args.row.now c.loop-next.row c.loop-next.next c.index-row-next.result c.requires
    (omega (arith, c.loop-next-test.true, c.loop-next.auto.row)) c.loop-next.auto.row c.loop-next.invariant.cut
    (omega (arith, c.if-columns_before-next.false, c.columns_before.ensures))

pub returns-after-loop-next : goal.returns-after-loop-next
returns-after-loop-next c =
    c.loop-next.invariant.cut ∙ mixed_all (cut_after 0 (all_seen c.args.row.now)) (all_seen c.args.row.now) c.loop-next.next
    (length-cut_after-seen c.args.row.now) (omega (arith, length-map c.args.row.now seen, c.loop-next-test.false, c.loop-next.auto.row))
