use Rattle.std.proofs.Common.{◌-◌, ◌≡◌, length, ap, sym, ◌∙◌, arith}
use Rattle.std.proofs.lemmas.List.{length-map}
use Rattle.bx_grid.specs.Columns.{cut_before}
use Rattle.bx_grid.specs.Seen.{seen, all_seen}
use Rattle.bx_terminal.proofs.Spoils.{mixed, mixed_all, length-cut_before-seen}
use Rattle.bx_terminal.proofs.Uncut.{left_more, left_all}
use Rattle.bx_terminal.proofs.columns.forget_left.Goals as goal

pub loop-first-init : goal.loop-first-init
loop-first-init c =
    let xs = all_seen c.args.row.now in
    let len = length-cut_before-seen c.args.row.now in
    record {
      low = omega arith;
      cut = sym (mixed_all xs (cut_before xs) (length c.args.row.now) (sym len) (omega (arith, len, length-map c.args.row.now seen)));
    }

pub loop-first-preserved : goal.loop-first-preserved
loop-first-preserved c =
    let first = c.loop-first.first in
    let kept = c.loop-first.invariant in
    record {
      low = omega (arith, kept.low);
      cut = left_more c.args.row.now c.loop-first.row first (first - 1) c.index-row-first.result c.forget.new.column c.forget.ensures
          (omega (arith, c.loop-first-test.true)) kept.low c.loop-first.auto.row kept.cut (omega (arith, c.if-columns_after-count.true, c.columns_after.ensures));
    }

pub returns-else-columns_after-count : goal.returns-else-columns_after-count
returns-else-columns_after-count c =
    let first = c.loop-first.first in
    let kept = c.loop-first.invariant in
    left_all c.args.row.now c.loop-first.row first (first - 1) c.index-row-first.result c.requires (omega (arith, c.loop-first-test.true)) kept.low
    c.loop-first.auto.row kept.cut (omega (arith, c.if-columns_after-count.false, c.columns_after.ensures))

pub returns-after-loop-first : goal.returns-after-loop-first
returns-after-loop-first c =
    let none : c.loop-first.first ≡ 0 = omega (arith, c.loop-first-test.false) in
    c.loop-first.invariant.cut ∙ ap (λ n. mixed n (all_seen c.args.row.now) (cut_before (all_seen c.args.row.now))) none
