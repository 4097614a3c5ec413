use Rattle.std.proofs.Common.{◌∙◌, ap, length}
use Rattle.std.proofs.lemmas.List.{take_at}
use Rattle.std.proofs.lemmas.List.FromFn.{length-range_with_len}
use Rattle.bx_rows.proofs.NumbersBelow.{numbers-ordered}
use Rattle.bx_rows.proofs.visual_order.numbers_in_order.Goals as goal

pub reorder-requires : goal.reorder-requires
reorder-requires c = ap length (c.deref_mut.ensures.value ∙ c.in_ok-numbers.ensures) ∙ length-range_with_len 0 (length c.args.levels.now)

pub returns : goal.returns
returns c =
    take_at c.reorder.new.items _ c.in_ok-numbers.numbers.len (c.reorder.ensures.count ∙ c.deref_mut.ensures.len)
    ∙ numbers-ordered c.args.levels.now c.deref_mut.result.now c.reorder.new.items (c.deref_mut.ensures.value ∙ c.in_ok-numbers.ensures)
    (c.reorder.ensures.order 0)
