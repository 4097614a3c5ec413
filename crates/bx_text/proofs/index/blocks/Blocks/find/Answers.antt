use Rattle.std.proofs.Common.{◌≡◌, ◌∙◌, ◌+◌, length, take, ap, arith}
use Rattle.bx_text.specs.index.Paragraphs.{total}
use Rattle.bx_text.specs.index.Flat.{flat, separator_of, BlocksState}
use Rattle.bx_text.proofs.index_lemmas.Flats.{position_at, IsSpanAround-same, total_flat_more, total_flat_front}
use Rattle.bx_text.proofs.index_lemmas.Totals.{total_front}
use Rattle.bx_text.proofs.index.blocks.Blocks.find.Goals as goal

pub overflow_add-result-then-offset-end-2 : goal.overflow_add-result-then-offset-end-2
overflow_add-result-then-offset-end-2 c =
    let more = total_flat_more c.deref-block-items.result.now c.loop-block.block-index c.block-item.result c.loop-block-test.true in
    let whole = total_flat_front (c.loop-block.block-index + 1) c.deref-block-items.result.now in
    let in_block = total_front (c.position_within-within.result.0 + 1) c.lengths.result.now in
    omega (
      arith,
      more,
      whole,
      in_block,
      ap total c.block-item.is,
      ap total c.lengths.ensures.paragraphs,
      c.position_within-within.ensures.end,
      c.self.invariant.short,
      ap (λ bs. total (flat bs)) c.deref-block-items.ensures.value,
      c.loop-block.invariant.start,
    )

pub returns-then-offset-end : goal.returns-then-offset-end
returns-then-offset-end c =
    let e : c.lengths.result.now ≡ c.block-item.result = c.lengths.ensures.paragraphs in
    let p = position_at c.deref-block-items.result.now c.loop-block.block-index c.block-item.result c.loop-block-test.true c.block-item.is
    c.loop-block.number c.loop-block.start c.args.offset c.position_within-within.result.0 c.position_within-within.result.1 c.position_within-within.result.2
    c.position_within-within.result.3
    c.loop-block.invariant.number c.loop-block.invariant.start c.loop-block.invariant.start_before
    (omega (arith, c.position_within-within.ensures.number, ap length e))
    (c.position_within-within.ensures.start ∙ ap (λ ls. total (take c.position_within-within.result.0 ls)) e)
    c.position_within-within.ensures.start_before
    (c.position_within-within.ensures.end ∙ ap (λ ls. total (take (c.position_within-within.result.0 + 1) ls)) e)
    c.position_within-within.ensures.past
    (c.position_within-within.ensures.separator ∙ ap (λ ls. separator_of ls c.position_within-within.result.0) e) in
    IsSpanAround-same _ _ _ _ (c.deref-block-items.ensures.value ∙ ap (λ (s : BlocksState). s.blocks) c.self.view_is) p
