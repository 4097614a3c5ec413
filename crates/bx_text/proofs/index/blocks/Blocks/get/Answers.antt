use Rattle.std.proofs.Common.{◌∙◌, ◌+◌, ap, arith}
use Rattle.bx_text.specs.index.Paragraphs.{total}
use Rattle.bx_text.specs.index.Flat.{flat, BlocksState}
use Rattle.bx_text.proofs.index_lemmas.Flats.{entry_at, total_flat_more, total_flat_front}
use Rattle.bx_text.proofs.index_lemmas.Totals.{total_front}
use Rattle.bx_text.proofs.index.blocks.Blocks.get.Goals as goal

pub total-requires : goal.total-requires
total-requires c =
    let more = total_flat_more c.deref-block-items.result.now c.loop-block.block-index c.block-item.result c.loop-block-test.true in
    let whole = total_flat_front (c.loop-block.block-index + 1) c.deref-block-items.result.now in
    let in_block = total_front c.loop-block.left c.lengths-lengths.result.now in
    omega (
      arith,
      more,
      whole,
      in_block,
      ap total c.block-item.is,
      ap total c.lengths-lengths.ensures.paragraphs,
      c.self.invariant.short,
      ap (λ bs. total (flat bs)) c.deref-block-items.ensures.value,
    )

pub overflow_add-result : goal.overflow_add-result
overflow_add-result c =
    let more = total_flat_more c.deref-block-items.result.now c.loop-block.block-index c.block-item.result c.loop-block-test.true in
    let whole = total_flat_front (c.loop-block.block-index + 1) c.deref-block-items.result.now in
    let in_block = total_front c.loop-block.left c.lengths-lengths.result.now in
    omega (
      arith,
      more,
      whole,
      in_block,
      ap total c.block-item.is,
      ap total c.lengths-lengths.ensures.paragraphs,
      c.self.invariant.short,
      ap (λ bs. total (flat bs)) c.deref-block-items.ensures.value,
      c.total.ensures,
      c.loop-block.invariant.start,
    )

pub returns-then-left-lengths : goal.returns-then-left-lengths
returns-then-left-lengths c =
    entry_at c.deref-block-items.result.now c.loop-block.block-index c.block-item.result c.loop-block-test.true c.block-item.is
    c.args.self.now.blocks c.lengths-lengths.result.now (c.deref-block-items.ensures.value ∙ ap (λ (s : BlocksState). s.blocks) c.self.view_is)
    c.lengths-lengths.ensures.paragraphs
    c.args.number c.loop-block.left c.loop-block.start c.total.result (record { body = 0; separator = 0 })
    c.loop-block.invariant.number c.loop-block.invariant.start c.total.ensures c.if-left-lengths.true
