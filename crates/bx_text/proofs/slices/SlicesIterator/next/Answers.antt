use Rattle.std.proofs.Common.{sym, ◌∙◌}
use Rattle.bx_text.proofs.Lent.{range_split}
use Rattle.bx_text.proofs.slices.SlicesIterator.next.Goals as goal

pub returns-clause-steps : goal.returns-clause-steps
returns-clause-steps c = (
  sym c.self.view_is
      ∙ range_split c.self.inside.text.now.edited.text c.part_at-slice.result.now c.self.inside.at c.self.inside.stop c.part_at-slice.ensures.bytes
      c.part_at-slice.ensures.range.in_order,
  c.part_at-slice.ensures.not_empty,
)
