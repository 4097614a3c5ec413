use Rattle.std.proofs.Common.{◌∙◌, ap, ap₂}
use Rattle.bx_paragraph.specs.RowLayouts.{body_row}
use Rattle.bx_paragraph.specs.Slots.{row_slots}
use Rattle.bx_paragraph.proofs.OnceEach.{once-kept}
use Rattle.bx_paragraph.proofs.layout_row_ref.LayoutRowRef.laid_slots.Goals as goal

pub returns-clause-slots : goal.returns-clause-slots
returns-clause-slots g c =
    c.in_ok-slots.ensures ∙ ap₂ row_slots c.in_ok-row.ensures.w (ap (body_row c.in_ok-row.row) c.is_last.ensures ∙ c.in_ok-row.ensures.row)

pub returns-clause-once : goal.returns-clause-once
unfolding returns-clause-slots
returns-clause-once g c =
    once-kept c.args.self.now.paragraph.now.w _ _ c.in_ok-slots.slots.items (returns-clause-slots g c) c.in_ok-row.row.counted c.in_ok-row.ensures.row
