use Rattle.std.proofs.Common.{◌∙◌, ap, arith}
use Rattle.bx_rows.specs.RowPicture.{columns_used, unit_columns}
use Rattle.bx_rows.specs.RowLevels.{visual}
use Rattle.bx_paragraph.specs.RowLayouts.{body_row}
use Rattle.bx_paragraph.proofs.RowSlots.{room-even, room-odd, side-of, slots-even, slots-odd}
use Rattle.bx_paragraph.proofs.slots.row_slots.Goals as goal

pub push_units-requires-clause-room : goal.push_units-requires-clause-room
push_units-requires-clause-room g c =
    room-even c.args.row.now.lines.w c.args.row.now.units.items c.args.row.now.levels.items _ _ c.requires c.args.row.now.fits c.args.row.now.counted
    (c.deref-then-paragraph-eq0-2.ensures.value ∙ c.in_ok-columns.ensures.columns ∙ ap (unit_columns c.args.row.now.lines.w 0) c.deref.ensures.value)
    (c.deref-then-paragraph-eq0-3.ensures.value ∙ c.in_ok-order.ensures.order ∙ ap visual c.deref-2.ensures.value)

pub push_units-requires-2-clause-room : goal.push_units-requires-2-clause-room
push_units-requires-2-clause-room g c =
    room-odd c.args.row.now.lines.w c.args.row.now.units.items c.args.row.now.levels.items _ _ c.in_ok-columns.used c.requires c.args.row.now.fits c.args.row.now.counted
    (c.deref-4.ensures.value ∙ c.in_ok-columns.ensures.columns ∙ ap (unit_columns c.args.row.now.lines.w 0) c.deref.ensures.value)
    (c.deref-5.ensures.value ∙ c.in_ok-order.ensures.order ∙ ap visual c.deref-2.ensures.value)
    (c.in_ok-columns.ensures.used ∙ ap (columns_used c.args.row.now.lines.w) c.deref.ensures.value)

pub returns-then-paragraph-eq0 : goal.returns-then-paragraph-eq0
returns-then-paragraph-eq0 g c =
    slots-even c.args.row.now.lines.w (body_row c.args.row.now c.args.is_last) _ _ c.in_ok-columns.used c.min.result _ _ _ c.if-paragraph-eq0.true
    (c.deref-then-paragraph-eq0-2.ensures.value ∙ c.in_ok-columns.ensures.columns ∙ ap (unit_columns c.args.row.now.lines.w 0) c.deref.ensures.value)
    (c.deref-then-paragraph-eq0-3.ensures.value ∙ c.in_ok-order.ensures.order ∙ ap visual c.deref-2.ensures.value)
    (c.in_ok-columns.ensures.used ∙ ap (columns_used c.args.row.now.lines.w) c.deref.ensures.value) c.in_ok-slots.ensures.items
    (side-of _ _ _ _ _ _ _ c.in_ok-push_units.ensures c.deref-then-paragraph-eq0.ensures.value)
    c.in_ok-push_end.ensures c.min.ensures

pub returns : goal.returns
returns g c =
    slots-odd c.args.row.now.lines.w (body_row c.args.row.now c.args.is_last) _ _ c.in_ok-columns.used c.max.result _ _ _
    (omega (arith, c.if-paragraph-eq0.false))
    (c.deref-4.ensures.value ∙ c.in_ok-columns.ensures.columns ∙ ap (unit_columns c.args.row.now.lines.w 0) c.deref.ensures.value)
    (c.deref-5.ensures.value ∙ c.in_ok-order.ensures.order ∙ ap visual c.deref-2.ensures.value)
    (c.in_ok-columns.ensures.used ∙ ap (columns_used c.args.row.now.lines.w) c.deref.ensures.value) c.in_ok-slots.ensures.items c.in_ok-push_end-2.ensures
    (side-of _ _ _ _ _ _ _ c.in_ok-push_units-2.ensures c.deref-3.ensures.value)
    c.max.ensures
