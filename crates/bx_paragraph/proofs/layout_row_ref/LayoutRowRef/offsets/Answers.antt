use Rattle.std.proofs.Common.{◌++◌, ◌∷◌, ◌∙◌, [], ap, false, length, map, true}
use Rattle.bx_rows.specs.declared.cells.unit.Unit.{Unit}
use Rattle.bx_paragraph.proofs.LayoutRowRefs.{lent_offsets}
use Rattle.bx_paragraph.proofs.layout_row_ref.LayoutRowRef.offsets.Goals as goal

pub returns : goal.returns
returns g c =
    let s = c.args.self.now in
    let l = s.paragraph.now in
    let us = c.in_ok-units.units.items in
    lent_offsets l s.tables.now c.lines.result s.number c.lines.ensures s.by s.within us c.is_last.result
    c.in_ok-place_offsets.field-0.items c.in_ok-units.ensures.units c.is_last.ensures
    (c.in_ok-place_offsets.ensures
    ∙ ap (λ vs. map (λ (u : Unit). u.start) vs ++ elim (c.is_last.result) [ true ↦ length c.body-len.result.now ∷ [] | false ↦ [] ]) c.deref.ensures.value
    ∙ ap (λ b. map (λ (u : Unit). u.start) us ++ elim (c.is_last.result) [ true ↦ length b ∷ [] | false ↦ [] ]) c.body-len.ensures)
