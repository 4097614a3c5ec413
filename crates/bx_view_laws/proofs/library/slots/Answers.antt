use Rattle.std.proofs.Common.{◌<◌, ◌^◌, ◌+◌, ◌∙◌, ap, ap₂, map, subst, sym}
use Rattle.std.specs.Prelude.{All}
use Rattle.bx_view.specs.TextRows.{row_at, row_of, slots}
use Rattle.bx_view.proofs.Beyond.{kept}
use Rattle.bx_view.proofs.PlacedRows.{slots_placed}
use Rattle.bx_view_laws.proofs.library.slots.Goals as goal

pub in_text-requires : goal.in_text-requires
in_text-requires g c =
    subst (All (λ s. c.row-row.result.start + s.offset < 2 ^ 64)) (sym c.deref.ensures.value)
    (slots_placed c.row-row.result c.in_ok-slots.slots.items c.in_ok-slots.ensures.slots)

pub returns-clause-slots : goal.returns-clause-slots
returns-clause-slots g c =
    let ucd = g.D.BidiData.data c.args.text_ref.now.tables.now in
    let s = c.row-row.result in
    c.in_ok-in_text.ensures ∙ ap (λ ss. map (λ o. s.start + o) (map (λ s. s.offset) ss)) (c.deref.ensures.value ∙ c.in_ok-slots.ensures.slots)
    ∙ ap₂ slots c.row-row.ensures.columns (c.row-row.ensures.row _ c.in_ok-at.ensures.row)
    ∙ kept ucd c.args.view.now c.row_at.new.self c.args.text_ref.now.text.now.edited.text c.row_at.ensures.keeps (λ w rs. slots w (row_at rs (row_of rs c.args.place)))
