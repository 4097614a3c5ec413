use Rattle.std.proofs.Common.{◌∙◌, ap, find, nat_le, reverse, sym}
use Rattle.bx_common.specs.Characters.{is_side}
use Rattle.bx_view.specs.FoundRow.{rows_by}
use Rattle.bx_view.specs.TextRows.{places_of, row_of}
use Rattle.bx_view.proofs.KeptPlaces.{place-at-kept}
use Rattle.bx_view.proofs.TextPlaces.{place-between}
use Rattle.bx_view.proofs.StepPlaces.{greatest-here}
use Rattle.bx_view.proofs.view.View.place_at.Goals as goal

pub returns-clause-place : goal.returns-clause-place
returns-clause-place g c =
    let ucd = g.D.BidiData.data c.args.text_ref.now.tables.now in
    let text = c.args.text_ref.now.text.now.edited.text in
    let v = c.row_at.new.self in
    let on = c.in_ok-at.ensures.row in
    c.unwrap_or.ensures
    ∙ greatest-here ucd c.args.self.now v text c.args.offset c.in_ok-at.at c.args.text_ref.now.utf8 c.row_at.ensures.keeps on c.in_ok-place.place
    (c.in_ok-place.ensures ∙ ap (λ r. find (λ p. nat_le p c.args.offset) (reverse (places_of r))) (c.row.ensures.row (row_of (rows_by ucd v text) c.args.offset) on))

pub returns-clause-text_place : goal.returns-clause-text_place
returns-clause-text_place g c =
    let side = sym (ap is_side c.row_at.ensures.keeps.w) ∙ c.in_ok-at.ensures.row.side in
    place-at-kept (g.D.BidiData.data c.args.text_ref.now.tables.now) c.args.self.now c.args.text_ref.now.text.now.edited.text side
    c.args.text_ref.now.utf8 c.args.offset _ (returns-clause-place g c)

pub returns-clause-boundary : goal.returns-clause-boundary
returns-clause-boundary g c =
    place-between (g.D.BidiData.data c.args.text_ref.now.tables.now) c.args.text_ref.now.text.now.edited.text _ c.args.text_ref.now.utf8
    (returns-clause-text_place g c)

pub returns-clause-side : goal.returns-clause-side
returns-clause-side g c = sym (ap is_side c.row_at.ensures.keeps.w) ∙ c.in_ok-at.ensures.row.side
