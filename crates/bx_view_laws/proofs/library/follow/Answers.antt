use Rattle.std.proofs.Common.{◌∙◌, ap, subst, sym}
use Rattle.bx_common.specs.Characters.{is_side}
use Rattle.bx_view.specs.TextRows.{first, row_at, row_of}
use Rattle.bx_view.specs.FoundRow.{rows_by}
use Rattle.bx_view.specs.Places.{IsTextPlace}
use Rattle.bx_view.specs.Top.{nearest_top}
use Rattle.bx_view.proofs.KeptPlaces.{text-places-kept}
use Rattle.bx_view.proofs.TextPlaces.{place-between}
use Rattle.bx_paragraph.proofs.Starts.{side-some}
use Rattle.bx_view.proofs.CachedRows.{rows-kept}
use Rattle.bx_view_laws.proofs.library.follow.Goals as goal

pub returns-clause-top : goal.returns-clause-top
returns-clause-top g c =
    let ucd = g.D.BidiData.data c.args.text_ref.now.tables.now in
    let text = c.args.text_ref.now.text.now.edited.text in
    let old = c.args.view.now in
    let all = rows_by ucd old text in
    c.first_in.ensures _ c.in_ok-located.ensures.top
    ∙ ap (λ rs. first (row_at rs (nearest_top (row_of all c.args.top) (row_of all c.args.place) c.args.t)))
    (rows-kept ucd old c.locate.new.self text c.locate.ensures.keeps)

pub returns-clause-text_place : goal.returns-clause-text_place
returns-clause-text_place g c =
    let ucd = g.D.BidiData.data c.args.text_ref.now.tables.now in
    let text = c.args.text_ref.now.text.now.edited.text in
    let old = c.args.view.now in
    let some = side-some old.w (sym (ap is_side c.locate.ensures.keeps.w) ∙ c.in_ok-located.ensures.top.side) in
    let led = (text-places-kept ucd old.base old.w some text c.args.text_ref.now.utf8).top c.args.top c.args.place c.args.t c.requires.some in
    subst (IsTextPlace ucd text) (sym (returns-clause-top g c)) led

pub returns-clause-boundary : goal.returns-clause-boundary
returns-clause-boundary g c =
    place-between (g.D.BidiData.data c.args.text_ref.now.tables.now) c.args.text_ref.now.text.now.edited.text _ c.args.text_ref.now.utf8
    (returns-clause-text_place g c)
