use Rattle.std.proofs.Common.{◌+◌, ◌-◌, length, min, IsCharBoundary, unwrap_or, ap, ap₂, subst, sym, ◌∙◌}
use Rattle.bx_paragraph.proofs.Starts.{side-some}
use Rattle.bx_view.specs.FoundRow.{StandsOn, rows_by}
use Rattle.bx_view.specs.Moves.{entry_in}
use Rattle.bx_view.specs.Places.{IsTextPlace}
use Rattle.bx_view.specs.Top.{pointed_row}
use Rattle.bx_view.specs.TextRows.{row_at, row_of}
use Rattle.bx_view.proofs.Beyond.{keeps-then}
use Rattle.bx_view.proofs.Boundaries.{bounds-kept}
use Rattle.bx_view.proofs.KeptPlaces.{text-places-kept}
use Rattle.bx_view.proofs.KeptRows.{far-row}
use Rattle.bx_view.proofs.moves.pointing.pointed_at.Goals as goal

pub returns-clause-place : goal.returns-clause-place
returns-clause-place g c =
    let ucd = g.D.BidiData.data c.args.text_ref.now.tables.now in
    let text = c.args.text_ref.now.text.now.edited.text in
    let old = c.args.view.now in
    let v = c.row_at.new.self in
    let keeps = c.row_at.ensures.keeps in
    let on = c.in_ok-first.ensures.row in
    let later = c.rows_down.new.view in
    let further = keeps-then ucd old v later keeps c.rows_down.ensures.keeps in
    let rows = rows_by ucd v text in
    let below = c.from-below.ensures ∙ c.saturating_sub.ensures in
    let there : StandsOn ucd later text c.in_ok-there.there (pointed_row rows c.args.top c.args.row) =
    subst (λ n. StandsOn ucd later text c.in_ok-there.there (min (row_of rows c.args.top + n) (length rows - 1))) below (c.in_ok-there.ensures.row _ on) in
    let column = c.args.column in
    c.unwrap_or.ensures ∙ ap (λ o. unwrap_or o 0) (
    c.in_ok-entry.ensures ∙ ap₂ (λ w r. entry_in w r column) c.row.ensures.columns (c.row.ensures.row _ there)
    ∙ ap (λ w. entry_in w (row_at (rows_by ucd later text) (pointed_row rows c.args.top c.args.row)) column) further.w
    ∙ far-row ucd old v text c.args.top c.in_ok-first.first c.args.text_ref.now.utf8 keeps on later further (λ r. entry_in old.w r column)
    (λ rs. pointed_row rs c.args.top c.args.row)
    )

pub returns-clause-text_place : goal.returns-clause-text_place
returns-clause-text_place g c =
    let ucd = g.D.BidiData.data c.args.text_ref.now.tables.now in
    let text = c.args.text_ref.now.text.now.edited.text in
    let v = c.args.view.now in
    let kept = text-places-kept ucd v.base v.w (side-some v.w c.width-side.ensures.side) text c.args.text_ref.now.utf8 in
    subst (IsTextPlace ucd text) (sym (returns-clause-place g c)) (kept.pointed c.args.top c.args.row c.args.column)

pub returns-clause-boundary : goal.returns-clause-boundary
returns-clause-boundary g c =
    let ucd = g.D.BidiData.data c.args.text_ref.now.tables.now in
    let text = c.args.text_ref.now.text.now.edited.text in
    let v = c.args.view.now in
    let kept = bounds-kept ucd v.base v.w (side-some v.w c.width-side.ensures.side) text c.args.text_ref.now.utf8 in
    subst (IsCharBoundary text) (sym (returns-clause-place g c)) (kept.pointed c.args.top c.args.row c.args.column)

pub row-requires : goal.row-requires
row-requires g c = record { row = (_, c.in_ok-there.ensures.row _ c.in_ok-first.ensures.row) }
