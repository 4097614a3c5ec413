use Rattle.bx_paragraph.proofs.Starts.{side-some}
use Rattle.bx_view.specs.Places.{IsTextPlace}
use Rattle.std.proofs.Common.{IsCharBoundary}
use Rattle.bx_view.specs.FoundRow.{rows_by}
use Rattle.bx_view.proofs.Boundaries.{bounds-kept}
use Rattle.bx_view.proofs.KeptMoves.{moved-keeps, row-end-keeps}
use Rattle.bx_view.proofs.KeptPlaces.{text-places-kept}
use Rattle.bx_view.proofs.moves.cursor.moved.Goals as goal

pub returns-clause-text_place : goal.returns-clause-text_place
returns-clause-text_place g c =
    let ucd = g.D.BidiData.data c.args.text_ref.now.tables.now in
    let text = c.args.text_ref.now.text.now.edited.text in
    let v = c.args.view.now in
    moved-keeps ucd text v.w (rows_by ucd v text) (IsTextPlace ucd text)
    (text-places-kept ucd v.base v.w (side-some v.w c.width-side.ensures.side) text c.args.text_ref.now.utf8)
    c.args.place c.in_ok-place.place c.args.m c.in_ok-place.ensures.place

pub returns-clause-row_place : goal.returns-clause-row_place
returns-clause-row_place g c =
    let ucd = g.D.BidiData.data c.args.text_ref.now.tables.now in
    let text = c.args.text_ref.now.text.now.edited.text in
    let v = c.args.view.now in
    row-end-keeps ucd text v.w (rows_by ucd v text) (IsTextPlace ucd text)
    (text-places-kept ucd v.base v.w (side-some v.w c.width-side.ensures.side) text c.args.text_ref.now.utf8)
    c.args.place c.in_ok-place.place c.args.m c.in_ok-place.ensures.place

pub returns-clause-boundary : goal.returns-clause-boundary
returns-clause-boundary g c =
    let ucd = g.D.BidiData.data c.args.text_ref.now.tables.now in
    let text = c.args.text_ref.now.text.now.edited.text in
    let v = c.args.view.now in
    moved-keeps ucd text v.w (rows_by ucd v text) (IsCharBoundary text)
    (bounds-kept ucd v.base v.w (side-some v.w c.width-side.ensures.side) text c.args.text_ref.now.utf8)
    c.args.place c.in_ok-place.place c.args.m c.in_ok-place.ensures.place

pub returns-clause-row_boundary : goal.returns-clause-row_boundary
returns-clause-row_boundary g c =
    let ucd = g.D.BidiData.data c.args.text_ref.now.tables.now in
    let text = c.args.text_ref.now.text.now.edited.text in
    let v = c.args.view.now in
    row-end-keeps ucd text v.w (rows_by ucd v text) (IsCharBoundary text)
    (bounds-kept ucd v.base v.w (side-some v.w c.width-side.ensures.side) text c.args.text_ref.now.utf8)
    c.args.place c.in_ok-place.place c.args.m c.in_ok-place.ensures.place
