use Rattle.std.proofs.Common.{◌≡◌, ◌*◌, ◌++◌, drop, subst}
use Rattle.bx_view.specs.Position.{IsPosition}
use Rattle.bx_view.specs.FoundRow.{rows_by}
use Rattle.bx_view.specs.Top.{follow}
use Rattle.bx_document.specs.Document.{rows}
use Rattle.bx_document.specs.Drawing.{IsAmong}
use Rattle.bx_document.specs.Shown.{rows_above, shown_columns}
use Rattle.bx_document.proofs.ShownTop.{above-is, among, drawn-told, top-is}
use Rattle.bx_document.proofs.SameState.{lent}
use Rattle.bx_document.proofs.document.Document.show.Goals as goal

pub returns-clause-top : goal.returns-clause-top
returns-clause-top g c =
    let same = lent c.text_ref-text_ref.ensures.tables c.text_ref-text_ref.ensures.text c.self.view_is in
    let i = c.self.inside in
    let s = c.text_ref-text_ref.result in
    let ucd = g.D.BidiData.data s.tables.now in
    let text = s.text.now.edited.text in
    let located = c.in_ok-located.located in
    let told = c.in_ok-located.ensures in
    subst (λ s. c.first_in-first.result ≡ follow (rows (g.D.BidiData.data s.tables) s.document) c.args.top c.args.place c.args.count) same
    (subst (λ n. c.first_in-first.result ≡ follow (rows_by ucd i.view text) c.args.top c.args.place n) c.from.ensures
    (top-is ucd i.view c.locate.new.self text c.text_ref-text_ref.result.utf8 c.locate.ensures.keeps located.top c.args.top c.args.place c.from.result
    c.first_in-first.result located.above told.top (c.first_in-first.ensures _ told.top) told.above))

pub returns-clause-among : goal.returns-clause-among
returns-clause-among g c =
    let same = lent c.text_ref-text_ref.ensures.tables c.text_ref-text_ref.ensures.text c.self.view_is in
    let i = c.self.inside in
    let s = c.text_ref-text_ref.result in
    let ucd = g.D.BidiData.data s.tables.now in
    let text = s.text.now.edited.text in
    let located = c.in_ok-located.located in
    let told = c.in_ok-located.ensures in
    subst (λ s. IsAmong (rows (g.D.BidiData.data s.tables) s.document) c.first_in-first.result c.args.place c.args.count) same
    (subst (IsAmong _ c.first_in-first.result c.args.place) c.from.ensures
    (among ucd i.view c.locate.new.self text c.text_ref-text_ref.result.utf8 c.locate.ensures.keeps located.top c.args.top c.args.place c.from.result
    c.first_in-first.result located.above told.top (c.first_in-first.ensures _ told.top) told.above told.few))

pub returns-clause-drawn : goal.returns-clause-drawn
returns-clause-drawn g c =
    let same = lent c.text_ref-text_ref.ensures.tables c.text_ref-text_ref.ensures.text c.self.view_is in
    let i = c.self.inside in
    let s = c.text_ref-text_ref.result in
    let ucd = g.D.BidiData.data s.tables.now in
    let text = s.text.now.edited.text in
    let located = c.in_ok-located.located in
    let told = c.in_ok-located.ensures in
    let was = c.args.grid.now in
    let first = c.first_in-first.result in
    subst (λ s. c.draw_rows.new.grid ≡ record was {
      columns = shown_columns (g.D.BidiData.data s.tables) s.document first (c.args.region.start, c.args.region.stop) c.args.count ++ drop (c.args.count * was.width) was.columns;
    }) same
    (drawn-told ucd i.view c.locate.new.self text c.text_ref-text_ref.result.utf8 c.locate.ensures.keeps located.top c.args.top c.args.place c.from.result
    first located.above told.top (c.first_in-first.ensures _ told.top) told.above was c.draw_rows.new.grid (c.args.region.start, c.args.region.stop) c.args.count
    (c.in_ok-draw_rows.ensures.drawn _ told.top))

pub returns-clause-row : goal.returns-clause-row
returns-clause-row g c =
    let same = lent c.text_ref-text_ref.ensures.tables c.text_ref-text_ref.ensures.text c.self.view_is in
    let i = c.self.inside in
    let s = c.text_ref-text_ref.result in
    let ucd = g.D.BidiData.data s.tables.now in
    let text = s.text.now.edited.text in
    let located = c.in_ok-located.located in
    let told = c.in_ok-located.ensures in
    subst (λ s. located.above ≡ rows_above (g.D.BidiData.data s.tables) s.document c.first_in-first.result c.args.place) same
    (above-is ucd i.view c.locate.new.self text c.text_ref-text_ref.result.utf8 c.locate.ensures.keeps located.top c.args.top c.args.place c.from.result
    c.first_in-first.result located.above told.top (c.first_in-first.ensures _ told.top) told.above)

pub returns-clause-position : goal.returns-clause-position
returns-clause-position g c =
    let same = lent c.text_ref-text_ref.ensures.tables c.text_ref-text_ref.ensures.text c.self.view_is in
    subst (λ s. IsPosition (g.D.BidiData.data s.tables) s.document.w s.document.content.text (rows (g.D.BidiData.data s.tables) s.document) c.args.place
    c.in_ok-located.located.position) same c.in_ok-located.ensures.position
