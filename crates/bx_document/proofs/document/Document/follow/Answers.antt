use Rattle.std.proofs.Common.{◌≡◌, subst}
use Rattle.bx_view.specs.FoundRow.{rows_by}
use Rattle.bx_view.specs.Top.{follow}
use Rattle.bx_document.specs.Document.{rows}
use Rattle.bx_document.proofs.ShownTop.{top-is}
use Rattle.bx_document.proofs.SameState.{lent}
use Rattle.bx_document.proofs.document.Document.follow.Goals as goal

pub returns-clause-top : goal.returns-clause-top
returns-clause-top g c =
    let same = lent c.text_ref-text_ref.ensures.tables c.text_ref-text_ref.ensures.text c.self.view_is in
    let i = c.self.inside in
    let s = c.text_ref-text_ref.result in
    let ucd = g.D.BidiData.data s.tables.now in
    let text = s.text.now.edited.text in
    let located = c.in_ok-located.located in
    let told = c.in_ok-located.ensures in
    subst (λ s. c.first_in-first.result ≡ follow (rows (g.D.BidiData.data s.tables) s.document) c.args.top c.args.place c.args.count) same
    (subst (λ n. c.first_in-first.result ≡ follow (rows_by ucd i.view text) c.args.top c.args.place n) c.from.ensures
    (top-is ucd i.view c.locate.new.self text c.text_ref-text_ref.result.utf8 c.locate.ensures.keeps located.top c.args.top c.args.place c.from.result
    c.first_in-first.result located.above told.top (c.first_in-first.ensures _ told.top) told.above))
