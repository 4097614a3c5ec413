use Rattle.bx_view.proofs.CachedRows.{stands}
use Rattle.bx_view.proofs.view.View.row_in.Goals as goal

pub returns-clause-row : goal.returns-clause-row
returns-clause-row g c =
    let ucd = g.D.BidiData.data c.args.text_ref.now.tables.now in
    stands ucd c.args.self.now c.args.text_ref.now.text.now.edited.text c.args.offset _ c.paragraph-paragraph.result.now c.args.text_ref.now.utf8
    c.requires.data c.requires.number c.requires.span.start c.requires.cached c.paragraph-paragraph.ensures
    (c.row_of.ensures.row ucd c.paragraph-paragraph.ensures.by)
