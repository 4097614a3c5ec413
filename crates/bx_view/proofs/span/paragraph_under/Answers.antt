use Rattle.bx_view.proofs.Numbers.{paragraph-under}
use Rattle.bx_view.proofs.span.paragraph_under.Goals as goal

pub returns-clause-is : goal.returns-clause-is
returns-clause-is g c =
    let s = c.args.text_ref.now in
    (paragraph-under (g.D.BidiData.data s.tables.now) s.text.now.edited.text s.index.now.paragraphs c.args.offset
    c.span_at.result.number c.span_at.result.start c.span_at.result.stop s.utf8 s.indexed
    c.span_at.ensures.number c.span_at.ensures.span).span

pub returns-clause-order : goal.returns-clause-order
returns-clause-order g c =
    let s = c.args.text_ref.now in
    (paragraph-under (g.D.BidiData.data s.tables.now) s.text.now.edited.text s.index.now.paragraphs c.args.offset
    c.span_at.result.number c.span_at.result.start c.span_at.result.stop s.utf8 s.indexed
    c.span_at.ensures.number c.span_at.ensures.span).before
