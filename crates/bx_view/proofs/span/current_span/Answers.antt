use Rattle.std.proofs.Common.{sym, subst}
use Rattle.bx_view.specs.Standing.{IsSpan}
use Rattle.bx_view.proofs.Numbers.{paragraph-span}
use Rattle.bx_view.proofs.span.current_span.Goals as goal

pub returns-clause-is : goal.returns-clause-is
returns-clause-is g c =
    let s = c.args.text_ref.now in
    let ucd = g.D.BidiData.data s.tables.now in
    let text = s.text.now.edited.text in
    subst (λ n. IsSpan ucd text n c.span.result.start c.span.result.stop) (sym c.span.ensures.number)
    (paragraph-span ucd text c.args.walk.now.paragraphs c.args.walk.now.number c.span.result.start c.span.result.stop s.utf8 c.requires.number
    c.requires.walk c.span.ensures.span)
