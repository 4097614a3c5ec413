use Rattle.std.proofs.Common.{subst, sym}
use Rattle.bx_view.specs.Standing.{IsSpan}
use Rattle.bx_view.proofs.Numbers.{paragraph-span}
use Rattle.bx_view.proofs.span.span_of.Goals as goal

pub returns-clause-is : goal.returns-clause-is
returns-clause-is g c =
    let s = c.args.text_ref.now in
    let d = g.D.BidiData.data s.tables.now in
    subst (λ n. IsSpan d s.text.now.edited.text n c.span.result.start c.span.result.stop) (sym c.span.ensures.number)
    (paragraph-span d s.text.now.edited.text s.index.now.paragraphs c.args.number c.span.result.start c.span.result.stop s.utf8 c.requires
    s.indexed c.span.ensures.span)
