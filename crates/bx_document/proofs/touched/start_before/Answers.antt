use Rattle.std.proofs.Common.{ap, ◌∙◌}
use Rattle.bx_text.specs.index.Paragraphs.{paragraph_of}
use Rattle.bx_document.proofs.TouchedSpan.{start_range, start_of_span}
use Rattle.bx_document.proofs.touched.start_before.Goals as goal

pub returns-clause-start : goal.returns-clause-start
returns-clause-start g c =
    let s = c.args.text_ref.now in
    start_of_span (g.D.BidiData.data s.tables.now) s.text.now.edited.text s.index.now.paragraphs s.utf8
    s.indexed c.args.start c.span_at.result.number (c.span_at.result.start, c.span_at.result.stop)
    (c.span_at.ensures.number ∙ ap (paragraph_of s.index.now.paragraphs) c.saturating_sub.ensures) c.span_at.ensures.span

pub returns-clause-range : goal.returns-clause-range
returns-clause-range g c =
    let s = c.args.text_ref.now in
    start_range (g.D.BidiData.data s.tables.now) s.text.now.edited.text s.index.now.paragraphs s.utf8
    s.indexed c.args.start c.span_at.result.number (c.span_at.result.start, c.span_at.result.stop)
    (c.span_at.ensures.number ∙ ap (paragraph_of s.index.now.paragraphs) c.saturating_sub.ensures) c.span_at.ensures.span
    c.requires.bounds
