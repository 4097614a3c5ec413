use Rattle.std.proofs.Common.{length, ap, arith}
use Rattle.bx_text.proofs.index_lemmas.Turns.{few_lengths}
use Rattle.bx_document.proofs.TouchedSpan.{there}
use Rattle.bx_document.proofs.document.Document.paragraph_at.Goals as goal

pub overflow_add-result : goal.overflow_add-result
overflow_add-result g c =
    let s = c.text_ref-text_ref.result in
    let ucd = g.D.BidiData.data s.tables.now in
    let text = s.text.now.edited.text in
    omega (
      arith,
      there ucd text s.index.now.paragraphs s.utf8 s.indexed c.args.offset c.span_at.result.number c.span_at.ensures.number,
      few_lengths ucd text s.utf8,
      ap length s.indexed,
      s.short,
    )
