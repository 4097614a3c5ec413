-- The lines of the first paragraphs were written, except the pending bytes.
use Rattle.std.proofs.Common.{ℕ, List}
use Rattle.bx_text.specs.index.Paragraphs.{paragraphs}
use Rattle.bx_print.proofs.PageParts.{lines_of}
use Rattle.bx_print.proofs.Parts.{IsSent}
use Rattle.bx_print.proofs.printing.print_paragraphs.Given as goal

abbrev pub invariant-loop-number : goal.invariant-loop-number
invariant-loop-number g l =
    let ucd = g.D.BidiData.data l.text_ref.tables.now in
    (written : List ℕ) × IsSent
    (lines_of ucd l.style.placeholders l.style.base l.style.columns)
    (paragraphs ucd l.text_ref.text.now.edited.text) (g.W.Write.contents l.fn.writer) (g.W.Write.contents l.writer) l.pending.items l.number written
