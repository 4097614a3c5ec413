use Rattle.std.proofs.Common.{◌∙◌, nat_eq, ap, length}
use Rattle.bx_text.specs.index.Paragraphs.{paragraph_of}
use Rattle.bx_view.specs.Numbers.{body_at}
use Rattle.bx_view.proofs.Numbers.{falls-at}
use Rattle.bx_document.specs.Line.{is_line_empty}
use Rattle.bx_document.proofs.InsertedBefore.{empty-part}
use Rattle.bx_document.proofs.SameState.{lent}
use Rattle.bx_document.proofs.document.Document.is_line_empty.Goals as goal

pub current_span-span-requires-clause-number : goal.current_span-span-requires-clause-number
current_span-span-requires-clause-number g c =
    let s = c.text_ref-text_ref.result in
    let ucd = g.D.BidiData.data s.tables.now in
    let text = s.text.now.edited.text in
    let here = ap (λ (w : _). w.number) c.walk_at_offset-walk.ensures ∙ ap (λ ls. paragraph_of ls c.args.place) s.indexed in
    (falls-at ucd text c.args.place _ s.utf8 here).within

pub returns : goal.returns
returns g c =
    let same = lent c.text_ref-text_ref.ensures.tables c.text_ref-text_ref.ensures.text c.self.view_is in
    let s = c.text_ref-text_ref.result in
    let ucd = g.D.BidiData.data s.tables.now in
    let text = s.text.now.edited.text in
    let span = c.current_span-span.result in
    let is = c.current_span-span.ensures.is in
    let here = c.current_span-span.ensures.number ∙ ap (λ (w : _). w.number) c.walk_at_offset-walk.ensures ∙ ap (λ ls. paragraph_of ls c.args.place) s.indexed in
    empty-part text span.start span.stop is.order is.within
    ∙ ap (λ bs. nat_eq (length bs) 0) (is.body ∙ ap (body_at ucd text) here)
    ∙ ap (λ s. is_line_empty (g.D.BidiData.data s.tables) s.document.content.text c.args.place) same
