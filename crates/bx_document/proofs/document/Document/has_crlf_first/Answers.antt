use Rattle.std.proofs.Common.{◌≡◌, ◌==◌, ◌∙◌, Some, true, false, ap, get_or, slice_get, subst, arith}
use Rattle.bx_text.specs.index.Paragraphs.{spans}
use Rattle.bx_text.specs.index.Walk.{separators}
use Rattle.bx_document.specs.Line.{has_crlf_first}
use Rattle.bx_document.proofs.FirstSeparators.{of-piece, piece-there, some-lengths}
use Rattle.bx_document.proofs.SameState.{lent}
use Rattle.bx_document.proofs.document.Document.has_crlf_first.Goals as goal

pub walk_at-walk-requires-clause-inside : goal.walk_at-walk-requires-clause-inside
walk_at-walk-requires-clause-inside g c =
    let s = c.text_ref-text_ref.result in
    some-lengths (g.D.BidiData.data s.tables.now) s.text.now.edited.text s.index.now.paragraphs s.utf8 s.indexed

pub returns-in-Some : goal.returns-in-Some
returns-in-Some g c =
    let same = lent c.text_ref-text_ref.ensures.tables c.text_ref-text_ref.ensures.text c.self.view_is in
    let s = c.text_ref-text_ref.result in
    let span = subst (λ w. slice_get (spans w.paragraphs) w.number ≡ Some (c.span.result.start, c.span.result.stop)) c.walk_at-walk.ensures c.span.ensures.span in
    let size = subst (λ w. slice_get (separators w.paragraphs) w.number ≡ Some c.separator.result) c.walk_at-walk.ensures c.separator.ensures in
    ap (λ xs. get_or xs 0 0 == 13) c.as_bytes.ensures.value
    ∙ of-piece (g.D.BidiData.data s.tables.now) s.text.now.edited.text s.index.now.paragraphs s.utf8 s.indexed
    c.span.result.start c.span.result.stop c.separator.result span size (omega (arith, c.if-separator-ne2.false))
    c.in-Some.separator.now c.in-Some.ensures.bytes c.in-Some.ensures.not_empty
    ∙ ap (λ s. has_crlf_first (g.D.BidiData.data s.tables) s.document.content.text) same

pub returns-in-None : goal.returns-in-None
returns-in-None g c =
    let s = c.text_ref-text_ref.result in
    let span = subst (λ w. slice_get (spans w.paragraphs) w.number ≡ Some (c.span.result.start, c.span.result.stop)) c.walk_at-walk.ensures c.span.ensures.span in
    let size = subst (λ w. slice_get (separators w.paragraphs) w.number ≡ Some c.separator.result) c.walk_at-walk.ensures c.separator.ensures in
    let never : false ≡ true =
    c.in-None.ensures.there.1 (piece-there (g.D.BidiData.data s.tables.now) s.text.now.edited.text s.index.now.paragraphs s.utf8
    s.indexed c.span.result.start c.span.result.stop c.separator.result span size
    (omega (arith, c.if-separator-ne2.false))) in
    absurd (cc)
