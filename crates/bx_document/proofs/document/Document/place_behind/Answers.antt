use Rattle.std.proofs.Common.{◌≡◌, ◌+◌, ◌-◌, length, IsCharBoundary, arith, subst, sym}
use Rattle.bx_text.specs.Edits.{splice}
use Rattle.bx_text.specs.Changes.{IsRange}
use Rattle.bx_view.specs.Moves.{place_at}
use Rattle.bx_view.specs.Places.{IsTextPlace}
use Rattle.bx_document.specs.Document.{rows_of}
use Rattle.bx_document.proofs.PlaceBehind.{last_moved}
use Rattle.bx_document.proofs.SameState.{lent}
use Rattle.bx_document.proofs.document.Document.place_behind.Goals as goal

pub overflow_sub-result : goal.overflow_sub-result
overflow_sub-result g c =
    let same = lent c.text_ref-text_ref.ensures.tables c.text_ref-text_ref.ensures.text c.self.view_is in
    let i = c.self.inside in
    let s = c.text_ref-text_ref.result in
    let range = subst (λ s. IsRange s.document.content.text c.args.start c.args.stop) (sym same) c.requires.range in
    let bounds = subst (λ s. IsCharBoundary s.document.content.text c.args.offset) (sym same) c.requires.bounds in
    (last_moved (g.D.BidiData.data s.tables.now) i.view s.text.now.edited.text c.args.start c.args.stop c.args.new.now
    c.in_ok-place.ensures.side c.text_ref-text_ref.result.utf8 range c.utf8.new c.args.offset c.stop_after.result c.in_ok-place.place
    c.stop_after.ensures.stop c.stop_after.ensures.range.in_order (omega (arith, c.if-stop_after-offset.true)) bounds
    c.in_ok-place.ensures.place).behind

pub returns-then-stop_after-offset-clause-place : goal.returns-then-stop_after-offset-clause-place
returns-then-stop_after-offset-clause-place g c =
    let same = lent c.text_ref-text_ref.ensures.tables c.text_ref-text_ref.ensures.text c.self.view_is in
    let i = c.self.inside in
    let s = c.text_ref-text_ref.result in
    let range = subst (λ s. IsRange s.document.content.text c.args.start c.args.stop) (sym same) c.requires.range in
    let bounds = subst (λ s. IsCharBoundary s.document.content.text c.args.offset) (sym same) c.requires.bounds in
    let moved = last_moved (g.D.BidiData.data s.tables.now) i.view s.text.now.edited.text c.args.start c.args.stop c.args.new.now
    c.in_ok-place.ensures.side c.text_ref-text_ref.result.utf8 range c.utf8.new c.args.offset c.stop_after.result c.in_ok-place.place
    c.stop_after.ensures.stop c.stop_after.ensures.range.in_order (omega (arith, c.if-stop_after-offset.true)) bounds
    c.in_ok-place.ensures.place in
    let start = c.args.start in
    let stop = c.args.stop in
    let new = c.args.new.now in
    subst (λ s. c.in_ok-place.place - stop + start + length new ≡ place_at
    (rows_of (g.D.BidiData.data s.tables) s.document (splice s.document.content.text start stop new))
    (c.args.offset - stop + start + length new)) same moved.is.place

pub returns-then-stop_after-offset-clause-text_place : goal.returns-then-stop_after-offset-clause-text_place
returns-then-stop_after-offset-clause-text_place g c =
    let same = lent c.text_ref-text_ref.ensures.tables c.text_ref-text_ref.ensures.text c.self.view_is in
    let i = c.self.inside in
    let s = c.text_ref-text_ref.result in
    let range = subst (λ s. IsRange s.document.content.text c.args.start c.args.stop) (sym same) c.requires.range in
    let bounds = subst (λ s. IsCharBoundary s.document.content.text c.args.offset) (sym same) c.requires.bounds in
    let moved = last_moved (g.D.BidiData.data s.tables.now) i.view s.text.now.edited.text c.args.start c.args.stop c.args.new.now
    c.in_ok-place.ensures.side c.text_ref-text_ref.result.utf8 range c.utf8.new c.args.offset c.stop_after.result c.in_ok-place.place
    c.stop_after.ensures.stop c.stop_after.ensures.range.in_order (omega (arith, c.if-stop_after-offset.true)) bounds
    c.in_ok-place.ensures.place in
    subst (λ s. IsTextPlace (g.D.BidiData.data s.tables) (splice s.document.content.text c.args.start c.args.stop c.args.new.now)
    (c.in_ok-place.place - c.args.stop + c.args.start + length c.args.new.now)) same moved.is.text_place
