use Rattle.std.proofs.Common.{◌+◌, ◌≤◌, ◌∙◌, ap, length, subst}
use Rattle.std.specs.Prelude.{IfSome}
use Rattle.bx_text.specs.Edits.{splice}
use Rattle.bx_view.specs.Moves.{place_from}
use Rattle.bx_view.specs.Places.{IsTextPlace}
use Rattle.bx_view.proofs.CachedRows.{rows-kept}
use Rattle.bx_document.proofs.ReplacedPlace.{place_order}
use Rattle.bx_document.proofs.touched.place_after.Goals as goal

pub returns-in-Some-clause-text_place : goal.returns-in-Some-clause-text_place
returns-in-Some-clause-text_place g c =
    let s = c.args.text_ref.now in
    let range = c.args.range in
    subst (λ found. IfSome found (IsTextPlace (g.D.BidiData.data s.tables.now) (splice s.text.now.edited.text range.start range.end c.args.new.now)))
    c.in-Some.is c.in_ok-place.ensures.text_place

pub returns-in-Some-clause-order : goal.returns-in-Some-clause-order
returns-in-Some-clause-order g c =
    subst (λ found. IfSome found (λ o. c.args.range.start + length c.args.new.now ≤ o)) c.in-Some.is c.in_ok-place.ensures.order

pub returns-clause-place : goal.returns-clause-place
returns-clause-place g c =
    let s = c.args.text_ref.now in
    let ucd = g.D.BidiData.data s.tables.now in
    let range = c.args.range in
    let new = splice s.text.now.edited.text range.start range.end c.args.new.now in
    c.in_ok-place-2.ensures.place
    ∙ ap (λ rows. place_from rows (range.start + length c.args.new.now)) (rows-kept ucd c.args.view.now c.edit.new.self new c.edit.ensures.keeps)

pub returns-clause-order : goal.returns-clause-order
returns-clause-order g c =
    let s = c.args.text_ref.now in
    let range = c.args.range in
    let v = c.edit.new.self in
    place_order (g.D.BidiData.data s.tables.now) v.base v.w s.text.now.edited.text range.start range.end c.args.new.now c.in_ok-place-2.place
    c.in_ok-place-2.ensures.side s.utf8 c.requires.range c.utf8.new c.in_ok-place-2.ensures.place
