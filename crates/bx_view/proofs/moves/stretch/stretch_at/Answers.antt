use Rattle.std.proofs.Common.{◌≡◌, ◌+◌, ◌≤◌, ℕ, subst, sym, arith}
use Rattle.bx_view.specs.Places.{IsTextPlace}
use Rattle.bx_view.specs.Words.{stretch_at}
use Rattle.bx_view.proofs.TextPlaces.{place-between}
use Rattle.bx_view.proofs.StretchPlaces.{stretch-is, stretch-order, stretch-stands}
use Rattle.bx_view.proofs.moves.stretch.stretch_at.Goals as goal
use Rattle.bx_view.proofs.moves.stretch.stretch_at.Goals.{After-stretch_in-start}

is-stretch : (g : _) (c : After-stretch_in-start g)
    → (c.in_ok-at.at.start + c.stretch_in-start.result.0, c.in_ok-at.at.start + c.stretch_in-start.result.1)
    ≡ stretch_at (g.D.BidiData.data c.args.text_ref.now.tables.now) c.args.text_ref.now.text.now.edited.text c.args.place
is-stretch g c =
    let s = c.args.text_ref.now in
    let at = c.in_ok-at.at in
    stretch-is (g.D.BidiData.data s.tables.now) s.text.now.edited.text s.utf8 c.args.place at.paragraph at.start c.in_ok-at.ensures.paragraph
    c.in_ok-at.ensures.row.start_is c.paragraph-paragraph.result.now.body c.paragraph-paragraph.ensures.body_is c.stretch_in-start.result
    c.stretch_in-start.ensures

stands : (g : _) (c : After-stretch_in-start g)
    → IsTextPlace (g.D.BidiData.data c.args.text_ref.now.tables.now) c.args.text_ref.now.text.now.edited.text (c.in_ok-at.at.start + c.stretch_in-start.result.0)
    × IsTextPlace (g.D.BidiData.data c.args.text_ref.now.tables.now) c.args.text_ref.now.text.now.edited.text (c.in_ok-at.at.start + c.stretch_in-start.result.1)
stands g c =
    let s = c.args.text_ref.now in
    let ucd = g.D.BidiData.data s.tables.now in
    let text = s.text.now.edited.text in
    subst (λ (w : ℕ × ℕ). IsTextPlace ucd text w.0 × IsTextPlace ucd text w.1) (sym (is-stretch g c)) (stretch-stands ucd text s.utf8 c.args.place)

pub overflow_add-result : goal.overflow_add-result
overflow_add-result g c =
    let s = c.args.text_ref.now in
    let bound = place-between (g.D.BidiData.data s.tables.now) s.text.now.edited.text _ s.utf8
    (stands g (goal.at.overflow_add-result g c).After-stretch_in-start).0 in
    omega (arith, bound.0, s.short)

pub overflow_add-result-2 : goal.overflow_add-result-2
overflow_add-result-2 g c =
    let s = c.args.text_ref.now in
    let bound = place-between (g.D.BidiData.data s.tables.now) s.text.now.edited.text _ s.utf8
    (stands g (goal.at.overflow_add-result-2 g c).After-stretch_in-start).1 in
    omega (arith, bound.0, s.short)

pub returns-clause-stretch : goal.returns-clause-stretch
returns-clause-stretch g c = is-stretch g (goal.at.returns-clause-stretch g c).After-stretch_in-start

pub returns-clause-order : goal.returns-clause-order
returns-clause-order g c =
    let s = c.args.text_ref.now in
    subst (λ (w : ℕ × ℕ). w.0 ≤ w.1) (sym (is-stretch g (goal.at.returns-clause-order g c).After-stretch_in-start))
    (stretch-order (g.D.BidiData.data s.tables.now) s.text.now.edited.text s.utf8 c.args.place)

pub returns-clause-start_place : goal.returns-clause-start_place
returns-clause-start_place g c = (stands g (goal.at.returns-clause-start_place g c).After-stretch_in-start).0

pub returns-clause-stop_place : goal.returns-clause-stop_place
returns-clause-stop_place g c = (stands g (goal.at.returns-clause-stop_place g c).After-stretch_in-start).1
