use Rattle.std.proofs.Common.{◌≡◌, ◌+◌, ◌≤◌, ap, length, subst, sym, arith}
use Rattle.bx_view.specs.Places.{IsTextPlace}
use Rattle.bx_view.specs.Words.{unit_at}
use Rattle.bx_view.proofs.StretchPlaces.{own-short, unit-is, unit-order, unit-past, unit-stands}
use Rattle.bx_view.proofs.moves.stretch.unit_at.Goals as goal
use Rattle.bx_view.proofs.moves.stretch.unit_at.Goals.{After-unit_around-stop}

pub returns-then-offset-body-clause-unit : goal.returns-then-offset-body-clause-unit
returns-then-offset-body-clause-unit g c =
    let s = c.args.text_ref.now in
    let at = c.in_ok-at.at in
    unit-past (g.D.BidiData.data s.tables.now) s.text.now.edited.text s.utf8 c.args.place at.paragraph at.start c.in_ok-at.ensures.paragraph
    c.in_ok-at.ensures.row.start_is c.paragraph-paragraph.result.now.body c.paragraph-paragraph.ensures.body_is c.in_ok-at.ensures.order
    (omega (arith, c.if-offset-body.true, ap length c.body.ensures))

pub overflow_add-result : goal.overflow_add-result
overflow_add-result g c =
    let s = c.args.text_ref.now in
    let at = c.in_ok-at.at in
    let short = own-short (g.D.BidiData.data s.tables.now) s.text.now.edited.text s.utf8 c.args.place at.paragraph at.start c.in_ok-at.ensures.paragraph
    c.in_ok-at.ensures.row.start_is c.paragraph-paragraph.result.now.body c.paragraph-paragraph.ensures.body_is in
    omega (arith, short, c.unit_around-stop.ensures.within, s.short)

is-unit : (g : _) (c : After-unit_around-stop g)
    → (c.args.place, c.in_ok-at.at.start + c.unit_around-stop.result.1)
    ≡ unit_at (g.D.BidiData.data c.args.text_ref.now.tables.now) c.args.text_ref.now.text.now.edited.text c.args.place
is-unit g c =
    let s = c.args.text_ref.now in
    let at = c.in_ok-at.at in
    unit-is (g.D.BidiData.data s.tables.now) s.text.now.edited.text s.utf8 c.args.place at.paragraph at.start c.in_ok-at.ensures.paragraph
    c.in_ok-at.ensures.row.start_is c.paragraph-paragraph.result.now.body c.paragraph-paragraph.ensures.body_is c.unit_around-stop.result.1
    c.unit_around-stop.ensures.stop

pub returns-clause-unit : goal.returns-clause-unit
returns-clause-unit g c = is-unit g (goal.at.returns-clause-unit g c).After-unit_around-stop

pub returns-clause-order : goal.returns-clause-order
returns-clause-order g c =
    let s = c.args.text_ref.now in
    let is = ap (λ (u : _). u.1) (is-unit g (goal.at.returns-clause-order g c).After-unit_around-stop) in
    subst (λ n. c.args.place ≤ n) (sym is) (unit-order (g.D.BidiData.data s.tables.now) s.text.now.edited.text s.utf8 c.args.place)

pub returns-clause-text_place : goal.returns-clause-text_place
returns-clause-text_place g c = λ place.
    let s = c.args.text_ref.now in
    let ucd = g.D.BidiData.data s.tables.now in
    let is = ap (λ (u : _). u.1) (is-unit g (goal.at.returns-clause-text_place g c).After-unit_around-stop) in
    subst (IsTextPlace ucd s.text.now.edited.text) (sym is) (unit-stands ucd s.text.now.edited.text s.utf8 c.args.place place)
