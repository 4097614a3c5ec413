use Rattle.std.proofs.Common.{◌≡◌, ◌∙◌, ap, false, refl, sym, true, arith, rules}
use Rattle.bx_view.specs.Standing.{rows_ahead}
use Rattle.bx_view.proofs.CachedRows.{before-there}
use Rattle.bx_view.proofs.WalkSteps.{no-previous, previous-number}
use Rattle.bx_view.proofs.view.View.row_before_along.Goals as goal

pub returns-then-not-to_previous-clause-before : goal.returns-then-not-to_previous-clause-before
returns-then-not-to_previous-clause-before g c = λ n on.
    let s = c.args.text_ref.now in
    let v = c.args.self.now in
    let walk = c.args.walk.now in
    let none : c.args.at.row ≡ 0 = search rules in
    let stayed : c.to_previous.result ≡ false = search rules in
    let first = no-previous walk.paragraphs walk.number walk refl c.to_previous.result c.to_previous.ensures.there stayed in
    let here : c.args.at.paragraph ≡ 0 = sym c.requires.along.1 ∙ first in
    let ahead : rows_ahead (g.D.BidiData.data s.tables.now) v.base v.w s.text.now.edited.text c.args.at.paragraph ≡ 0 =
    ap (rows_ahead (g.D.BidiData.data s.tables.now) v.base v.w s.text.now.edited.text) here in
    omega (arith, on.is.is, ahead, none)

pub returns-clause-before : goal.returns-clause-before
returns-clause-before g c = λ n on.
    let s = c.args.text_ref.now in
    let ucd = g.D.BidiData.data s.tables.now in
    let walk = c.args.walk.now in
    let none : c.args.at.row ≡ 0 = search rules in
    let went : c.to_previous.result ≡ true = search rules in
    let next = previous-number walk.paragraphs walk.number walk refl c.to_previous.result c.current_span-span.result.number c.to_previous.ensures.there went
    (c.current_span-span.ensures.number ∙ c.to_previous.ensures.number) in
    before-there ucd c.args.self.now c.find.new.self
    s.text.now.edited.text c.args.at n c.current_span-span.result.number c.current_span-span.result.start c.in_ok-cached.cached c.row_count-rows.result
    c.paragraph.result.now s.utf8 on c.find.ensures.keeps none (sym c.requires.along.1 ∙ next) c.paragraph.ensures
    c.row_count-rows.ensures.starts c.row_count-rows.ensures.some
    c.current_span-span.ensures.is.start c.in_ok-cached.ensures.body

pub returns-clause-along : goal.returns-clause-along
returns-clause-along g c = (c.to_previous.ensures.paragraphs ∙ c.requires.along.0, sym c.current_span-span.ensures.number)
