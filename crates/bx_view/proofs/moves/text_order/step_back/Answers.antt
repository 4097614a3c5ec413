use Rattle.std.proofs.Common.{ℕ, ◌+◌, ◌-◌, ◌<◌, ◌≡◌, ◌∙◌, ap, find, nat_lt, reverse, subst}
use Rattle.bx_paragraph.specs.BodyRows.{last_of}
use Rattle.bx_view.specs.FoundRow.{IsBefore, StandsOn, rows_by}
use Rattle.bx_view.specs.TextRows.{places_of, row_of}
use Rattle.bx_view.proofs.StepPlaces.{before-first, before-here, before-there}
use Rattle.bx_view.proofs.moves.text_order.step_back.Goals as goal

pub returns-in-Some-clause-place : goal.returns-in-Some-clause-place
returns-in-Some-clause-place g c =
    let ucd = g.D.BidiData.data c.args.text_ref.now.tables.now in
    let text = c.args.text_ref.now.text.now.edited.text in
    let v = c.row_at.new.self in
    let on = c.in_ok-at.ensures.row in
    let n : ℕ = row_of (rows_by ucd v text) c.args.place in
    before-here ucd c.args.view.now v text c.args.place c.in_ok-at.at c.args.text_ref.now.utf8 c.row_at.ensures.keeps on c.in_ok-before.field-0
    c.in-Some.before c.in-Some.is (c.in_ok-before.ensures ∙ ap (λ r. find (λ p. nat_lt p c.args.place) (reverse (places_of r))) (c.row.ensures.row n on))

pub returns-in_default-2-clause-place : goal.returns-in_default-2-clause-place
returns-in_default-2-clause-place g c =
    let ucd = g.D.BidiData.data c.args.text_ref.now.tables.now in
    let text = c.args.text_ref.now.text.now.edited.text in
    let v = c.row_at.new.self in
    let on = c.in_ok-at.ensures.row in
    let n : ℕ = row_of (rows_by ucd v text) c.args.place in
    let first : n ≡ 0 = subst (IsBefore ucd c.row_before.new.self text n) c.in_default-2.is (c.in_ok-above.ensures.before n on) in
    before-first ucd c.args.view.now v text c.args.place c.in_ok-at.at c.args.text_ref.now.utf8 c.row_at.ensures.keeps on c.in_ok-before.field-0
    first c.in_default.is (c.in_ok-before.ensures ∙ ap (λ r. find (λ p. nat_lt p c.args.place) (reverse (places_of r))) (c.row.ensures.row n on))

pub row-requires-2 : goal.row-requires-2
row-requires-2 g c =
    let ucd = g.D.BidiData.data c.args.text_ref.now.tables.now in
    let text = c.args.text_ref.now.text.now.edited.text in
    let v = c.row_at.new.self in
    let on = c.in_ok-at.ensures.row in
    let n : ℕ = row_of (rows_by ucd v text) c.args.place in
    let later = c.row_before.new.self in
    let there : (0 < n) × StandsOn ucd later text c.in-Some-2.above (n - 1) =
    subst (IsBefore ucd later text n) c.in-Some-2.is (c.in_ok-above.ensures.before n on) in
    record { row = (n - 1, there.1) }

pub returns-clause-place : goal.returns-clause-place
returns-clause-place g c =
    let ucd = g.D.BidiData.data c.args.text_ref.now.tables.now in
    let text = c.args.text_ref.now.text.now.edited.text in
    let v = c.row_at.new.self in
    let on = c.in_ok-at.ensures.row in
    let n : ℕ = row_of (rows_by ucd v text) c.args.place in
    let later = c.row_before.new.self in
    let there : (0 < n) × StandsOn ucd later text c.in-Some-2.above (n - 1) =
    subst (IsBefore ucd later text n) c.in-Some-2.is (c.in_ok-above.ensures.before n on) in
    before-there ucd c.args.view.now v text c.args.place c.in_ok-at.at c.args.text_ref.now.utf8 c.row_at.ensures.keeps on c.in_ok-before.field-0
    c.in_default.is later c.row_before.ensures.keeps there.0 c.in_ok-last.last
    (c.in_ok-last.ensures ∙ ap (λ r. r.start + last_of r.row) (c.row-2.ensures.row (n - 1) there.1))
    (c.in_ok-before.ensures ∙ ap (λ r. find (λ p. nat_lt p c.args.place) (reverse (places_of r))) (c.row.ensures.row n on))
