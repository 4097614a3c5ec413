use Rattle.std.proofs.Common.{ℕ, ◌+◌, ◌≡◌, ◌∙◌, ap, find, nat_lt, length, subst}
use Rattle.bx_view.specs.FoundRow.{IsNext, StandsOn, rows_by}
use Rattle.bx_view.specs.TextRows.{places_of, row_of}
use Rattle.bx_view.proofs.StepPlaces.{behind-here, behind-last, behind-next}
use Rattle.bx_view.proofs.moves.text_order.step_forward.Goals as goal
use Rattle.bx_view.proofs.moves.text_order.step_forward.Goals.{In-Some-2}

pub returns-in-Some-clause-place : goal.returns-in-Some-clause-place
returns-in-Some-clause-place g c =
    let ucd = g.D.BidiData.data c.args.text_ref.now.tables.now in
    let text = c.args.text_ref.now.text.now.edited.text in
    let v = c.row_at.new.self in
    let on = c.in_ok-at.ensures.row in
    let n : ℕ = row_of (rows_by ucd v text) c.args.place in
    behind-here ucd c.args.view.now v text c.args.place c.in_ok-at.at c.args.text_ref.now.utf8 c.row_at.ensures.keeps on c.in_ok-after.field-0
    c.in-Some.after c.in-Some.is (c.in_ok-after.ensures ∙ ap (λ r. find (nat_lt c.args.place) (places_of r)) (c.row.ensures.row n on))

pub returns-in_default-2-clause-place : goal.returns-in_default-2-clause-place
returns-in_default-2-clause-place g c =
    let ucd = g.D.BidiData.data c.args.text_ref.now.tables.now in
    let text = c.args.text_ref.now.text.now.edited.text in
    let v = c.row_at.new.self in
    let on = c.in_ok-at.ensures.row in
    let n : ℕ = row_of (rows_by ucd v text) c.args.place in
    let later = c.next_row.new.self in
    let last : n + 1 ≡ length (rows_by ucd later text) =
    subst (IsNext ucd later text n) c.in_default-2.is (c.in_ok-next.ensures.next n on) in
    behind-last ucd c.args.view.now v text c.args.place c.in_ok-at.at c.args.text_ref.now.utf8 c.row_at.ensures.keeps on c.in_ok-after.field-0
    c.in_default.is later c.next_row.ensures.keeps last (c.in_ok-after.ensures ∙ ap (λ r. find (nat_lt c.args.place) (places_of r)) (c.row.ensures.row n on))

-- the row after it
there : (g : _) (c : In-Some-2 g)
    → StandsOn (g.D.BidiData.data c.args.text_ref.now.tables.now) c.next_row.new.self c.args.text_ref.now.text.now.edited.text c.in-Some-2.next
    (row_of (rows_by (g.D.BidiData.data c.args.text_ref.now.tables.now) c.row_at.new.self c.args.text_ref.now.text.now.edited.text) c.args.place + 1)
there g c =
    subst (IsNext (g.D.BidiData.data c.args.text_ref.now.tables.now) c.next_row.new.self c.args.text_ref.now.text.now.edited.text _) c.in-Some-2.is
    (c.in_ok-next.ensures.next _ c.in_ok-at.ensures.row)

pub first_in-requires : goal.first_in-requires
first_in-requires g c = record { row = (_, there g (goal.at.first_in-requires g c).In-Some-2) }

pub returns-clause-place : goal.returns-clause-place
returns-clause-place g c =
    let ucd = g.D.BidiData.data c.args.text_ref.now.tables.now in
    let text = c.args.text_ref.now.text.now.edited.text in
    let v = c.row_at.new.self in
    let on = c.in_ok-at.ensures.row in
    let n : ℕ = row_of (rows_by ucd v text) c.args.place in
    let after = there g (goal.at.returns-clause-place g c).In-Some-2 in
    behind-next ucd c.args.view.now v text c.args.place c.in_ok-at.at c.args.text_ref.now.utf8 c.row_at.ensures.keeps on c.in_ok-after.field-0
    c.in_default.is c.next_row.new.self c.next_row.ensures.keeps c.in-Some-2.next after c.first_in.result (c.first_in.ensures (n + 1) after)
    (c.in_ok-after.ensures ∙ ap (λ r. find (nat_lt c.args.place) (places_of r)) (c.row.ensures.row n on))
