use Rattle.std.proofs.Common.{ℕ, ◌+◌, ◌≡◌, ◌∙◌, ap, find, nat_le, length, subst, sym}
use Rattle.bx_common.specs.Characters.{is_side}
use Rattle.bx_paragraph.specs.BodyRows.{last_of}
use Rattle.bx_view.specs.FoundRow.{IsNext, IsSameAtEnd, StandsOn, rows_by}
use Rattle.bx_view.specs.TextRows.{places_of, row_of}
use Rattle.bx_view.proofs.StepPlaces.{least-here, least-last, least-next}
use Rattle.bx_view.proofs.KeptPlaces.{place-from-kept}
use Rattle.bx_view.proofs.TextPlaces.{place-between}
use Rattle.bx_view.proofs.view.View.place_from.Goals as goal
use Rattle.bx_view.proofs.view.View.place_from.Goals.{In-Some-2}

pub returns-in-Some-clause-place : goal.returns-in-Some-clause-place
returns-in-Some-clause-place g c =
    let ucd = g.D.BidiData.data c.args.text_ref.now.tables.now in
    let text = c.args.text_ref.now.text.now.edited.text in
    let v = c.row_at.new.self in
    let on = c.in_ok-at.ensures.row in
    let n : ℕ = row_of (rows_by ucd v text) c.args.offset in
    least-here ucd c.args.self.now v text c.args.offset c.in_ok-at.at c.args.text_ref.now.utf8 c.row_at.ensures.keeps on c.in_ok-place.field-0
    c.in-Some.place c.in-Some.is (c.in_ok-place.ensures ∙ ap (λ r. find (nat_le c.args.offset) (places_of r)) (c.row.ensures.row n on))

pub returns-in_default-2-clause-place : goal.returns-in_default-2-clause-place
returns-in_default-2-clause-place g c =
    let ucd = g.D.BidiData.data c.args.text_ref.now.tables.now in
    let text = c.args.text_ref.now.text.now.edited.text in
    let v = c.row_at.new.self in
    let on = c.in_ok-at.ensures.row in
    let n : ℕ = row_of (rows_by ucd v text) c.args.offset in
    let later = c.next_row.new.self in
    let last : n + 1 ≡ length (rows_by ucd later text) =
    subst (IsNext ucd later text n) c.in_default-2.is (c.in_ok-next.ensures.next n on) in
    let same : later ≡ v = subst (IsSameAtEnd v later) c.in_default-2.is c.in_ok-next.ensures.same in
    let still = subst (λ u. StandsOn ucd u text c.in_ok-at.at n) (sym same) on in
    least-last ucd c.args.self.now v text c.args.offset c.in_ok-at.at c.args.text_ref.now.utf8 c.row_at.ensures.keeps on c.in_ok-place.field-0
    c.in_default.is later c.next_row.ensures.keeps last c.in_ok-last.last
    (c.in_ok-last.ensures ∙ ap (λ r. r.start + last_of r.row) (c.row-in_default-2.ensures.row n still))
    (c.in_ok-place.ensures ∙ ap (λ r. find (nat_le c.args.offset) (places_of r)) (c.row.ensures.row n on))

-- the row after it
there : (g : _) (c : In-Some-2 g)
    → StandsOn (g.D.BidiData.data c.args.text_ref.now.tables.now) c.next_row.new.self c.args.text_ref.now.text.now.edited.text c.in-Some-2.next
    (row_of (rows_by (g.D.BidiData.data c.args.text_ref.now.tables.now) c.row_at.new.self c.args.text_ref.now.text.now.edited.text) c.args.offset + 1)
there g c =
    subst (IsNext (g.D.BidiData.data c.args.text_ref.now.tables.now) c.next_row.new.self c.args.text_ref.now.text.now.edited.text _) c.in-Some-2.is
    (c.in_ok-next.ensures.next _ c.in_ok-at.ensures.row)

pub first_in-requires : goal.first_in-requires
first_in-requires g c = record { row = (_, there g (goal.at.first_in-requires g c).In-Some-2) }

pub returns-clause-place : goal.returns-clause-place
returns-clause-place g c =
    let ucd = g.D.BidiData.data c.args.text_ref.now.tables.now in
    let text = c.args.text_ref.now.text.now.edited.text in
    let v = c.row_at.new.self in
    let on = c.in_ok-at.ensures.row in
    let n : ℕ = row_of (rows_by ucd v text) c.args.offset in
    let after = there g (goal.at.returns-clause-place g c).In-Some-2 in
    least-next ucd c.args.self.now v text c.args.offset c.in_ok-at.at c.args.text_ref.now.utf8 c.row_at.ensures.keeps on c.in_ok-place.field-0
    c.in_default.is c.next_row.new.self c.next_row.ensures.keeps c.in-Some-2.next after c.first_in.result (c.first_in.ensures (n + 1) after)
    (c.in_ok-place.ensures ∙ ap (λ r. find (nat_le c.args.offset) (places_of r)) (c.row.ensures.row n on))

pub returns-in-Some-clause-text_place : goal.returns-in-Some-clause-text_place
returns-in-Some-clause-text_place g c =
    let side = sym (ap is_side c.row_at.ensures.keeps.w) ∙ c.in_ok-at.ensures.row.side in
    place-from-kept (g.D.BidiData.data c.args.text_ref.now.tables.now) c.args.self.now c.args.text_ref.now.text.now.edited.text side
    c.args.text_ref.now.utf8 c.args.offset _ (returns-in-Some-clause-place g c)

pub returns-in-Some-clause-boundary : goal.returns-in-Some-clause-boundary
returns-in-Some-clause-boundary g c =
    place-between (g.D.BidiData.data c.args.text_ref.now.tables.now) c.args.text_ref.now.text.now.edited.text _ c.args.text_ref.now.utf8
    (returns-in-Some-clause-text_place g c)

pub returns-in-Some-clause-side : goal.returns-in-Some-clause-side
returns-in-Some-clause-side g c = sym (ap is_side c.row_at.ensures.keeps.w) ∙ c.in_ok-at.ensures.row.side

pub returns-in_default-2-clause-text_place : goal.returns-in_default-2-clause-text_place
returns-in_default-2-clause-text_place g c =
    let side = sym (ap is_side c.row_at.ensures.keeps.w) ∙ c.in_ok-at.ensures.row.side in
    place-from-kept (g.D.BidiData.data c.args.text_ref.now.tables.now) c.args.self.now c.args.text_ref.now.text.now.edited.text side
    c.args.text_ref.now.utf8 c.args.offset _ (returns-in_default-2-clause-place g c)

pub returns-in_default-2-clause-boundary : goal.returns-in_default-2-clause-boundary
returns-in_default-2-clause-boundary g c =
    place-between (g.D.BidiData.data c.args.text_ref.now.tables.now) c.args.text_ref.now.text.now.edited.text _ c.args.text_ref.now.utf8
    (returns-in_default-2-clause-text_place g c)

pub returns-in_default-2-clause-side : goal.returns-in_default-2-clause-side
returns-in_default-2-clause-side g c = sym (ap is_side c.row_at.ensures.keeps.w) ∙ c.in_ok-at.ensures.row.side

pub returns-clause-text_place : goal.returns-clause-text_place
returns-clause-text_place g c =
    let side = sym (ap is_side c.row_at.ensures.keeps.w) ∙ c.in_ok-at.ensures.row.side in
    place-from-kept (g.D.BidiData.data c.args.text_ref.now.tables.now) c.args.self.now c.args.text_ref.now.text.now.edited.text side
    c.args.text_ref.now.utf8 c.args.offset _ (returns-clause-place g c)

pub returns-clause-boundary : goal.returns-clause-boundary
returns-clause-boundary g c =
    place-between (g.D.BidiData.data c.args.text_ref.now.tables.now) c.args.text_ref.now.text.now.edited.text _ c.args.text_ref.now.utf8
    (returns-clause-text_place g c)

pub returns-clause-side : goal.returns-clause-side
returns-clause-side g c = sym (ap is_side c.row_at.ensures.keeps.w) ∙ c.in_ok-at.ensures.row.side
