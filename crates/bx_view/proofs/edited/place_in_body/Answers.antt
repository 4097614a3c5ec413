use Rattle.std.proofs.Common.{◌≡◌, ◌≤◌, ◌+◌, ◌<◌, ◌∙◌, ap, find, length, nat_le, subst, sym, arith, rules}
use Rattle.bx_paragraph.specs.Layout.{rows_by}
use Rattle.bx_view.proofs.InBody.{place-here, place-last, place-next, place-within}
use Rattle.bx_paragraph.proofs.Starts.{side-some}
use Rattle.bx_view.proofs.edited.place_in_body.Goals as goal

pub returns-in-Some-clause-place : goal.returns-in-Some-clause-place
returns-in-Some-clause-place g c =
    let ucd = g.D.BidiData.data c.args.tables.now in
    let l = c.args.paragraph.now in
    let some = side-some l.w c.row_of-row.ensures.sound.side in
    let utf8 = c.row_of-row.ensures.sound.utf8 in
    place-here ucd l.base l.w some l.body utf8 c.args.offset c.row_of-row.result (c.row_of-row.ensures.row ucd c.requires.data)
    c.in-Some.place
    (sym (c.first_from.ensures ∙ ap (λ qs. find (nat_le c.args.offset) qs) (c.deref.ensures.value ∙ c.in_ok-offsets.ensures)) ∙ c.in-Some.is)

pub returns-in-Some-clause-within : goal.returns-in-Some-clause-within
returns-in-Some-clause-within g c =
    let ucd = g.D.BidiData.data c.args.tables.now in
    let l = c.args.paragraph.now in
    let some = side-some l.w c.row_of-row.ensures.sound.side in
    let utf8 = c.row_of-row.ensures.sound.utf8 in
    subst (λ n. n ≤ length l.body) (sym (returns-in-Some-clause-place g c)) (place-within ucd l.base l.w some l.body utf8 c.args.offset)

pub returns-then-row-rows-clause-place : goal.returns-then-row-rows-clause-place
returns-then-row-rows-clause-place g c =
    let ucd = g.D.BidiData.data c.args.tables.now in
    let l = c.args.paragraph.now in
    let some = side-some l.w c.row_of-row.ensures.sound.side in
    let utf8 = c.row_of-row.ensures.sound.utf8 in
    let count : c.row_count-rows.result ≡ length (rows_by ucd l) = c.row_count-rows.ensures.rows ucd c.requires.data in
    let fits : c.row_of-row.result + 1 < c.row_count-rows.result = search rules in
    c.first.ensures ucd c.requires.data
    ∙ place-next ucd l.base l.w some l.body utf8 c.args.offset c.row_of-row.result (c.row_of-row.ensures.row ucd c.requires.data)
    (sym (c.first_from.ensures ∙ ap (λ qs. find (nat_le c.args.offset) qs) (c.deref.ensures.value ∙ c.in_ok-offsets.ensures)) ∙ c.in_default.is)
    (omega (arith, fits, count))

pub returns-then-row-rows-clause-within : goal.returns-then-row-rows-clause-within
returns-then-row-rows-clause-within g c =
    let ucd = g.D.BidiData.data c.args.tables.now in
    let l = c.args.paragraph.now in
    let some = side-some l.w c.row_of-row.ensures.sound.side in
    let utf8 = c.row_of-row.ensures.sound.utf8 in
    subst (λ n. n ≤ length l.body) (sym (returns-then-row-rows-clause-place g c)) (place-within ucd l.base l.w some l.body utf8 c.args.offset)

pub returns-clause-place : goal.returns-clause-place
returns-clause-place g c =
    let ucd = g.D.BidiData.data c.args.tables.now in
    let l = c.args.paragraph.now in
    let some = side-some l.w c.row_of-row.ensures.sound.side in
    let utf8 = c.row_of-row.ensures.sound.utf8 in
    let count : c.row_count-rows.result ≡ length (rows_by ucd l) = c.row_count-rows.ensures.rows ucd c.requires.data in
    let last : c.row_count-rows.result ≤ c.row_of-row.result + 1 = search rules in
    c.in_ok-last.ensures
    ∙ place-last ucd l.base l.w some l.body utf8 c.args.offset c.row_of-row.result (c.row_of-row.ensures.row ucd c.requires.data)
    (sym (c.first_from.ensures ∙ ap (λ qs. find (nat_le c.args.offset) qs) (c.deref.ensures.value ∙ c.in_ok-offsets.ensures)) ∙ c.in_default.is)
    (omega (arith, last, count))

pub returns-clause-within : goal.returns-clause-within
returns-clause-within g c =
    let ucd = g.D.BidiData.data c.args.tables.now in
    let l = c.args.paragraph.now in
    let some = side-some l.w c.row_of-row.ensures.sound.side in
    let utf8 = c.row_of-row.ensures.sound.utf8 in
    subst (λ n. n ≤ length l.body) (sym (returns-clause-place g c)) (place-within ucd l.base l.w some l.body utf8 c.args.offset)
