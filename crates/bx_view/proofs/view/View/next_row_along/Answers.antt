use Rattle.std.proofs.Common.{◌≡◌, ◌≤◌, ◌+◌, ◌∙◌, ap, false, length, refl, sym, true, arith, rules}
use Rattle.bx_view.specs.Numbers.{count}
use Rattle.bx_view.proofs.Numbers.{lengths-count}
use Rattle.bx_view.proofs.CachedRows.{next-nowhere, next-there}
use Rattle.bx_view.proofs.WalkSteps.{next-inside, next-number, no-next}
use Rattle.bx_view.proofs.view.View.next_row_along.Goals as goal

pub returns-then-not-to_next-clause-next : goal.returns-then-not-to_next-clause-next
returns-then-not-to_next-clause-next g c = λ n on.
    let s = c.args.text_ref.now in
    let ucd = g.D.BidiData.data s.tables.now in
    let text = s.text.now.edited.text in
    let walk = c.args.walk.now in
    let all : length walk.paragraphs ≡ count ucd text = ap length c.requires.along.0 ∙ lengths-count ucd text in
    let stayed : c.to_next.result ≡ false = search rules in
    let none = no-next walk.paragraphs walk.number walk refl c.to_next.result c.to_next.ensures.there stayed in
    let starts : c.row_count-rows.result ≡ length c.paragraph.result.now.starts = c.row_count-rows.ensures.starts in
    let last : c.row_count-rows.result ≤ c.args.at.row + 1 = search rules in
    next-nowhere ucd c.args.self.now text c.args.at n c.paragraph.result.now s.utf8
    on c.paragraph.ensures (omega (arith, starts, last)) (omega (arith, all, none, c.requires.along.1))

pub returns-clause-next : goal.returns-clause-next
returns-clause-next g c = λ n on.
    let s = c.args.text_ref.now in
    let ucd = g.D.BidiData.data s.tables.now in
    let text = s.text.now.edited.text in
    let walk = c.args.walk.now in
    let all : length walk.paragraphs ≡ count ucd text = ap length c.requires.along.0 ∙ lengths-count ucd text in
    let went : c.to_next.result ≡ true = search rules in
    let more = next-inside walk.paragraphs walk.number walk refl c.to_next.result c.to_next.ensures.there went in
    let next = c.current_span-span.ensures.number
    ∙ next-number walk.paragraphs walk.number walk refl c.to_next.result c.to_next.new.self.number
    c.to_next.ensures.number went in
    let starts : c.row_count-rows.result ≡ length c.paragraph.result.now.starts = c.row_count-rows.ensures.starts in
    let last : c.row_count-rows.result ≤ c.args.at.row + 1 = search rules in
    next-there ucd c.args.self.now text c.args.at n c.paragraph.result.now s.utf8
    on c.paragraph.ensures c.find.new.self c.current_span-span.result.number c.current_span-span.result.start c.in_ok-cached.cached c.find.ensures.keeps
    (omega (arith, starts, last)) (next ∙ ap (λ k. k + 1) c.requires.along.1) (omega (arith, all, more, c.requires.along.1))
    c.current_span-span.ensures.is.start c.in_ok-cached.ensures.body

pub returns-clause-along : goal.returns-clause-along
returns-clause-along g c = (c.to_next.ensures.paragraphs ∙ c.requires.along.0, sym c.current_span-span.ensures.number)
