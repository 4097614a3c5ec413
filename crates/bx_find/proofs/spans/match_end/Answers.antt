use Rattle.std.proofs.Common.{ℕ, List, ◌≡◌, ◌≤◌, ◌+◌, ◌∙◌, length, chars, drop, ap, sym, subst, arith, IsCharBoundary}
use Rattle.bx_find.specs.Matches.{match_end, behind_letters}
use Rattle.bx_find.proofs.Offsets.{piece_read, none_behind}
use Rattle.bx_find.proofs.SpansOf.{ends_with, not_before, end_bound}
use Rattle.bx_find.proofs.spans.match_end.Goals as goal
use Rattle.bx_find.proofs.spans.match_end.Goals.{In-Some}

end : (g : _) (c : In-Some g)
    → match_end (g.D.BidiData.data c.args.tables.now) c.args.reading c.args.query.now (g.H.Haystack.text c.args.haystack.now) c.args.at ≡ c.in-Some.end
end g c =
    let ucd = g.D.BidiData.data c.args.tables.now in
    let text = g.H.Haystack.text c.args.haystack.now in
    let piece = c.piece_at-piece.result.now in
    let behind = chars (drop (c.loop-next.next + length piece) text) in
    let read = piece_read text piece c.loop-next.next c.piece_at-piece.utf8 c.piece_at-piece.ensures.bytes in
    c.loop-next.invariant.end
    ∙ ap (λ (cs : List ℕ). behind_letters ucd c.args.reading c.loop-next.left c.loop-next.next cs) read
    ∙ c.in-Some.ensures behind

pub returns-in-Some-clause-value : goal.returns-in-Some-clause-value
returns-in-Some-clause-value g c = sym (end g ((goal.at.returns-in-Some-clause-value g c).In-Some))

pub returns-in-Some-clause-boundary : goal.returns-in-Some-clause-boundary
returns-in-Some-clause-boundary g c =
    let text = g.H.Haystack.text c.args.haystack.now in
    subst (IsCharBoundary text) (end g ((goal.at.returns-in-Some-clause-boundary g c).In-Some))
    (end_bound (g.D.BidiData.data c.args.tables.now) c.args.reading c.args.query.now text c.len-len.ensures.utf8 c.args.at c.requires)

pub returns-in-Some-clause-order : goal.returns-in-Some-clause-order
returns-in-Some-clause-order g c =
    let behind = chars (drop c.args.at (g.H.Haystack.text c.args.haystack.now)) in
    omega (
      arith,
      end g ((goal.at.returns-in-Some-clause-order g c).In-Some),
      not_before (g.D.BidiData.data c.args.tables.now) c.args.reading (length c.args.query.now) c.args.at behind,
    )

pub loop-next-preserved : goal.loop-next-preserved
loop-next-preserved g c =
    let ucd = g.D.BidiData.data c.args.tables.now in
    let text = g.H.Haystack.text c.args.haystack.now in
    let piece = c.piece_at-piece.result.now in
    let behind = chars (drop (c.loop-next.next + length piece) text) in
    let read = piece_read text piece c.loop-next.next c.piece_at-piece.utf8 c.piece_at-piece.ensures.bytes in
    record {
      bounds = c.piece_at-piece.ensures.next;
      order = omega (arith, c.loop-next.invariant.order);
      end = c.loop-next.invariant.end
          ∙ ap (λ (cs : List ℕ). behind_letters ucd c.args.reading c.loop-next.left c.loop-next.next cs) read
          ∙ c.in_default.ensures behind;
    }

pub returns-clause-value : goal.returns-clause-value
returns-clause-value g c =
    let ucd = g.D.BidiData.data c.args.tables.now in
    let text = g.H.Haystack.text c.args.haystack.now in
    let past : length text ≤ c.loop-next.next = omega (arith, c.loop-next-test.false, c.len-len.ensures.value) in
    sym (c.loop-next.invariant.end
    ∙ ap (λ (cs : List ℕ). behind_letters ucd c.args.reading c.loop-next.left c.loop-next.next cs) (none_behind text c.loop-next.next past)
    ∙ ends_with ucd c.args.reading c.loop-next.left c.loop-next.next)
