use Rattle.std.proofs.Common.{ℕ, List, ◌≡◌, ◌≤◌, ◌+◌, ◌∙◌, length, chars, drop, ap, sym, arith}
use Rattle.std.specs.Prelude.{Option, Some, slice_get}
use Rattle.bx_find.specs.Parts.{first_between, if_below}
use Rattle.bx_find.specs.Prefix.{to_come}
use Rattle.bx_find.proofs.Fronts.{front_of, front_ends}
use Rattle.bx_find.proofs.Offsets.{below_yes, below_no, from_offset, none_first, piece_read, none_behind, none_to_come}
use Rattle.bx_find.proofs.Boundaries.{first_between_bound}
use Rattle.bx_find.proofs.search.first_between.Goals as goal
use Rattle.bx_find.proofs.search.first_between.Goals.{Then-found-stop}

pub loop-at-init : goal.loop-at-init
loop-at-init g c =
    let ucd = g.D.BidiData.data c.args.tables.now in
    let text = g.H.Haystack.text c.args.haystack.now in
    record {
      bounds = c.requires.start;
      fewer = c.empty_prefix-prefix.ensures.shorter;
      first = ap (if_below c.args.stop) (from_offset ucd c.args.reading c.args.query.now text c.args.start c.len-len.ensures.utf8 c.requires.start)
          ∙ ap (λ (os : List (Option ℕ)). if_below c.args.stop (slice_get (to_come ucd c.args.reading c.args.query.now os c.args.start
          (chars (drop c.args.start text))) 0)) (sym c.empty_prefix-prefix.ensures.empty);
    }

-- the prefix is empty, and what follows is past the bound
pub returns-then-len-eq0-clause-found : goal.returns-then-len-eq0-clause-found
returns-then-len-eq0-clause-found g c =
    let ucd = g.D.BidiData.data c.args.tables.now in
    let text = g.H.Haystack.text c.args.haystack.now in
    let none : length c.loop-at.prefix ≡ 0 = sym c.len.ensures ∙ c.if-len-eq0.true in
    sym (c.loop-at.invariant.first
    ∙ none_first ucd c.args.reading c.args.query.now c.args.stop c.loop-at.at c.loop-at.prefix (chars (drop c.loop-at.at text)) none c.if-at-stop.true)

found : (g : _) (c : Then-found-stop g)
    → Some c.in-Some.found
    ≡ first_between (g.D.BidiData.data c.args.tables.now) c.args.reading c.args.query.now (g.H.Haystack.text c.args.haystack.now) c.args.start c.args.stop
found g c =
    let ucd = g.D.BidiData.data c.args.tables.now in
    let text = g.H.Haystack.text c.args.haystack.now in
    let piece = c.upto-piece.result.now in
    let behind = chars (drop (c.loop-at.at + length piece) text) in
    let front = front_of text c.piece_at.result.now piece c.loop-at.at c.piece_at.ensures.bytes c.upto-piece.ensures.front in
    let read = piece_read text piece c.loop-at.at c.upto-piece.utf8 front in
    sym (c.loop-at.invariant.first
    ∙ ap (λ (cs : List ℕ). if_below c.args.stop (slice_get (to_come ucd c.args.reading c.args.query.now c.loop-at.prefix c.loop-at.at cs) 0)) read
    ∙ ap (if_below c.args.stop) (c.in-Some.ensures.found behind) ∙ below_yes c.args.stop c.in-Some.found c.if-found-stop.true)

pub returns-then-found-stop-clause-found : goal.returns-then-found-stop-clause-found
returns-then-found-stop-clause-found g c = found g ((goal.at.returns-then-found-stop-clause-found g c).Then-found-stop)

pub returns-then-found-stop-clause-boundary : goal.returns-then-found-stop-clause-boundary
returns-then-found-stop-clause-boundary g c =
    first_between_bound (g.D.BidiData.data c.args.tables.now) c.args.reading c.args.query.now (g.H.Haystack.text c.args.haystack.now) c.args.start
    c.len-len.ensures.utf8 c.args.stop (Some c.in-Some.found) (found g ((goal.at.returns-then-found-stop-clause-boundary g c).Then-found-stop))

pub returns-else-found-stop-clause-found : goal.returns-else-found-stop-clause-found
returns-else-found-stop-clause-found g c =
    let ucd = g.D.BidiData.data c.args.tables.now in
    let text = g.H.Haystack.text c.args.haystack.now in
    let piece = c.upto-piece.result.now in
    let behind = chars (drop (c.loop-at.at + length piece) text) in
    let front = front_of text c.piece_at.result.now piece c.loop-at.at c.piece_at.ensures.bytes c.upto-piece.ensures.front in
    let read = piece_read text piece c.loop-at.at c.upto-piece.utf8 front in
    sym (c.loop-at.invariant.first
    ∙ ap (λ (cs : List ℕ). if_below c.args.stop (slice_get (to_come ucd c.args.reading c.args.query.now c.loop-at.prefix c.loop-at.at cs) 0)) read
    ∙ ap (if_below c.args.stop) (c.in-Some.ensures.found behind) ∙ below_no c.args.stop c.in-Some.found c.if-found-stop.false)

pub loop-at-preserved : goal.loop-at-preserved
loop-at-preserved g c =
    let ucd = g.D.BidiData.data c.args.tables.now in
    let text = g.H.Haystack.text c.args.haystack.now in
    let piece = c.upto-piece.result.now in
    let behind = chars (drop (c.loop-at.at + length piece) text) in
    let front = front_of text c.piece_at.result.now piece c.loop-at.at c.piece_at.ensures.bytes c.upto-piece.ensures.front in
    let read = piece_read text piece c.loop-at.at c.upto-piece.utf8 front in
    record {
      bounds = front_ends text piece c.loop-at.at c.len-len.ensures.utf8 c.loop-at.invariant.bounds c.upto-piece.utf8 front;
      fewer = c.in_default.ensures.fewer;
      first = c.loop-at.invariant.first
          ∙ ap (λ (cs : List ℕ). if_below c.args.stop (slice_get (to_come ucd c.args.reading c.args.query.now c.loop-at.prefix c.loop-at.at cs) 0)) read
          ∙ ap (λ (os : List ℕ). if_below c.args.stop (slice_get os 0)) (c.in_default.ensures.found behind);
    }

pub returns-clause-found : goal.returns-clause-found
returns-clause-found g c =
    let ucd = g.D.BidiData.data c.args.tables.now in
    let text = g.H.Haystack.text c.args.haystack.now in
    let past : length text ≤ c.loop-at.at = omega (arith, c.loop-at-test.false, c.len-len.ensures.value) in
    sym (c.loop-at.invariant.first
    ∙ ap (λ (cs : List ℕ). if_below c.args.stop (slice_get (to_come ucd c.args.reading c.args.query.now c.loop-at.prefix c.loop-at.at cs) 0))
    (none_behind text c.loop-at.at past)
    ∙ ap (λ (os : List ℕ). if_below c.args.stop (slice_get os 0))
    (none_to_come ucd c.args.reading c.args.query.now c.loop-at.prefix c.loop-at.at c.loop-at.invariant.fewer))
