use Rattle.std.proofs.Common.{ℕ, List, ◌≡◌, ◌≤◌, ◌+◌, ◌∙◌, ◌++◌, length, chars, drop, ap, sym, arith}
use Rattle.std.specs.Prelude.{Option, None}
use Rattle.bx_find.specs.Prefix.{to_come}
use Rattle.bx_find.specs.Matches.{last_below}
use Rattle.bx_find.specs.Parts.{last_from}
use Rattle.bx_find.proofs.Offsets.{last_around, last_from_offset, piece_read, none_behind, none_to_come}
use Rattle.bx_find.proofs.Boundaries.{last_from_bound}
use Rattle.bx_find.proofs.search.last_from.Goals as goal
use Rattle.bx_find.proofs.search.last_from.Goals.{After-loop-at}

pub loop-at-init : goal.loop-at-init
loop-at-init g c =
    let ucd = g.D.BidiData.data c.args.tables.now in
    let text = g.H.Haystack.text c.args.haystack.now in
    record {
      bounds = c.requires;
      fewer = c.empty_prefix-prefix.ensures.shorter;
      before = c.len-len.ensures.value;
      last = last_from_offset ucd c.args.reading c.args.query.now text c.args.x c.len-len.ensures.utf8 c.requires
          ∙ ap (λ (os : List (Option ℕ)). last_below (length text) None (to_come ucd c.args.reading c.args.query.now os c.args.x (chars (drop c.args.x text))))
          (sym c.empty_prefix-prefix.ensures.empty);
    }

pub loop-at-preserved : goal.loop-at-preserved
loop-at-preserved g c =
    let ucd = g.D.BidiData.data c.args.tables.now in
    let text = g.H.Haystack.text c.args.haystack.now in
    let piece = c.piece_at-piece.result.now in
    let next = c.loop-at.at + length piece in
    let behind = chars (drop next text) in
    let read = piece_read text piece c.loop-at.at c.piece_at-piece.utf8 c.piece_at-piece.ensures.bytes in
    let come = to_come ucd c.args.reading c.args.query.now in
    let before = c.loop-at.invariant.before in
    record {
      bounds = c.piece_at-piece.ensures.next;
      fewer = c.last_in.ensures.fewer;
      before = c.last_in.ensures.before ∙ before;
      last = c.loop-at.invariant.last
          ∙ ap (λ (cs : List ℕ). last_below (length text) c.loop-at.latest.found (come c.loop-at.prefix c.loop-at.at cs)) read
          ∙ ap (λ b. last_below b c.loop-at.latest.found (come c.loop-at.prefix c.loop-at.at (chars piece ++ behind))) (sym before)
          ∙ c.last_in.ensures.found behind
          ∙ ap (λ b. last_below b c.last_in.new.latest.found (come c.last_in.new.prefix next behind)) before;
    }

found : (g : _) (c : After-loop-at g)
    → c.loop-at.latest.found
    ≡ last_from (g.D.BidiData.data c.args.tables.now) c.args.reading c.args.query.now (g.H.Haystack.text c.args.haystack.now) c.args.x
found g c =
    let ucd = g.D.BidiData.data c.args.tables.now in
    let text = g.H.Haystack.text c.args.haystack.now in
    let past : length text ≤ c.loop-at.at = omega (arith, c.loop-at-test.false, c.len-len.ensures.value) in
    sym (c.loop-at.invariant.last
    ∙ ap (λ (cs : List ℕ). last_below (length text) c.loop-at.latest.found (to_come ucd c.args.reading c.args.query.now c.loop-at.prefix c.loop-at.at cs))
    (none_behind text c.loop-at.at past)
    ∙ ap (last_below (length text) c.loop-at.latest.found)
    (none_to_come ucd c.args.reading c.args.query.now c.loop-at.prefix c.loop-at.at c.loop-at.invariant.fewer))

pub returns-clause-found : goal.returns-clause-found
returns-clause-found g c = found g ((goal.at.returns-clause-found g c).After-loop-at)

pub returns-clause-boundary : goal.returns-clause-boundary
returns-clause-boundary g c =
    last_from_bound (g.D.BidiData.data c.args.tables.now) c.args.reading c.args.query.now (g.H.Haystack.text c.args.haystack.now) c.args.x
    c.len-len.ensures.utf8 c.loop-at.latest.found (found g ((goal.at.returns-clause-boundary g c).After-loop-at))

pub returns-clause-around : goal.returns-clause-around
returns-clause-around g c none =
    found g ((goal.at.returns-clause-around g c).After-loop-at)
    ∙ sym (last_around (g.D.BidiData.data c.args.tables.now) c.args.reading c.args.query.now (g.H.Haystack.text c.args.haystack.now) c.args.x
    c.len-len.ensures.utf8 none)
