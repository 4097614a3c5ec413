use Rattle.std.proofs.Common.{ℕ, List, ◌≤◌, ◌+◌, ◌∙◌, length, chars, drop, ap, sym, arith}
use Rattle.std.specs.Prelude.{Option, slice_get}
use Rattle.bx_find.specs.Prefix.{to_come}
use Rattle.bx_find.proofs.Offsets.{from_offset, piece_read, none_behind, none_to_come}
use Rattle.bx_find.proofs.search.first_match.Goals as goal

pub loop-at-init : goal.loop-at-init
loop-at-init g c =
    let ucd = g.D.BidiData.data c.args.sought.now.tables.now in
    let text = g.H.Haystack.text c.args.haystack.now in
    record {
      bounds = c.requires;
      fewer = c.empty_prefix-prefix.ensures.shorter;
      first = from_offset ucd c.args.sought.now.reading c.args.sought.now.query.now text c.args.x c.len-len.ensures.utf8 c.requires
          ∙ ap (λ (os : List (Option ℕ)). slice_get (to_come ucd c.args.sought.now.reading c.args.sought.now.query.now os c.args.x
          (chars (drop c.args.x text))) 0) (sym c.empty_prefix-prefix.ensures.empty);
    }

pub returns-in-Some-clause-found : goal.returns-in-Some-clause-found
returns-in-Some-clause-found g c =
    let ucd = g.D.BidiData.data c.args.sought.now.tables.now in
    let text = g.H.Haystack.text c.args.haystack.now in
    let piece = c.piece_at-piece.result.now in
    let behind = chars (drop (c.loop-at.at + length piece) text) in
    let read = piece_read text piece c.loop-at.at c.piece_at-piece.utf8 c.piece_at-piece.ensures.bytes in
    sym (c.loop-at.invariant.first
    ∙ ap (λ (cs : List ℕ). slice_get (to_come ucd c.args.sought.now.reading c.args.sought.now.query.now c.loop-at.prefix c.loop-at.at cs) 0) read
    ∙ c.in-Some.ensures.found behind)

pub loop-at-preserved : goal.loop-at-preserved
loop-at-preserved g c =
    let ucd = g.D.BidiData.data c.args.sought.now.tables.now in
    let text = g.H.Haystack.text c.args.haystack.now in
    let piece = c.piece_at-piece.result.now in
    let behind = chars (drop (c.loop-at.at + length piece) text) in
    let read = piece_read text piece c.loop-at.at c.piece_at-piece.utf8 c.piece_at-piece.ensures.bytes in
    record {
      bounds = c.piece_at-piece.ensures.next;
      fewer = c.in_default.ensures.fewer;
      first = c.loop-at.invariant.first
          ∙ ap (λ (cs : List ℕ). slice_get (to_come ucd c.args.sought.now.reading c.args.sought.now.query.now c.loop-at.prefix c.loop-at.at cs) 0) read
          ∙ ap (λ (os : List ℕ). slice_get os 0) (c.in_default.ensures.found behind);
    }

pub returns-clause-found : goal.returns-clause-found
returns-clause-found g c =
    let ucd = g.D.BidiData.data c.args.sought.now.tables.now in
    let text = g.H.Haystack.text c.args.haystack.now in
    let past : length text ≤ c.loop-at.at = omega (arith, c.loop-at-test.false, c.len-len.ensures.value) in
    sym (c.loop-at.invariant.first
    ∙ ap (λ (cs : List ℕ). slice_get (to_come ucd c.args.sought.now.reading c.args.sought.now.query.now c.loop-at.prefix c.loop-at.at cs) 0) (none_behind text c.loop-at.at past)
    ∙ ap (λ (os : List ℕ). slice_get os 0) (none_to_come ucd c.args.sought.now.reading c.args.sought.now.query.now c.loop-at.prefix c.loop-at.at c.loop-at.invariant.fewer))
