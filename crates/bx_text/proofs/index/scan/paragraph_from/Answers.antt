use Rattle.std.proofs.Common.{◌∙◌, ◌+◌, ◌-◌, ◌≤◌, ◌==◌, ◌&&◌, length, drop, chars, encode_utf8, if◌then◌else◌, ap, sym, subst, refl}
use Rattle.std.proofs.Common.{arith, IsCharBoundary}
use Rattle.bx_text.specs.index.Paragraphs.{begins_with_lf}
use Rattle.bx_text.specs.index.Ended.{further}
use Rattle.bx_text.proofs.index_lemmas.Firsts.{found_in_piece, past_piece, first_at_end, further_more, same_lengths}
use Rattle.bx_text.proofs.index_lemmas.Turns.{stop_within}
use Rattle.bx_text.proofs.index.scan.paragraph_from.Goals as goal

pub overflow_add-result : goal.overflow_add-result
overflow_add-result g c =
    let within = stop_within (g.D.BidiData.data c.args.tables.now) c.args.text.now.edited.text c.args.start c.loop-at.at c.args.range c.requires.range
    c.len-len.ensures.utf8 c.loop-at.invariant.bounds (omega (arith, c.if-at-range.true)) in
    omega (arith, within, c.len-len.ensures.short)

pub overflow_cast-result : goal.overflow_cast-result
overflow_cast-result g c =
    let within = stop_within (g.D.BidiData.data c.args.tables.now) c.args.text.now.edited.text c.args.start c.loop-at.at c.args.range c.requires.range
    c.len-len.ensures.utf8 c.loop-at.invariant.bounds (omega (arith, c.if-at-range.true)) in
    omega (arith, within, c.len-len.ensures.short)

pub overflow_cast-result-then-at-range : goal.overflow_cast-result-then-at-range
overflow_cast-result-then-at-range g c =
    let within = stop_within (g.D.BidiData.data c.args.tables.now) c.args.text.now.edited.text c.args.start c.loop-at.at c.args.range c.requires.range
    c.len-len.ensures.utf8 c.loop-at.invariant.bounds (omega (arith, c.if-at-range.true)) in
    omega (arith, within, c.len-len.ensures.short)

pub overflow_add-end : goal.overflow_add-end
overflow_add-end g c =
    let f = found_in_piece (g.D.BidiData.data c.args.tables.now) c.args.text.now.edited.text c.part_before-piece.result.now c.loop-at.at
    c.len-len.ensures.utf8
    c.loop-at.invariant.bounds c.part_before-piece.ensures.bytes c.part_before-piece.ensures.next c.in-Some.before c.in-Some.c
    c.in-Some.ensures in
    omega (arith, f.inside, c.len-len.ensures.short)

pub overflow_cast-result-in-Some : goal.overflow_cast-result-in-Some
overflow_cast-result-in-Some g c =
    let f = found_in_piece (g.D.BidiData.data c.args.tables.now) c.args.text.now.edited.text c.part_before-piece.result.now c.loop-at.at
    c.len-len.ensures.utf8
    c.loop-at.invariant.bounds c.part_before-piece.ensures.bytes c.part_before-piece.ensures.next c.in-Some.before c.in-Some.c
    c.in-Some.ensures in
    omega (arith, f.inside, c.len-len.ensures.short)

pub overflow_add-end-in-Some : goal.overflow_add-end-in-Some
overflow_add-end-in-Some g c =
    let f = found_in_piece (g.D.BidiData.data c.args.tables.now) c.args.text.now.edited.text c.part_before-piece.result.now c.loop-at.at
    c.len-len.ensures.utf8
    c.loop-at.invariant.bounds c.part_before-piece.ensures.bytes c.part_before-piece.ensures.next c.in-Some.before c.in-Some.c
    c.in-Some.ensures in
    omega (arith, f.inside, c.len-len.ensures.short, c.len_utf8.ensures.len)

pub separator_bytes-requires : goal.separator_bytes-requires
separator_bytes-requires g c =
    let f = found_in_piece (g.D.BidiData.data c.args.tables.now) c.args.text.now.edited.text c.part_before-piece.result.now c.loop-at.at
    c.len-len.ensures.utf8
    c.loop-at.invariant.bounds c.part_before-piece.ensures.bytes c.part_before-piece.ensures.next c.in-Some.before c.in-Some.c
    c.in-Some.ensures in
    subst (λ w. IsCharBoundary c.args.text.now.edited.text (c.loop-at.at + c.in-Some.before + w)) (sym c.len_utf8.ensures.len) f.ends_between

pub returns-in-Some-clause-first : goal.returns-in-Some-clause-first
returns-in-Some-clause-first g c =
    let f = found_in_piece (g.D.BidiData.data c.args.tables.now) c.args.text.now.edited.text c.part_before-piece.result.now c.loop-at.at
    c.len-len.ensures.utf8
    c.loop-at.invariant.bounds c.part_before-piece.ensures.bytes c.part_before-piece.ensures.next c.in-Some.before c.in-Some.c
    c.in-Some.ensures in
    let bytes = c.separator_bytes.ensures
    ∙ ap (λ w. if (c.in-Some.c == 13) && begins_with_lf (g.D.BidiData.data c.args.tables.now)
    (chars (drop (c.loop-at.at + c.in-Some.before + w) c.args.text.now.edited.text)) then 2 else length
    (encode_utf8 c.in-Some.c)) c.len_utf8.ensures.len in
    same_lengths _ _ _ _ (omega (arith, c.loop-at.invariant.start_before)) bytes ∙ ap (further (c.loop-at.at - c.args.start)) (sym f.is)
    ∙ sym c.loop-at.invariant.goes_on

pub loop-at-preserved : goal.loop-at-preserved
loop-at-preserved g c =
    let past = past_piece (g.D.BidiData.data c.args.tables.now) c.args.text.now.edited.text c.part_before-piece.result.now c.loop-at.at
    c.len-len.ensures.utf8
    c.loop-at.invariant.bounds c.part_before-piece.ensures.bytes c.part_before-piece.ensures.next c.in_default.ensures in
    record {
      bounds = c.part_before-piece.ensures.next;
      start_before = omega (arith, c.loop-at.invariant.start_before);
      goes_on = c.loop-at.invariant.goes_on ∙ ap (further (c.loop-at.at - c.args.start)) past
          ∙ further_more (c.loop-at.at - c.args.start) (length c.part_before-piece.result.now) _ _ (omega (arith, c.loop-at.invariant.start_before));
    }

pub returns-clause-first : goal.returns-clause-first
returns-clause-first g c =
    let none = first_at_end (g.D.BidiData.data c.args.tables.now) c.args.text.now.edited.text c.loop-at.at
    (omega (arith, c.loop-at-test.false, c.len-len.ensures.len)) in
    let inside : c.loop-at.at ≤ length c.args.text.now.edited.text = c.loop-at.invariant.bounds.0 in
    same_lengths _ _ 0 0 (omega (arith, c.loop-at.invariant.start_before, c.loop-at-test.false, inside, c.len-len.ensures.len)) refl
    ∙ ap (further (c.loop-at.at - c.args.start)) (sym none) ∙ sym c.loop-at.invariant.goes_on
