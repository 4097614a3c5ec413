use Rattle.std.proofs.Common.{◌≡◌, ◌∙◌, ◌++◌, [], ◌∷◌, None, length, drop, ap, sym, arith, length-append}
use Rattle.std.proofs.lemmas.Str.{IsCharBoundary-start}
use Rattle.bx_text.specs.declared.index.lengths.Lengths.{Lengths}
use Rattle.bx_text.specs.index.Paragraphs.{lengths, total}
use Rattle.bx_text.specs.index.Flat.{flat, BlocksState}
use Rattle.bx_text.proofs.index_lemmas.Cuts.{unended}
use Rattle.bx_text.proofs.index_lemmas.Spliced.{pushed_behind}
use Rattle.bx_text.proofs.index_lemmas.Totals.{total_push}
use Rattle.bx_text.proofs.index_lemmas.Turns.{next, last, moved, end_lengths, total_lengths, few_lengths, still_all}
use Rattle.bx_text.proofs.index.index.Index.build.Goals as goal

pub range_to_end-range-requires : goal.range_to_end-range-requires
range_to_end-range-requires g c = IsCharBoundary-start c.args.text.now.edited.text c.len-len.ensures.utf8

pub loop-at-init : goal.loop-at-init
loop-at-init g c = record {
  bounds = IsCharBoundary-start c.args.text.now.edited.text c.len-len.ensures.utf8;
  range = c.range_to_end-range.ensures (g.D.BidiData.data c.args.tables.now);
  position = omega arith;
  front = ap (λ (s : BlocksState). flat s.blocks ++ lengths (g.D.BidiData.data c.args.tables.now) c.args.text.now.edited.text) c.new-front.ensures;
  behind = ap (λ (s : BlocksState). flat s.blocks) c.new-front.ensures;
  bytes = ap (λ (s : BlocksState). total (flat s.blocks)) c.new-front.ensures;
}

pub invariant_of-result : goal.invariant_of-result
invariant_of-result g c =
    let rest = last (g.D.BidiData.data c.args.tables.now) c.args.text.now.edited.text c.loop-at.at c.len-len.ensures.utf8 c.loop-at.invariant.bounds
    c.paragraph_from-paragraph.result c.paragraph_from-paragraph.ensures.first (omega (arith, c.if-paragraph-eq0.true)) in
    let same = ap (λ ls. flat c.loop-at.front.blocks ++ ls) (sym rest) ∙ c.loop-at.invariant.front in
    record {
      short = omega (
        arith,
        ap total same,
        total_lengths (g.D.BidiData.data c.args.tables.now) c.args.text.now.edited.text c.len-len.ensures.utf8,
        c.len-len.ensures.short,
      );
      few = omega (
        arith,
        ap length same,
        length-append (flat c.loop-at.front.blocks) (unended c.paragraph_from-paragraph.result.body ∷ []),
        few_lengths (g.D.BidiData.data c.args.tables.now) c.args.text.now.edited.text c.len-len.ensures.utf8,
        c.len-len.ensures.short,
      );
      has_room = tt;
    }

pub returns-then-paragraph-eq0 : goal.returns-then-paragraph-eq0
returns-then-paragraph-eq0 g c =
    let rest = last (g.D.BidiData.data c.args.tables.now) c.args.text.now.edited.text c.loop-at.at c.len-len.ensures.utf8 c.loop-at.invariant.bounds
    c.paragraph_from-paragraph.result c.paragraph_from-paragraph.ensures.first (omega (arith, c.if-paragraph-eq0.true)) in
    ap (λ ps. record { paragraphs = ps; room = None }) (ap (λ ls. flat c.loop-at.front.blocks ++ ls) (sym rest) ∙ c.loop-at.invariant.front)

pub push-position-requires-clause-few : goal.push-position-requires-clause-few
push-position-requires-clause-few g c =
    omega (
      arith,
      ap length c.loop-at.invariant.front,
      length-append (flat c.loop-at.front.blocks) (lengths (g.D.BidiData.data c.args.tables.now) (drop c.loop-at.at c.args.text.now.edited.text)),
      few_lengths (g.D.BidiData.data c.args.tables.now) c.args.text.now.edited.text c.len-len.ensures.utf8,
      c.len-len.ensures.short,
      ap (λ bs. length (flat bs)) c.in_ok-make_spares.ensures.blocks,
    )

pub loop-at-preserved : goal.loop-at-preserved
loop-at-preserved g c =
    let p : Lengths = c.paragraph_from-paragraph.result in
    let t = next (g.D.BidiData.data c.args.tables.now) c.args.text.now.edited.text c.loop-at.at c.len-len.ensures.utf8 c.loop-at.invariant.bounds p
    c.bytes-at.result c.paragraph_from-paragraph.ensures.first (omega (arith, c.if-paragraph-eq0.false)) c.bytes-at.ensures in
    let none : flat (drop c.loop-at.position c.make_spares.new.self.blocks) ≡ [] = ap (λ bs. flat (drop c.loop-at.position bs)) c.in_ok-make_spares.ensures.blocks
    ∙ c.loop-at.invariant.behind in
    let more = pushed_behind c.make_spares.new.self.blocks c.push-position.new.self.blocks c.loop-at.position c.push-position.result p c.push-position.ensures.front
    c.push-position.ensures.back none
    ∙ ap (λ bs. flat bs ++ p ∷ []) c.in_ok-make_spares.ensures.blocks in
    record {
      bounds = t.ends_between;
      range = moved (g.D.BidiData.data c.args.tables.now) c.args.text.now.edited.text c.loop-at.at _ c.loop-at.range c.loop-at.invariant.range
          t.ends_between;
      position = c.push-position.ensures.position;
      front = still_all _ _ _ _ _ p more t.more c.loop-at.invariant.front;
      behind = c.push-position.ensures.back ∙ none;
      bytes = omega (arith, ap total more, total_push (flat c.loop-at.front.blocks) p, c.loop-at.invariant.bytes, c.bytes-at.ensures);
    }

pub invariant_of-result-2 : goal.invariant_of-result-2
invariant_of-result-2 g c =
    let rest = end_lengths (g.D.BidiData.data c.args.tables.now) c.args.text.now.edited.text c.loop-at.at
    (omega (arith, c.loop-at-test.false, c.len-len.ensures.len)) in
    let same = ap (λ ls. flat c.loop-at.front.blocks ++ ls) (sym rest) ∙ c.loop-at.invariant.front in
    record {
      short = omega (
        arith,
        ap total same,
        total_lengths (g.D.BidiData.data c.args.tables.now) c.args.text.now.edited.text c.len-len.ensures.utf8,
        c.len-len.ensures.short,
      );
      few = omega (
        arith,
        ap length same,
        length-append (flat c.loop-at.front.blocks) (unended 0 ∷ []),
        few_lengths (g.D.BidiData.data c.args.tables.now) c.args.text.now.edited.text c.len-len.ensures.utf8,
        c.len-len.ensures.short,
      );
      has_room = tt;
    }

pub returns : goal.returns
returns g c =
    let rest = end_lengths (g.D.BidiData.data c.args.tables.now) c.args.text.now.edited.text c.loop-at.at
    (omega (arith, c.loop-at-test.false, c.len-len.ensures.len)) in
    ap (λ ps. record { paragraphs = ps; room = None }) (ap (λ ls. flat c.loop-at.front.blocks ++ ls) (sym rest) ∙ c.loop-at.invariant.front)
