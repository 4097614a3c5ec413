use Rattle.std.proofs.Common.{◌∙◌, length, ap, sym, arith}
use Rattle.bx_text.specs.index.Paragraphs.{total}
use Rattle.bx_text.specs.index.Flat.{flat, BlocksState}
use Rattle.bx_text.proofs.index_lemmas.Flats.{whole_front, whole_back}
use Rattle.bx_text.proofs.index_lemmas.Spliced.{cut_is}
use Rattle.bx_text.proofs.index.blocks.Blocks.cut.Goals as goal

pub returns-then-within-eq0-clause-front : goal.returns-then-within-eq0-clause-front
returns-then-within-eq0-clause-front c =
    sym (whole_front c.args.self.now.blocks c.seek-block.result.0 c.args.number (omega (arith, c.seek-block.ensures.number, c.if-within-eq0.true)))

pub returns-then-within-eq0-clause-back : goal.returns-then-within-eq0-clause-back
returns-then-within-eq0-clause-back c =
    sym (whole_back c.args.self.now.blocks c.seek-block.result.0 c.args.number (omega (arith, c.seek-block.ensures.number, c.if-within-eq0.true)))

pub invariant_of-self : goal.invariant_of-self
invariant_of-self c =
    let k = cut_is c.self.inside.blocks.items c.args.self.now.blocks c.cut_at.new.blocks.items c.seek-block.result.0 c.seek-block.result.1 c.args.number
    (ap (λ (s : BlocksState). s.blocks) c.self.view_is) c.cut_at.ensures.items c.seek-block.ensures.number c.seek-block.ensures.within
    (omega (arith, c.if-within-eq0.false)) in
    let same = k.whole ∙ ap (λ (s : BlocksState). flat s.blocks) (sym c.self.view_is) in
    record {
      short = omega (arith, ap total same, c.self.invariant.short);
      few = omega (arith, ap length same, c.self.invariant.few);
      room = omega (arith, c.cut_at.ensures.len, c.cut_at.ensures.capacity, c.spare-spare.ensures.fewer, c.self.invariant.room);
    }

pub returns-clause-front : goal.returns-clause-front
returns-clause-front c =
    (cut_is c.self.inside.blocks.items c.args.self.now.blocks c.cut_at.new.blocks.items c.seek-block.result.0 c.seek-block.result.1 c.args.number
    (ap (λ (s : BlocksState). s.blocks) c.self.view_is) c.cut_at.ensures.items c.seek-block.ensures.number c.seek-block.ensures.within
    (omega (arith, c.if-within-eq0.false))).front

pub returns-clause-paragraphs : goal.returns-clause-paragraphs
returns-clause-paragraphs c =
    (cut_is c.self.inside.blocks.items c.args.self.now.blocks c.cut_at.new.blocks.items c.seek-block.result.0 c.seek-block.result.1 c.args.number
    (ap (λ (s : BlocksState). s.blocks) c.self.view_is) c.cut_at.ensures.items c.seek-block.ensures.number c.seek-block.ensures.within
    (omega (arith, c.if-within-eq0.false))).whole

pub returns-clause-back : goal.returns-clause-back
returns-clause-back c =
    (cut_is c.self.inside.blocks.items c.args.self.now.blocks c.cut_at.new.blocks.items c.seek-block.result.0 c.seek-block.result.1 c.args.number
    (ap (λ (s : BlocksState). s.blocks) c.self.view_is) c.cut_at.ensures.items c.seek-block.ensures.number c.seek-block.ensures.within
    (omega (arith, c.if-within-eq0.false))).back

pub returns-clause-before : goal.returns-clause-before
returns-clause-before c =
    (cut_is c.self.inside.blocks.items c.args.self.now.blocks c.cut_at.new.blocks.items c.seek-block.result.0 c.seek-block.result.1 c.args.number
    (ap (λ (s : BlocksState). s.blocks) c.self.view_is) c.cut_at.ensures.items c.seek-block.ensures.number c.seek-block.ensures.within
    (omega (arith, c.if-within-eq0.false))).before
