use Rattle.std.proofs.Common.{◌∙◌, ◌-◌, length, ap, arith}
use Rattle.bx_text.specs.index.Paragraphs.{total}
use Rattle.bx_text.specs.index.Flat.{flat, BlocksState}
use Rattle.bx_text.proofs.index_lemmas.Spliced.{joined_is, two_blocks}
use Rattle.bx_text.proofs.index.blocks.Blocks.join.Goals as goal

pub join_at-requires-clause-short : goal.join_at-requires-clause-short
join_at-requires-clause-short c =
    omega (
      arith,
      two_blocks c.self.inside.blocks.items (c.args.at - 1) (omega (arith, c.if-at-eq0.false, c.if-at-len.false, c.len.ensures)),
      c.self.invariant.short,
    )

pub invariant_of-self : goal.invariant_of-self
invariant_of-self c =
    let same = joined_is c.self.inside.blocks.items c.join_at.new.blocks.items (c.args.at - 1) c.join_at.ensures.items
    (omega (arith, c.if-at-eq0.false, c.if-at-len.false, c.len.ensures)) in
    record {
      short = omega (arith, ap total same, c.self.invariant.short);
      few = omega (arith, ap length same, c.self.invariant.few);
      room = omega (arith, c.join_at.ensures.len, c.join_at.ensures.capacity, c.self.invariant.room);
    }

pub returns-then-lengths-behind-le-BLOCK_CAPACITY-clause-paragraphs : goal.returns-then-lengths-behind-le-BLOCK_CAPACITY-clause-paragraphs
returns-then-lengths-behind-le-BLOCK_CAPACITY-clause-paragraphs c =
    joined_is c.self.inside.blocks.items c.join_at.new.blocks.items (c.args.at - 1) c.join_at.ensures.items
    (omega (arith, c.if-at-eq0.false, c.if-at-len.false, c.len.ensures))
    ∙ ap (λ (s : BlocksState). flat s.blocks) c.self.view_is
