use Rattle.std.proofs.Common.{arith, refl}
use Rattle.bx_text.proofs.index_lemmas.Walks.{before_last, next_within, next_behind}
use Rattle.bx_text.proofs.index.spot.next_spot.Goals as goal

pub overflow_add-number : goal.overflow_add-number
overflow_add-number c =
    omega (arith, before_last c.args.blocks.now.blocks c.args.spot c.requires c.in_ok-lengths.ensures.lent.0, c.block.ensures.few_paragraphs)

pub returns-then-within-lengths : goal.returns-then-within-lengths
returns-then-within-lengths c =
    let (inside, same) = c.in_ok-lengths.ensures.lent in (
      refl,
      before_last c.args.blocks.now.blocks c.args.spot c.requires inside,
      next_within c.args.blocks.now.blocks c.args.spot c.requires c.in_ok-lengths.lengths.now inside same c.if-within-lengths.true,
    )

pub returns : goal.returns
returns c =
    let (inside, same) = c.in_ok-lengths.ensures.lent in (
      refl,
      before_last c.args.blocks.now.blocks c.args.spot c.requires inside,
      next_behind c.args.blocks.now.blocks c.args.spot c.requires c.in_ok-lengths.lengths.now inside same c.first_filled.result (omega
          (arith, c.if-within-lengths.false))
          c.first_filled.ensures.inside c.first_filled.ensures.none_between c.first_filled.ensures.filled,
    )
