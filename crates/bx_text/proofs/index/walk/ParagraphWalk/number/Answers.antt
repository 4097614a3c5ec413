use Rattle.std.proofs.Common.{length, ap, arith}
use Rattle.bx_text.specs.index.Walk.{WalkState}
use Rattle.bx_text.proofs.index_lemmas.Walks.{number_inside}
use Rattle.bx_text.proofs.index.walk.ParagraphWalk.number.Goals as goal

pub returns-clause-inside : goal.returns-clause-inside
returns-clause-inside c =
    omega (
      arith,
      number_inside c.self.inside.blocks.now.blocks c.self.inside.last c.self.inside.spot c.self.invariant.stands,
      ap (λ (s : WalkState). s.number) c.self.view_is,
      ap (λ (s : WalkState). length s.paragraphs) c.self.view_is,
    )
