use Rattle.bx_text.proofs.swap.turn.Goals as goal

pub swap-span-requires-clause-small : goal.swap-span-requires-clause-small
swap-span-requires-clause-small c =
    c.requires.small c.unwrap-step.result c.pop.new.self.items (rw c.unwrap-step.ensures at c.pop.ensures.items)
