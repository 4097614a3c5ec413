use Rattle.std.proofs.Common.{◌-◌, ◌∙◌, ap, reverse, take, drop}
use Rattle.bx_levels.specs.brackets.Resolve.{nearest}
use Rattle.bx_levels.proofs.brackets_lemmas.Context.{context_later}
use Rattle.bx_levels.proofs.brackets.resolve.context.Goals as goal

pub returns-then-start-index : goal.returns-then-start-index
returns-then-start-index c = c.nearest.ensures
    ∙ ap (λ s. nearest s (reverse (take (c.args.index - c.args.known.0) (drop c.args.known.0 c.args.types.now)))) c.requires.known
    ∙ context_later c.args.sos c.args.types.now c.args.known.0 c.args.index c.if-start-index.true
