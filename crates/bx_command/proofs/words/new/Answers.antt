use Rattle.std.proofs.Common.{ap, ◌∙◌}
use Rattle.std.proofs.lemmas.Result.{IfOk-weaker}
use Rattle.bx_command.specs.shared.Rules.{bound}
use Rattle.bx_command.proofs.shared_lemmas.Commands.{excluding_is_bound}
use Rattle.bx_command.proofs.words.new.Goals as goal

pub returns : goal.returns
returns c = IfOk-weaker c.conflicts_with.result _ _ (λ arg adds. excluding_is_bound c.flag.result arg _ adds ∙ ap bound c.flag.ensures) c.conflicts_with.ensures
