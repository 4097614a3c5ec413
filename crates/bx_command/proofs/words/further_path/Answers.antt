use Rattle.std.proofs.Common.{ap, ◌∙◌}
use Rattle.std.proofs.lemmas.Result.{IfOk-weaker}
use Rattle.bx_command.specs.shared.Rules.{bound}
use Rattle.bx_command.proofs.shared_lemmas.Commands.{requiring_is_bound}
use Rattle.bx_command.proofs.words.further_path.Goals as goal

pub returns : goal.returns
returns c = IfOk-weaker c.requires_arg.result _ _ (λ arg adds. requiring_is_bound c.path.result arg _ adds ∙ ap bound c.path.ensures) c.requires_arg.ensures
