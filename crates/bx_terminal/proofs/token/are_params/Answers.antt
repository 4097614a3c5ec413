use Rattle.std.proofs.Common.{arith}
use Rattle.bx_terminal.proofs.Pushed.{params_at}
use Rattle.bx_terminal.proofs.token.are_params.Goals as goal

pub returns-in-len1-up : goal.returns-in-len1-up
returns-in-len1-up c = params_at c.args.body.now c.param.result (omega (arith, c.in-len1-up.len_at_least)) c.requires c.param.ensures
