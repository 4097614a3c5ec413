use Rattle.std.proofs.Common.{sym, ◌∙◌}
use Rattle.bx_input.proofs.Reports.{no_more, of_three}
use Rattle.bx_input.proofs.mouse.report_of_cell.Goals as goal

pub returns-in_err-second : goal.returns-in_err-second
returns-in_err-second c = rw c.from_residual.ensures (sym (no_more c.args.is_release c.args.button.now c.args.cell.now (sym c.in_err-second.ensures)))

pub returns : goal.returns
returns c =
    c.report_of_three.ensures
    ∙ sym (of_three c.args.is_release c.args.button.now c.args.cell.now c.in_ok-second.second (sym c.in_ok-second.ensures))
