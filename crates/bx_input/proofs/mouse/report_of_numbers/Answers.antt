use Rattle.std.proofs.Common.{sym, ◌∙◌}
use Rattle.bx_input.proofs.Reports.{no_semicolon, after_first}
use Rattle.bx_input.proofs.mouse.report_of_numbers.Goals as goal

pub returns-in_err-first : goal.returns-in_err-first
returns-in_err-first c = rw c.from_residual.ensures (sym (no_semicolon c.args.is_release c.args.numbers.now (sym c.in_err-first.ensures)))

pub returns : goal.returns
returns c = c.report_of_cell.ensures ∙ sym (after_first c.args.is_release c.args.numbers.now c.in_ok-first.first (sym c.in_ok-first.ensures))
