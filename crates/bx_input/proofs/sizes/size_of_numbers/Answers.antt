use Rattle.std.proofs.Common.{sym, ◌∙◌}
use Rattle.bx_input.proofs.SizeFields.{no_sides, two_sides}
use Rattle.bx_input.proofs.sizes.size_of_numbers.Goals as goal

pub returns-in_err-first : goal.returns-in_err-first
returns-in_err-first c = rw c.from_residual.ensures (sym (no_sides c.args.numbers.now (sym c.in_err-first.ensures)))

pub returns : goal.returns
returns c = c.size_of_two.ensures ∙ sym (two_sides c.args.numbers.now c.in_ok-first.first (sym c.in_ok-first.ensures))
