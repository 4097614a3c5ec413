use Rattle.std.proofs.Common.{sym, ◌∙◌}
use Rattle.bx_rows.proofs.cells_lemmas.RangeFacts.{of_form, of_ideograph, of_wide}
use Rattle.bx_rows.proofs.cells.simple.high_kind.Goals as goal

pub returns-then-is_ideograph : goal.returns-then-is_ideograph
returns-then-is_ideograph c = of_ideograph _ (sym c.is_ideograph.ensures ∙ c.if-is_ideograph.true)

pub returns-then-is_form : goal.returns-then-is_form
returns-then-is_form c = of_form _ (sym c.is_form.ensures ∙ c.if-is_form.true)

pub returns-then-is_wide : goal.returns-then-is_wide
returns-then-is_wide c = of_wide _ (sym c.is_wide.ensures ∙ c.if-is_wide.true)
