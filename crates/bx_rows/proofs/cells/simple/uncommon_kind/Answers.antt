use Rattle.std.proofs.Common.{sym, ◌∙◌}
use Rattle.bx_rows.proofs.cells_lemmas.RangeFacts.{of_narrow, of_wide}
use Rattle.bx_rows.proofs.cells.simple.uncommon_kind.Goals as goal

pub returns-then-is_narrow : goal.returns-then-is_narrow
returns-then-is_narrow c = of_narrow _ (sym c.is_narrow.ensures ∙ c.if-is_narrow.true)

pub returns-then-is_wide : goal.returns-then-is_wide
returns-then-is_wide c = of_wide _ (sym c.is_wide.ensures ∙ c.if-is_wide.true)
