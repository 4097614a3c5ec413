use Rattle.std.proofs.Common.{sym, ◌∙◌}
use Rattle.bx_rows.proofs.cells_lemmas.RangeFacts.{of_common}
use Rattle.bx_rows.proofs.cells.simple.common_kind.Goals as goal

pub returns-then-is_common : goal.returns-then-is_common
returns-then-is_common c = of_common _ (sym c.is_common.ensures ∙ c.if-is_common.true)
