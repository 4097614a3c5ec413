use Rattle.std.proofs.Common.{◌∙◌, sym}
use Rattle.bx_input.proofs.Sequences.{table_by}
use Rattle.bx_input.proofs.known.fate.Goals as goal

pub returns-else-opens_size : goal.returns-else-opens_size
returns-else-opens_size c =
    c.table_fate.ensures
    ∙ sym (table_by c.args.bytes.now (sym c.opens_report.ensures ∙ c.if-opens_report.false) (sym c.opens_size.ensures ∙ c.if-opens_size.false))
