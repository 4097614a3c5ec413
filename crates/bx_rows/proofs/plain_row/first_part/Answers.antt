use Rattle.bx_rows.proofs.PlainRows.{part-boundary}
use Rattle.bx_rows.proofs.plain_row.first_part.Goals as goal

pub range-requires-clause-end_boundary : goal.range-requires-clause-end_boundary
range-requires-clause-end_boundary c = part-boundary c.args.text.now c.in_ok-c.behind.now c.in_ok-c.c c.utf8.text c.in_ok-c.ensures.0
