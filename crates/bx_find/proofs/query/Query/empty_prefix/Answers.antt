use Rattle.std.proofs.Common.{ap, arith, length}
use Rattle.bx_find.proofs.query.Query.empty_prefix.Goals as goal

pub returns-clause-shorter : goal.returns-clause-shorter
returns-clause-shorter c = omega (arith, c.len-some.ensures.value, c.len-some.ensures.some, ap length c.new.ensures)
