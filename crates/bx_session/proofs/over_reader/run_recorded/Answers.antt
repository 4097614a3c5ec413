use Rattle.std.proofs.Common.{rules}
use Rattle.bx_session.proofs.over_reader.run_recorded.Goals as goal

pub returns-clause-limit : goal.returns-clause-limit
returns-clause-limit g c is = let h = c.run_wired.ensures.limit is in search rules
