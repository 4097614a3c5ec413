use Rattle.bx_bytes.proofs.Patterns as patterns
use Rattle.bx_bytes.proofs.laws.begins_by_more.Goals as goal

pub returns : goal.returns
returns c = patterns.begins_by_more
