use Rattle.bx_bytes.proofs.Patterns as patterns
use Rattle.bx_bytes.proofs.laws.none_begins_longer.Goals as goal

pub returns : goal.returns
returns c = patterns.none_begins_longer
