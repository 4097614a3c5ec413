use Rattle.bx_world.proofs.Begun.{begins_with_keys}
use Rattle.bx_world.proofs.laws.runs_begin_with_keys.Goals as goal

pub returns : goal.returns
returns c = begins_with_keys
