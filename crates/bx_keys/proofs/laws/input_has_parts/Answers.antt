use Rattle.bx_keys.proofs.PartsOfInput.{has_parts}
use Rattle.bx_keys.proofs.laws.input_has_parts.Goals as goal

pub returns : goal.returns
returns c = has_parts
