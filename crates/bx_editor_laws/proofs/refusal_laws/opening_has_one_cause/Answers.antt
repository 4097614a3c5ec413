use Rattle.bx_editor_laws.proofs.OneCause.{opening-has-one-cause}
use Rattle.bx_editor_laws.proofs.refusal_laws.opening_has_one_cause.Goals as goal

pub returns : goal.returns
returns c = opening-has-one-cause
