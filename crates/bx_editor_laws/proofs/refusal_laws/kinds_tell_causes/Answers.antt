use Rattle.bx_editor_laws.proofs.CauseKinds.{kinds-tell-causes}
use Rattle.bx_editor_laws.proofs.refusal_laws.kinds_tell_causes.Goals as goal

pub returns : goal.returns
returns c = kinds-tell-causes
