use Rattle.bx_session_laws.proofs.RecoveredParts.{recovery_gives_back}
use Rattle.bx_session_laws.proofs.laws.recovery_gives_back.Goals as goal

pub returns : goal.returns
returns c = recovery_gives_back
