use Rattle.bx_session_laws.proofs.WholeLog.{has_whole_log}
use Rattle.bx_session_laws.proofs.laws.devices_log_all.Goals as goal

pub returns : goal.returns
returns c = has_whole_log
