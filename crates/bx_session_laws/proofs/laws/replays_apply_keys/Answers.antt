use Rattle.bx_session.proofs.Replayed.{replays_keys}
use Rattle.bx_session_laws.proofs.laws.replays_apply_keys.Goals as goal

pub returns : goal.returns
returns c = replays_keys
