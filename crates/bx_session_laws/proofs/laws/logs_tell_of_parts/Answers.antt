use Rattle.bx_session.proofs.Moved.{ended_with, recorded}
use Rattle.bx_session_laws.proofs.laws.logs_tell_of_parts.Goals as goal

pub returns : goal.returns
returns g c d limit result rest rest' old new device device' logged ends = (
  recorded g.R.Read.remaining g.J.Journal.contents g.J.Journal.failure_count g.W.Write.contents g.S.Store.contents g.S.Store.faults d limit result rest rest' old new device
      device' logged,
  ended_with g.R.Read.remaining g.J.Journal.contents g.J.Journal.failure_count g.W.Write.contents g.S.Store.contents g.S.Store.faults d limit result rest rest' old new device
      device' logged ends,
)
