use Rattle.bx_session.proofs.Shown.{always_shows}
use Rattle.bx_session_laws.proofs.laws.paintings_keep_up.Goals as goal

pub returns : goal.returns
returns c = always_shows
