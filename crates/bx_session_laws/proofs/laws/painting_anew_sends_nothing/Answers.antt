use Rattle.bx_session_laws.proofs.PaintedAnew.{always_stays}
use Rattle.bx_session_laws.proofs.laws.painting_anew_sends_nothing.Goals as goal

pub returns : goal.returns
returns c = always_stays
