use Rattle.bx_session_laws.proofs.QuitsEndParts.{parts-end-at-quits}
use Rattle.bx_session_laws.proofs.laws.parts_end_at_quits.Goals as goal

pub returns : goal.returns
returns c = parts-end-at-quits
