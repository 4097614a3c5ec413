use Rattle.bx_find_laws.proofs.Following.{spans_are}
use Rattle.bx_find_laws.proofs.laws.spans_follow.Goals as goal

pub returns : goal.returns
returns c = λ ucd reading sought text x u. spans_are ucd reading sought text u x
