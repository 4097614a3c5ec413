use Rattle.bx_session_laws.proofs.GivenBack.{journals_give_back}
use Rattle.bx_session_laws.proofs.laws.journals_give_back.Goals as goal

pub returns : goal.returns
returns g c = journals_give_back g.J.Journal.contents g.J.Journal.failure_count
