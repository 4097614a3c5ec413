use Rattle.bx_view.proofs.Numbered.{lead-back, lead-to-places}
use Rattle.bx_view_laws.proofs.laws.numbers_lead_back.Goals as goal

pub returns-clause-back : goal.returns-clause-back
returns-clause-back c = λ ucd base w text side utf8. lead-back ucd base w text utf8

pub returns-clause-places : goal.returns-clause-places
returns-clause-places c = lead-to-places
