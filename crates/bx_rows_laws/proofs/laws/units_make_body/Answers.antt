use Rattle.bx_rows.proofs.EachRow.{units-fit}
use Rattle.bx_rows_laws.proofs.Joined.{units-make-body, units-stand-in-turn}
use Rattle.bx_rows_laws.proofs.laws.units_make_body.Goals as goal

pub returns-clause-joined : goal.returns-clause-joined
returns-clause-joined c = units-make-body

pub returns-clause-in_turn : goal.returns-clause-in_turn
returns-clause-in_turn c = units-stand-in-turn

pub returns-clause-fit : goal.returns-clause-fit
returns-clause-fit c = units-fit
