use Rattle.bx_rows_laws.proofs.UnitsShown.{shows-by-levels, shows-units}
use Rattle.bx_rows_laws.proofs.laws.pictures_show_units.Goals as goal

pub returns-clause-once : goal.returns-clause-once
returns-clause-once c = shows-units

pub returns-clause-order : goal.returns-clause-order
returns-clause-order c = shows-by-levels
