use Rattle.bx_rows_laws.proofs.LowestLevels.{equal-order, lowest-order, lowest-stays-between, stays-between}
use Rattle.bx_rows_laws.proofs.laws.lowest_levels_order_units.Goals as goal

pub returns-clause-lowest : goal.returns-clause-lowest
returns-clause-lowest c = lowest-order

pub returns-clause-equal : goal.returns-clause-equal
returns-clause-equal c = equal-order

pub returns-clause-between : goal.returns-clause-between
returns-clause-between c = stays-between

pub returns-clause-lowest_between : goal.returns-clause-lowest_between
returns-clause-lowest_between c = lowest-stays-between
