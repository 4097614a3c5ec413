use Rattle.bx_document.proofs.PlaceLevels.{units_have}
use Rattle.bx_document.proofs.laws.units_have_levels.Goals as goal

pub returns : goal.returns
returns c = units_have
