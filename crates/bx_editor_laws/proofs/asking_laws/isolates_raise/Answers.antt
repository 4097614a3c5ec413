use Rattle.bx_editor_laws.proofs.IsolateLevels.{isolates-raise}
use Rattle.bx_editor_laws.proofs.asking_laws.isolates_raise.Goals as goal

pub returns : goal.returns
returns c = isolates-raise
