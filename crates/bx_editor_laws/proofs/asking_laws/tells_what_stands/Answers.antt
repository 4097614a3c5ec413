use Rattle.bx_editor_laws.proofs.ToldUnit.{tells-what-stands}
use Rattle.bx_editor_laws.proofs.asking_laws.tells_what_stands.Goals as goal

pub returns : goal.returns
returns c = tells-what-stands
