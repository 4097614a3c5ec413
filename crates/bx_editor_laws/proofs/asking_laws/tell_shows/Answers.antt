use Rattle.bx_editor_laws.proofs.ToldUnit.{tell-shows}
use Rattle.bx_editor_laws.proofs.asking_laws.tell_shows.Goals as goal

pub returns : goal.returns
returns c = tell-shows
