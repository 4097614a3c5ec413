use Rattle.bx_editor_laws.proofs.IsolatedRegion.{letter-isolates}
use Rattle.bx_editor_laws.proofs.asking_laws.letter_isolates.Goals as goal

pub returns : goal.returns
returns c = letter-isolates
