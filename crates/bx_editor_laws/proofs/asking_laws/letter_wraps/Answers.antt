use Rattle.bx_editor_laws.proofs.LettersPut.{letter-wraps}
use Rattle.bx_editor_laws.proofs.asking_laws.letter_wraps.Goals as goal

pub returns : goal.returns
returns c = letter-wraps
