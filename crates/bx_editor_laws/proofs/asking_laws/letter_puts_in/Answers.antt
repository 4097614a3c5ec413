use Rattle.bx_editor_laws.proofs.LettersPut.{letter-puts-in}
use Rattle.bx_editor_laws.proofs.asking_laws.letter_puts_in.Goals as goal

pub returns : goal.returns
returns c = letter-puts-in
