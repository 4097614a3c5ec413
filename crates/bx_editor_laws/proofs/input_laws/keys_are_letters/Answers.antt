use Rattle.bx_editor_laws.proofs.KeyLetters.{keys-are-letters}
use Rattle.bx_editor_laws.proofs.input_laws.keys_are_letters.Goals as goal

pub returns : goal.returns
returns c = keys-are-letters
