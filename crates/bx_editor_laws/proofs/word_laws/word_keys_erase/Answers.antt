use Rattle.bx_editor_laws.proofs.WordErased.{word-keys-erase}
use Rattle.bx_editor_laws.proofs.word_laws.word_keys_erase.Goals as goal

pub returns : goal.returns
returns c = word-keys-erase
