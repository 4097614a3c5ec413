use Rattle.bx_editor_laws.proofs.MessageWords.{words-tell-causes}
use Rattle.bx_editor_laws.proofs.refusal_laws.words_tell_causes.Goals as goal

pub returns : goal.returns
returns c = words-tell-causes
