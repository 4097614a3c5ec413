use Rattle.bx_editor_laws.proofs.MessageWords.{words-tell-messages}
use Rattle.bx_editor_laws.proofs.refusal_laws.words_tell_messages.Goals as goal

pub returns : goal.returns
returns c = words-tell-messages
