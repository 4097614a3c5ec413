-- The lemma says it.
use Rattle.bx_store.proofs.FramesRead.{text_carried}
use Rattle.bx_store.proofs.save_laws.saves_carry_the_text.Goals as goal

pub returns : goal.returns
returns c = text_carried
