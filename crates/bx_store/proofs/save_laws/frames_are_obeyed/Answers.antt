-- The lemma says it.
use Rattle.bx_store.proofs.FramesRead.{frames_obeyed}
use Rattle.bx_store.proofs.save_laws.frames_are_obeyed.Goals as goal

pub returns : goal.returns
returns c = frames_obeyed
