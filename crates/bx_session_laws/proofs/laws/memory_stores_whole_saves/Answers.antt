use Rattle.bx_session_laws.proofs.WholeSaves.{memory-stores-whole-saves}
use Rattle.bx_session_laws.proofs.laws.memory_stores_whole_saves.Goals as goal

pub returns : goal.returns
returns c = memory-stores-whole-saves
