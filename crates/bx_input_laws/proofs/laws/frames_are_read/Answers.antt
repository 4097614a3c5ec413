use Rattle.bx_input_laws.proofs.ReadMachine as proved
use Rattle.bx_input_laws.proofs.laws.frames_are_read.Goals as goal

pub returns : goal.returns
returns c = proved.frames_are_read
