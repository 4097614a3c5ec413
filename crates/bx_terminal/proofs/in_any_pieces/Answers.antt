use Rattle.bx_grid.proofs.Reading.{reads-append}
use Rattle.bx_terminal.proofs.in_any_pieces.Goals as goal

pub returns : goal.returns
returns c = reads-append
