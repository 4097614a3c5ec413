use Rattle.bx_keys.proofs.Cuts.{in_pieces}
use Rattle.bx_keys.proofs.laws.in_any_pieces.Goals as goal

pub returns : goal.returns
returns c = in_pieces
