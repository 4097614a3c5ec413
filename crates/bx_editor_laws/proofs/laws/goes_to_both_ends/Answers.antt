use Rattle.bx_editor_laws.proofs.MarkTwice.{goes-to-both-ends}
use Rattle.bx_editor_laws.proofs.laws.goes_to_both_ends.Goals as goal

pub returns : goal.returns
returns c = goes-to-both-ends
