-- The law of each text.
use Rattle.bx_levels.proofs.resolve_lemmas.EachOnce.{each_once}
use Rattle.bx_levels.proofs.resolve.laws.each_in_one_sequence.Goals as goal

pub returns : goal.returns
returns c = each_once
