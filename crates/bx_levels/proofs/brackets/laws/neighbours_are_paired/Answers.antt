use Rattle.bx_levels.proofs.brackets_lemmas.Neighbours as found
use Rattle.bx_levels.proofs.brackets.laws.neighbours_are_paired.Goals as goal

pub returns : goal.returns
returns c = found.neighbours_are_paired
