use Rattle.bx_levels.proofs.brackets_lemmas.Nested as nested
use Rattle.bx_levels.proofs.brackets.laws.pairs_are_nested.Goals as goal

pub returns : goal.returns
returns c = nested.pairs_are_nested
