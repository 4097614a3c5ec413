use Rattle.bx_levels.proofs.brackets_lemmas.Stack.{all_found}
use Rattle.bx_levels.proofs.brackets.search.PairSearch.begin.Goals as goal

pub returns-clause-pairs : goal.returns-clause-pairs
returns-clause-pairs c = λ ucd cs ts. rw (c.clear.ensures, c.clear-2.ensures.items) (all_found ucd cs ts)
