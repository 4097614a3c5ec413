use Rattle.bx_text.proofs.index_lemmas.Bodies.{bodies_have_none, match_spans}
use Rattle.bx_text.proofs.index.laws.bodies_match_spans.Goals as goal

pub returns-clause-spans : goal.returns-clause-spans
returns-clause-spans c = match_spans

pub returns-clause-none_inside : goal.returns-clause-none_inside
returns-clause-none_inside c = bodies_have_none
