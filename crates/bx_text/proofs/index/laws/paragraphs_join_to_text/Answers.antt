use Rattle.bx_text.proofs.index_lemmas.Bodies.{end_with_separators, join_to_text, keep_each_cr_lf}
use Rattle.bx_text.proofs.index.laws.paragraphs_join_to_text.Goals as goal

pub returns-clause-joined : goal.returns-clause-joined
returns-clause-joined c = join_to_text

pub returns-clause-separators : goal.returns-clause-separators
returns-clause-separators c = end_with_separators

pub returns-clause-cr_lf : goal.returns-clause-cr_lf
returns-clause-cr_lf c = keep_each_cr_lf
