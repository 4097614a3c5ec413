use Rattle.bx_rows.proofs.joining_lemmas.LawForms.{by_joining}
use Rattle.bx_rows.proofs.joining.laws.forms_go_by_joining.Goals as goal

pub returns : goal.returns
returns c = by_joining
