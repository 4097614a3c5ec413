use Rattle.bx_editor_laws.proofs.ToldLine.{told-numbers-lead-back}
use Rattle.bx_editor_laws.proofs.asking_laws.told_numbers_lead_back.Goals as goal

pub returns : goal.returns
returns c = told-numbers-lead-back
