use Rattle.bx_input_laws.proofs.ReportKeys as proved
use Rattle.bx_input_laws.proofs.laws.reports_add_keys.Goals as goal

pub returns : goal.returns
returns c = proved.reports_add_keys
