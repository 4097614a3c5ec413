use Rattle.bx_input_laws.proofs.ReportKeys as proved
use Rattle.bx_input_laws.proofs.laws.sizes_add_keys.Goals as goal

pub returns : goal.returns
returns c = proved.sizes_add_keys
