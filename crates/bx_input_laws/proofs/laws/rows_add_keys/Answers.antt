use Rattle.bx_input_laws.proofs.RowKeys as proved
use Rattle.bx_input_laws.proofs.laws.rows_add_keys.Goals as goal

pub returns : goal.returns
returns c = proved.rows_add_keys
