use Rattle.bx_editor_laws.proofs.ColumnKept.{column-is-kept}
use Rattle.bx_editor_laws.proofs.work_laws.column_is_kept.Goals as goal

pub returns : goal.returns
returns c = column-is-kept
