use Rattle.bx_editor_laws.proofs.PointErased.{erase-point-leaves-beginning}
use Rattle.bx_editor_laws.proofs.work_laws.erase_point_leaves_beginning.Goals as goal

pub returns : goal.returns
returns c = erase-point-leaves-beginning
