use Rattle.bx_editor_laws.proofs.ThereAndBack.{kept-moves-go-back}
use Rattle.bx_editor_laws.proofs.work_laws.kept_moves_go_back.Goals as goal

pub returns : goal.returns
returns c = kept-moves-go-back
