use Rattle.bx_editor_laws.proofs.ThereAndBack.{line-moves-go-back}
use Rattle.bx_editor_laws.proofs.work_laws.line_moves_go_back.Goals as goal

pub returns : goal.returns
returns c = line-moves-go-back
