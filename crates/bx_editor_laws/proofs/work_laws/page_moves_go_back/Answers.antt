use Rattle.bx_editor_laws.proofs.ThereAndBack.{page-moves-go-back}
use Rattle.bx_editor_laws.proofs.work_laws.page_moves_go_back.Goals as goal

pub returns : goal.returns
returns c = page-moves-go-back
