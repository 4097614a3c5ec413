use Rattle.bx_editor_laws.proofs.PutBack.{put-restores-cut}
use Rattle.bx_editor_laws.proofs.laws.put_restores_cut.Goals as goal

pub returns : goal.returns
returns c = put-restores-cut
