use Rattle.bx_editor_laws.proofs.PagesBack.{pages-go-back}
use Rattle.bx_editor_laws.proofs.scroll_laws.pages_go_back.Goals as goal

pub returns : goal.returns
returns c = pages-go-back
