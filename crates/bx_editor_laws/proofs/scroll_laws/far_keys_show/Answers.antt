use Rattle.bx_editor_laws.proofs.FarShown.{far-keys-show}
use Rattle.bx_editor_laws.proofs.scroll_laws.far_keys_show.Goals as goal

pub returns : goal.returns
returns c = far-keys-show
