use Rattle.bx_editor_laws.proofs.ShownStands.{shown-stands}
use Rattle.bx_editor_laws.proofs.replace_laws.shown_stands.Goals as goal

pub returns : goal.returns
returns c = shown-stands
