use Rattle.bx_editor_laws.proofs.MarkTwice.{mark-twice-is-nothing}
use Rattle.bx_editor_laws.proofs.laws.mark_twice_is_nothing.Goals as goal

pub returns : goal.returns
returns c = mark-twice-is-nothing
