use Rattle.bx_editor_laws.proofs.MatchReplaced.{same-letters-stay}
use Rattle.bx_editor_laws.proofs.replace_laws.same_letters_stay.Goals as goal

pub returns : goal.returns
returns c = same-letters-stay
