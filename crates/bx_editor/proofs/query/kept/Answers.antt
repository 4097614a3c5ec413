use Rattle.std.proofs.Common.{[], refl}
use Rattle.bx_editor.proofs.Begin.{few-at-start}
use Rattle.bx_editor.proofs.query.kept.Goals as goal

pub returns-in-Begun-clause-few : goal.returns-in-Begun-clause-few
returns-in-Begun-clause-few c = few-at-start [] refl
