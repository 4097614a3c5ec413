use Rattle.std.proofs.Common.{◌∙◌}
use Rattle.bx_find.specs.Letters.{letters}
use Rattle.bx_editor.proofs.Sought.{some-query}
use Rattle.bx_editor.proofs.matches.has_letters.Goals as goal

pub returns : goal.returns
returns g c = c.is_some.ensures ∙ some-query c.query.result _ c.query.ensures.none
