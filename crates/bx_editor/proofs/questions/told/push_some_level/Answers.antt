use Rattle.std.proofs.Common.{Some}
use Rattle.bx_editor.proofs.questions_lemmas.Printable.{level-printable}
use Rattle.bx_editor.proofs.questions.told.push_some_level.Goals as goal

pub returns-clause-printable : goal.returns-clause-printable
returns-clause-printable c = level-printable (Some c.args.level) c.ranges.level.fits
