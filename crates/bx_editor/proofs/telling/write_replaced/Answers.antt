use Rattle.std.proofs.Common.{[]}
use Rattle.bx_editor.proofs.StatusRow.{replaced-printable}
use Rattle.bx_editor.proofs.telling.write_replaced.Goals as goal

pub returns-clause-printable : goal.returns-clause-printable
returns-clause-printable c = replaced-printable [] c.args.count c.ranges.count.fits
