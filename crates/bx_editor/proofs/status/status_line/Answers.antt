use Rattle.std.proofs.Common.{◌∙◌, ap}
use Rattle.bx_common.specs.Characters.{are_ascii_printable}
use Rattle.bx_editor.proofs.StatusRow.{status-printable}
use Rattle.bx_editor.proofs.status.status_line.Goals as goal

pub returns-clause-printable : goal.returns-clause-printable
returns-clause-printable c =
    ap are_ascii_printable c.in_ok-line.ensures
    ∙ status-printable c.args.changed c.args.paragraph c.args.unit c.ranges.paragraph.fits c.ranges.unit.fits
