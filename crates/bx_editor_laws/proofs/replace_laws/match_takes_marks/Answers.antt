use Rattle.bx_editor_laws.proofs.MarksTaken.{match-takes-marks}
use Rattle.bx_editor_laws.proofs.replace_laws.match_takes_marks.Goals as goal

pub returns : goal.returns
returns c = match-takes-marks
