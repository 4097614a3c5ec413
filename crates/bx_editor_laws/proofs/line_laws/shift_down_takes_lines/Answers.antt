use Rattle.bx_editor_laws.proofs.TakenLines.{shift-down-takes-lines}
use Rattle.bx_editor_laws.proofs.line_laws.shift_down_takes_lines.Goals as goal

pub returns : goal.returns
returns c = shift-down-takes-lines
