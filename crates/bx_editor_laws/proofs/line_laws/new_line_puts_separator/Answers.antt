use Rattle.bx_editor_laws.proofs.LineBegun.{new-line-puts-separator}
use Rattle.bx_editor_laws.proofs.line_laws.new_line_puts_separator.Goals as goal

pub returns : goal.returns
returns c = new-line-puts-separator
