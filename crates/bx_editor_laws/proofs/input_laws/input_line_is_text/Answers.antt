use Rattle.bx_editor_laws.proofs.LineAsText.{input-line-is-text}
use Rattle.bx_editor_laws.proofs.input_laws.input_line_is_text.Goals as goal

pub returns : goal.returns
returns c = input-line-is-text
