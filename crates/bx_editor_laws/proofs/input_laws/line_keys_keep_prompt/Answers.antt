use Rattle.bx_editor_laws.proofs.PromptKept.{line-keys-keep-prompt}
use Rattle.bx_editor_laws.proofs.input_laws.line_keys_keep_prompt.Goals as goal

pub returns : goal.returns
returns c = line-keys-keep-prompt
