use Rattle.bx_editor_laws.proofs.RunKeys.{run-keys-are-steps}
use Rattle.bx_editor_laws.proofs.run_laws.run_keys_are_steps.Goals as goal

pub returns : goal.returns
returns c = run-keys-are-steps
