use Rattle.bx_world.proofs.Runs.{headline_in_changing_windows}
use Rattle.bx_world.proofs.laws.windows_keep_headline.Goals as goal

pub returns : goal.returns
returns c = headline_in_changing_windows
