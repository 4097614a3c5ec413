use Rattle.bx_world.proofs.Runs.{headline_of_runs}
use Rattle.bx_world.proofs.laws.runs_keep_headline.Goals as goal

pub returns : goal.returns
returns c = headline_of_runs
