use Rattle.bx_world.proofs.Runs.{runs_are_plays}
use Rattle.bx_world.proofs.laws.runs_are_plays.Goals as goal

pub returns : goal.returns
returns c = runs_are_plays
