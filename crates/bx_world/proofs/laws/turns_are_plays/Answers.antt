use Rattle.bx_world.proofs.Runs.{turns_are_plays}
use Rattle.bx_world.proofs.laws.turns_are_plays.Goals as goal

pub returns : goal.returns
returns c = turns_are_plays
