use Rattle.bx_world.proofs.Schedules.{will_show}
use Rattle.bx_world.proofs.world.World.step.Goals as goal

pub returns-clause-shows : goal.returns-clause-shows
returns-clause-shows g c = will_show _ c.answer-answer.new.self.world c.keep_up.ensures.in_step

pub returns-clause-whole : goal.returns-clause-whole
returns-clause-whole g c = c.keep_up.ensures.in_step.whole
