use Rattle.bx_levels.proofs.embedding_lemmas.States.{always_has_room, states_give_levels}
use Rattle.bx_levels.proofs.embedding.laws.stack_has_room.Goals as goal

pub returns-clause-room : goal.returns-clause-room
returns-clause-room c = always_has_room

pub returns-clause-levels : goal.returns-clause-levels
returns-clause-levels c = states_give_levels
