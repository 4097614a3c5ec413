-- The answer of a step, and the world's flag `told` after it, from the session's answer.
use Rattle.std.specs.Prelude.{Bool, Result, Ok, Err}
use Rattle.bx_session.specs.declared.status.Refused.{Refused}
use Rattle.bx_session.specs.declared.status.Refused.TheVariants as refused
use Rattle.bx_world.specs.declared.step.StepFault.{StepFault}
use Rattle.bx_world.specs.declared.step.StepFault.TheVariants as faults

-- the answer of a step, from the session's answer to its call
abbrev pub answer_of : {A : Type 0} → Result A Refused → Result (Unit {0}) StepFault
answer_of (Ok _) = Ok tt
answer_of (Err fault) = Err (faults.Session fault)

-- the flag `told` after a call, which is `before` before it and `after` if the call is accepted: a refused call leaves it
-- unchanged, unless only its painting was refused
abbrev pub mark_after : {A : Type 0} → Bool → Bool → Result A Refused → Bool
mark_after before after (Ok _) = after
mark_after before after (Err refused.Paint) = after
mark_after before after (Err refused.Edit) = before
mark_after before after (Err refused.Size) = before
