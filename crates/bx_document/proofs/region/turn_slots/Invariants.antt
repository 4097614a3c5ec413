use Rattle.bx_document.proofs.TurnedSlots.{AreTurned}
use Rattle.bx_document.proofs.region.turn_slots.Given as goal

abbrev pub invariant-loop-slot : goal.invariant-loop-slot
invariant-loop-slot l = AreTurned l.fn.grid l.row l.slots l.slot-index l.grid
