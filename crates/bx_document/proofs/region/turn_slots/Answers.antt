use Rattle.std.proofs.Common.{get_or}
use Rattle.std.proofs.lemmas.List.{get_or_default}
use Rattle.bx_paragraph.specs.declared.slots.Slot.{Slot}
use Rattle.bx_document.proofs.TurnedSlots.{next-turned, none-turned}
use Rattle.bx_document.proofs.region.turn_slots.Goals as goal

abbrev no-slot : Slot
no-slot = record { offset = 0; column = 0; columns = 0 }

pub loop-slot-init : goal.loop-slot-init
loop-slot-init c = none-turned c.args.grid.now c.args.row c.args.slots.now c.requires.spans

pub loop-slot-preserved : goal.loop-slot-preserved
loop-slot-preserved c =
    next-turned c.args.grid.now c.args.row c.requires.inside c.args.slots.now c.loop-slot.slot-index
    c.loop-slot.grid c.loop-slot.invariant c.turn.ensures.sized (get_or c.args.slots.now c.loop-slot.slot-index no-slot) c.turn.new.self c.loop-slot-test.true
    (get_or_default c.args.slots.now c.loop-slot.slot-index no-slot (get_or c.args.slots.now c.loop-slot.slot-index no-slot) c.loop-slot-test.true) c.turn.ensures.turned
