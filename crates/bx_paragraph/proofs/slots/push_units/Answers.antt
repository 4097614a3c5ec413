use Rattle.std.proofs.Common.{get_or, ◌<◌, length}
use Rattle.bx_paragraph.specs.Slots.{extent_of}
use Rattle.bx_paragraph.proofs.RowSlots.{extent-is, room-more, side-more}
use Rattle.bx_paragraph.proofs.slots.push_units.Goals as goal

pub loop-number-preserved : goal.loop-number-preserved
loop-number-preserved c =
    let k = get_or c.args.order.now c.loop-number.number-index 0 in
    let within : k < length c.args.units.now = c.requires.order c.loop-number.number-index 0 c.loop-number-test.true in
    record {
      all = side-more (extent_of c.args.units.now c.args.columns.now) c.args.order.now c.loop-number.number-index c.loop-number.column _ _ _ _ _
          c.loop-number-test.true (extent-is c.args.units.now c.args.columns.now k _ within c.requires.counts) c.loop-number.invariant.all
          c.in_ok-push.ensures.items;
      room = room-more c.args.columns.now c.args.order.now c.loop-number.number-index c.loop-number.column c.loop-number-test.true c.loop-number.invariant.room;
    }
