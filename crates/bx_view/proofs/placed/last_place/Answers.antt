use Rattle.std.proofs.Common.{◌+◌, ◌<◌, ◌^◌, arith}
use Rattle.bx_view.proofs.PlacedRows.{last_placed}
use Rattle.bx_view.proofs.placed.last_place.Goals as goal

pub overflow_add-result : goal.overflow_add-result
overflow_add-result g c =
    let fits : c.args.row.now.start + c.in_ok-offset.offset < 2 ^ 64 = last_placed c.args.row.now c.in_ok-offset.offset c.in_ok-offset.ensures in
    omega (arith, fits)
