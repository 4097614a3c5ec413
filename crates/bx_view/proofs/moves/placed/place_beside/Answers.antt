use Rattle.bx_view.proofs.PlacedRows.{beside_placed}
use Rattle.bx_view.proofs.moves.placed.place_beside.Goals as goal

pub place_of-requires : goal.place_of-requires
place_of-requires g c = beside_placed c.args.row.now c.args.side _ c.in_ok-offset.offset c.in_ok-offset.ensures
