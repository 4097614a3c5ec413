use Rattle.bx_view.proofs.PlacedRows.{start_placed}
use Rattle.bx_view.proofs.moves.placed.reading_start.Goals as goal

pub place_of-requires : goal.place_of-requires
place_of-requires g c = start_placed c.args.row.now c.in_ok-offset.offset c.in_ok-offset.ensures
