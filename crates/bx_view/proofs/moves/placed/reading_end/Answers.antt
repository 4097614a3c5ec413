use Rattle.bx_view.proofs.PlacedRows.{end_placed}
use Rattle.bx_view.proofs.moves.placed.reading_end.Goals as goal

pub place_of-requires : goal.place_of-requires
place_of-requires g c = end_placed c.args.row.now c.in_ok-offset.offset c.in_ok-offset.ensures
