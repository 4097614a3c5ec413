use Rattle.bx_view.proofs.PlacedRows.{entry_placed}
use Rattle.bx_view.proofs.moves.placed.entry.Goals as goal

pub place_of-requires : goal.place_of-requires
place_of-requires g c = entry_placed c.args.row.now c.args.column c.in_ok-offset.offset c.in_ok-offset.ensures
