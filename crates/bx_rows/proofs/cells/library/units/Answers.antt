use Rattle.std.proofs.lemmas.Str.{IsCharBoundary-start}
use Rattle.bx_rows.proofs.cells.library.units.Goals as goal

pub units_from-requires : goal.units_from-requires
units_from-requires g c = IsCharBoundary-start c.args.body.now c.utf8.body
