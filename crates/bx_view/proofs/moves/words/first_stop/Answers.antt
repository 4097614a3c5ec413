use Rattle.std.proofs.lemmas.Str.{IsCharBoundary-start}
use Rattle.bx_view.proofs.moves.words.first_stop.Goals as goal

pub first_start-requires : goal.first_start-requires
first_start-requires g c = IsCharBoundary-start c.body-body.result.now c.body-body.utf8
