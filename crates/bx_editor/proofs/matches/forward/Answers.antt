use Rattle.bx_view.proofs.TextPlaces.{place-between}
use Rattle.bx_editor.proofs.matches.forward.Goals as goal

pub first_from-requires : goal.first_from-requires
first_from-requires g c = record {
  bounds =
      place-between (g.D.BidiData.data c.args.document.now.tables) c.args.document.now.document.content.text
      c.args.place c.query.ensures.utf8 c.requires.text_place;
}

pub from_start-requires-clause-bounds : goal.from_start-requires-clause-bounds
from_start-requires-clause-bounds g c =
    place-between (g.D.BidiData.data c.args.document.now.tables) c.args.document.now.document.content.text
    c.args.place c.query.ensures.utf8 c.requires.text_place
