use Rattle.bx_view.proofs.TextPlaces.{place-between}
use Rattle.bx_editor.proofs.matches.backward.Goals as goal

pub from_end-requires-clause-bounds : goal.from_end-requires-clause-bounds
from_end-requires-clause-bounds g c =
    place-between (g.D.BidiData.data c.args.document.now.tables) c.args.document.now.document.content.text
    c.args.place c.query.ensures.utf8 c.requires.text_place
