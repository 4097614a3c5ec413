use Rattle.std.proofs.Common.{arith}
use Rattle.bx_text.proofs.index_lemmas.Followed.{room_for_bytes}
use Rattle.session_tests.proofs.counts.follow.Goals as goal

pub edited-requires-clause-room : goal.edited-requires-clause-room
edited-requires-clause-room g c =
    let (old, utf8, same, leads) = c.requires.was in
    room_for_bytes (g.D.BidiData.data c.args.tables.now) old c.args.change.now c.args.text.now.edited.text utf8 c.len-utf8.ensures.utf8 leads
    c.args.index.now.room c.args.change.now.added c.requires.room (omega arith)
