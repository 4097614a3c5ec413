use Rattle.std.proofs.Common.{length, ap, arith}
use Rattle.bx_text.specs.declared.change.Change.{Change}
use Rattle.bx_text.proofs.index_lemmas.Followed.{room_for_bytes}
use Rattle.bench.proofs.paragraphs.edit.Goals as goal

pub edited-requires-clause-room : goal.edited-requires-clause-room
edited-requires-clause-room g c =
    room_for_bytes (g.D.BidiData.data c.args.tables.now) c.args.text.now.edited.text c.in_ok-put.put c.insert.new.self.edited.text c.len-len.ensures.utf8
    c.len-still.ensures.utf8
    c.in_ok-put.ensures.is_change c.ready.new.self.room 1 c.in_ok-ready.ensures.ok (omega (arith, ap (λ (x : Change). x.added) c.in_ok-put.ensures.change))
