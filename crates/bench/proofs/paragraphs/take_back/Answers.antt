use Rattle.std.proofs.Common.{◌≡◌, ap, arith}
use Rattle.bx_text.specs.declared.change.Change.{Change}
use Rattle.bx_text.proofs.index_lemmas.Followed.{room_for_bytes}
use Rattle.bench.proofs.paragraphs.take_back.Goals as goal

pub edited-requires-clause-room : goal.edited-requires-clause-room
edited-requires-clause-room g c =
    let same : c.in-Some-2.change ≡ c.in-Some.next = cc (c.in_ok-change.ensures.change, c.next_undo.ensures) in
    let is_change = rw c.in-Some-2.is at c.in_ok-change.ensures.is_change in
    room_for_bytes (g.D.BidiData.data c.args.tables.now) c.ready.new.self.edited.text c.in-Some-2.change c.undo.new.self.edited.text c.len-utf8.ensures.utf8
    c.len-still.ensures.utf8
    is_change c.ready-2.new.self.room c.in-Some.next.added c.in_ok-ready-2.ensures.ok (omega (arith, ap (λ (x : Change). x.added) same))
