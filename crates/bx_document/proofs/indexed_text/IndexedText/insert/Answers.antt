use Rattle.std.proofs.Common.{◌≡◌, ◌≤◌, ap, subst, length, arith}
use Rattle.bx_text.specs.Edits.{splice}
use Rattle.bx_text.proofs.index_lemmas.Followed.{room_for_put}
use Rattle.bx_document.proofs.indexed_text.IndexedText.insert.Goals as goal

-- the text that is put in is all that is added
pub edited-requires-clause-room : goal.edited-requires-clause-room
edited-requires-clause-room g c =
    let change = c.in-Ok.ensures.change in
    let start : c.in-Ok.change.start ≡ c.args.at = ap (λ x. x.start) change in
    let added : c.in-Ok.change.added ≡ length c.args.new.now = ap (λ x. x.added) change in
    let text : c.insert.new.self.edited.text ≡ splice c.self.inside.text.edited.text c.args.at c.args.at c.args.new.now =
    ap (λ t. t.edited.text) c.in-Ok.ensures.ok in
    let within : c.args.at ≤ length c.self.inside.text.edited.text =
    subst (λ n. n ≤ length c.self.inside.text.edited.text) start c.in-Ok.ensures.is_change.old_range.start_bounds.0 in
    rw added (rw start (rw text (room_for_put (g.D.BidiData.data c.self.inside.tables) c.self.inside.text.edited.text c.args.new.now c.args.at within
    c.ready.new.self.room c.separating.result c.in_ok-ready.ensures.ok (omega (arith, c.separating.ensures)))))
