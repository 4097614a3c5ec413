use Rattle.std.proofs.Common.{◌≡◌, ◌+◌, ◌-◌, ◌∙◌, length, ap, arith, subst, sym}
use Rattle.std.specs.Prelude.{Some, None}
use Rattle.bx_text.specs.Edits.{splice}
use Rattle.bx_view.specs.Moves.{place_at}
use Rattle.bx_editor.specs.Editor.{rows_of}
use Rattle.bx_editor.specs.Functions.{EditorState}
use Rattle.bx_editor.specs.Search.{reading, sought}
use Rattle.bx_editor.proofs.NextShown.{placed-behind}
use Rattle.bx_editor.proofs.ShownMatch.{first-is}
use Rattle.bx_editor.proofs.editor.Editor.next_behind.Goals as goal

pub returns-in_default-clause-next : goal.returns-in_default-clause-next
returns-in_default-clause-next g c =
    let now : EditorState g.row.D.Denot = c.args.self.now in
    let utf8 = c.next_match.ensures.utf8 in
    sym (placed-behind (g.D.BidiData.data now.tables) now.editor c.args.stop c.args.new.now None utf8 c.utf8.new c.requires.range
    (sym c.in_default.is ∙ c.next_match.ensures.next))

pub place_behind-requires-clause-behind : goal.place_behind-requires-clause-behind
place_behind-requires-clause-behind g c =
    let now : EditorState g.row.D.Denot = c.args.self.now in
    let d = g.D.BidiData.data now.tables in
    let utf8 = c.next_match.ensures.utf8 in
    (first-is d (reading now.editor.purpose) (sought d now.editor) now.editor.content.text utf8 c.args.stop c.in-Some.offset
    (sym c.in-Some.is ∙ c.next_match.ensures.next)).not_before

pub overflow_sub-result : goal.overflow_sub-result
overflow_sub-result g c =
    let now : EditorState g.row.D.Denot = c.args.self.now in
    let d = g.D.BidiData.data now.tables in
    let utf8 = c.next_match.ensures.utf8 in
    (first-is d (reading now.editor.purpose) (sought d now.editor) now.editor.content.text utf8 c.args.stop c.in-Some.offset
    (sym c.in-Some.is ∙ c.next_match.ensures.next)).not_before

pub returns-clause-next : goal.returns-clause-next
returns-clause-next g c =
    let now : EditorState g.row.D.Denot = c.args.self.now in
    let d = g.D.BidiData.data now.tables in
    let e = now.editor in
    let new = c.args.new.now in
    let stop = c.args.stop in
    let offset = c.in-Some.offset in
    let text = splice e.content.text e.at stop new in
    let n = offset - stop + c.self.inside.at + length new in
    let utf8 = c.next_match.ensures.utf8 in
    let at : c.self.inside.at ≡ e.at = ap (λ (s : EditorState g.row.D.Denot). s.editor.at) c.self.view_is in
    let moved : n ≡ offset - stop + (e.at + length new) = omega (arith, at) in
    let place : c.in_ok-place.place ≡ place_at (rows_of d e text) n =
    subst (λ (s : EditorState g.row.D.Denot). c.in_ok-place.place
    ≡ place_at (rows_of (g.D.BidiData.data s.tables) s.editor (splice s.editor.content.text s.editor.at stop new)) n) c.self.view_is
    c.in_ok-place.ensures.place in
    ap (λ p. Some (n, p)) place ∙ ap (λ k. Some (k, place_at (rows_of d e text) k)) moved
    ∙ sym (placed-behind d e stop new (Some offset) utf8 c.utf8.new c.requires.range (sym c.in-Some.is ∙ c.next_match.ensures.next))
