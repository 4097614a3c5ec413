use Rattle.std.proofs.Common.{◌≡◌, ◌∙◌, ℕ, ◌+◌, None, Some, ap, ap₂, sym, min}
use Rattle.bx_ucd.specs.Data.{Data}
use Rattle.bx_editor.specs.Editor.{Editor, cleared, text_height}
use Rattle.bx_editor.specs.Functions.{EditorState}
use Rattle.bx_editor.specs.Pointing.{dragged_to, part_at, pointed_place}
use Rattle.bx_editor.proofs.FirstPress.{drag-cleared}
use Rattle.bx_editor.proofs.editor.Editor.drag.Goals as goal

pub returns-clause-ok : goal.returns-clause-ok
returns-clause-ok g c =
    let now : EditorState g.row.D.Denot = c.args.self.now in
    let d : Data = g.D.BidiData.data now.tables in
    let pressed = c.in-Some.pressed in
    let is : now.editor.pressed ≡ Some pressed = sym (ap (λ (s : EditorState g.row.D.Denot). s.editor.pressed) c.self.view_is) ∙ c.in-Some.is in
    let height : c.self.inside.height ≡ now.editor.height = ap (λ (s : EditorState g.row.D.Denot). s.editor.height) c.self.view_is in
    let row : c.min-row.result ≡ min c.args.row (text_height now.editor.height + 1) =
    c.min-row.ensures ∙ ap (λ n. min c.args.row (n + 1)) (c.text_height.ensures.rows ∙ ap text_height height) in
    let there : c.in_ok-place.place ≡ pointed_place d now.editor (min c.args.row (text_height now.editor.height + 1)) c.args.column =
    c.in_ok-place.ensures.place ∙ ap (λ r. pointed_place d now.editor r c.args.column) row in
    let same = c.in_ok-place.ensures.same in
    let start : c.in_ok-part.part.start ≡ (part_at d now.editor pressed.extent c.in_ok-place.place).0 =
    c.in_ok-part.ensures.start ∙ ap (λ (s : EditorState g.row.D.Denot). (part_at (g.D.BidiData.data s.tables) s.editor pressed.extent c.in_ok-place.place).0) same in
    let stop : c.in_ok-part.part.stop ≡ (part_at d now.editor pressed.extent c.in_ok-place.place).1 =
    c.in_ok-part.ensures.stop ∙ ap (λ (s : EditorState g.row.D.Denot). (part_at (g.D.BidiData.data s.tables) s.editor pressed.extent c.in_ok-place.place).1) same in
    let part : ℕ × ℕ = (c.in_ok-part.part.start, c.in_ok-part.part.stop) in
    let with : Editor → EditorState g.row.D.Denot = λ e. record { tables = now.tables; editor = e } in
    let left : EditorState g.row.D.Denot → EditorState g.row.D.Denot = λ s. record s { editor = cleared (record s.editor { clicks = None }) } in
    c.reset_after_key.ensures
    ∙ ap left (c.self-2.view_is ∙ c.drag_to.ensures)
    ∙ ap (λ (s : EditorState g.row.D.Denot). left (record s { editor = dragged_to s.editor pressed part })) (c.in_ok-part.ensures.same ∙ same)
    ∙ ap with
    (drag-cleared d now.editor c.args.row c.args.column pressed c.in_ok-place.place part is there (ap₂ (λ (a b : ℕ). (a, b)) start stop))
