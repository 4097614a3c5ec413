use Rattle.std.proofs.Common.{◌≡◌, ◌≤◌, ◌∙◌, ℕ, true, ap, ap₂, arith, nat_le}
use Rattle.std.proofs.lemmas.Bool.{le-leb}
use Rattle.bx_ucd.specs.Data.{Data}
use Rattle.bx_editor.specs.Editor.{Editor, cleared, text_height}
use Rattle.bx_editor.specs.Functions.{EditorState}
use Rattle.bx_editor.specs.Pointing.{press_extent, pressed_at}
use Rattle.bx_editor.proofs.FirstPress.{point-cleared}
use Rattle.bx_editor.proofs.editor.Editor.point.Goals as goal

pub returns-clause-ok : goal.returns-clause-ok
returns-clause-ok g c =
    let now : EditorState g.row.D.Denot = c.args.self.now in
    let height : c.self.inside.height ≡ now.editor.height = ap (λ (s : EditorState g.row.D.Denot). s.editor.height) c.self.view_is in
    let count : c.text_height.result ≡ text_height now.editor.height = c.text_height.ensures.rows ∙ ap text_height height in
    let shown : nat_le c.args.row (text_height now.editor.height) ≡ true =
    le-leb c.args.row (text_height now.editor.height) (omega (arith, c.if-row-text_height.false, count)) in
    let d : Data = g.D.BidiData.data now.tables in
    let row = c.args.row in
    let column = c.args.column in
    let extent : c.press_extent-extent.result ≡ press_extent now.editor.clicks row column =
    c.press_extent-extent.ensures
    ∙ ap (λ (s : EditorState g.row.D.Denot). press_extent s.editor.clicks row column) (c.self-2.view_is ∙ c.in_ok-place.ensures.same) in
    let with : Editor → EditorState g.row.D.Denot = λ e. record { tables = now.tables; editor = e } in
    c.reset_after_key-2.ensures
    ∙ ap (λ (s : EditorState g.row.D.Denot). (let t : EditorState g.row.D.Denot = record s { editor = cleared s.editor } in t)) c.in_ok-press_at.ensures.ok
    ∙ ap (λ (s : EditorState g.row.D.Denot). (let t : EditorState g.row.D.Denot = record s {
      editor = cleared (pressed_at (g.D.BidiData.data s.tables) s.editor row column c.in_ok-place.place c.press_extent-extent.result);
    } in t)) c.in_ok-place.ensures.same
    ∙ ap₂ (λ p x. with (cleared (pressed_at d now.editor row column p x))) c.in_ok-place.ensures.place extent
    ∙ ap with (point-cleared d now.editor row column shown)
