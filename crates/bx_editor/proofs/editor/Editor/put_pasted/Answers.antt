use Rattle.std.proofs.Common.{rules, ◌≡◌, Bool, false, length, ap, ◌∙◌}
use Rattle.std.specs.Prelude.{◌==◌}
use Rattle.bx_ucd.specs.Data.{Data}
use Rattle.bx_editor.specs.Editor.{Editor, cleared}
use Rattle.bx_editor.specs.Functions.{EditorState}
use Rattle.bx_editor.specs.Putting.{put_in}
use Rattle.bx_editor.proofs.Pasted.{pasted-in, settled}
use Rattle.bx_editor.proofs.editor.Editor.put_pasted.Goals as goal

pub returns-clause-ok : goal.returns-clause-ok
returns-clause-ok g c =
    let now : EditorState g.row.D.Denot = c.args.self.now in
    let d : Data = g.D.BidiData.data now.tables in
    let e : Editor = now.editor in
    let settle : Bool → EditorState g.row.D.Denot → EditorState g.row.D.Denot = λ again s. record s { editor = settled again s.editor } in
    let put : EditorState g.row.D.Denot = record now { editor = put_in d (cleared e) c.args.list.now false } in
    let some : (length c.args.list.now == 0) ≡ false = search rules in
    ap (settle c.self.inside.quit_before) (c.self-2.view_is ∙ c.in_ok-put_in.ensures.ok)
    ∙ ap (λ (s : EditorState g.row.D.Denot). settle s.editor.quit_before put) c.self.view_is
    ∙ ap (λ (x : Editor). (let s : EditorState g.row.D.Denot = record now { editor = x } in s)) (pasted-in d e c.args.list.now some)
