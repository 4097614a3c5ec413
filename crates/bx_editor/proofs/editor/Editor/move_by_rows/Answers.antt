use Rattle.std.proofs.Common.{◌∙◌, ap, Some}
use Rattle.bx_view.specs.declared.moves.Goal.{Goal}
use Rattle.bx_view.specs.Moved.{moved}
use Rattle.bx_view.specs.declared.moves.Move.TheVariants.{RowsIn}
use Rattle.bx_editor.specs.Editor.{cleared, rows, with_place}
use Rattle.bx_editor.specs.Functions.{EditorState}
use Rattle.bx_editor.specs.Region.{unselected}
use Rattle.bx_editor.proofs.editor.Editor.move_by_rows.Goals as goal

pub returns-clause-ok : goal.returns-clause-ok
returns-clause-ok g c =
    let now : EditorState g.row.D.Denot = c.args.self.now in
    let to = c.in_ok-goal.goal in
    let kept : EditorState g.row.D.Denot → EditorState g.row.D.Denot = λ s. record s { editor = record s.editor { goal = Some to } } in
    let by : Goal → EditorState g.row.D.Denot → EditorState g.row.D.Denot = λ k s. record s {
      editor = record (with_place (unselected (cleared s.editor))
          (moved (g.D.BidiData.data s.tables) s.editor.content.text s.editor.width (rows (g.D.BidiData.data s.tables) s.editor) (RowsIn c.args.way c.args.n k) s.editor.place)) {
            goal = Some k;
          };
    } in
    ap kept c.self.view_is
    ∙ ap kept c.in_ok-moved.ensures.ok
    ∙ ap (by to) c.in_ok-goal.ensures.same
    ∙ ap (λ k. by k now) c.in_ok-goal.ensures.goal
