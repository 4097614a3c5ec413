use Rattle.std.proofs.Common.{◌∙◌, ap}
use Rattle.bx_editor.specs.Before.{before}
use Rattle.bx_editor.specs.Editor.{cleared}
use Rattle.bx_editor.specs.Functions.{EditorState}
use Rattle.bx_editor.specs.Keys.{after_pressing}
use Rattle.bx_editor.proofs.editor.Editor.press_without_question.Goals as goal

pub returns-in-Ok-clause-ok : goal.returns-in-Ok-clause-ok
returns-in-Ok-clause-ok g c =
    c.in-Ok.ensures.ok
    ∙ ap (λ (s : EditorState g.row.D.Denot). after_pressing (g.D.BidiData.data s.tables) c.args.fault (before s.editor) (cleared s.editor) c.args.key)
    c.leave_question.ensures
