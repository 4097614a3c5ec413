use Rattle.std.proofs.Common.{rules, ◌∙◌, ap}
use Rattle.bx_editor.specs.Editor.{Editor}
use Rattle.bx_editor.specs.Functions.{EditorState}
use Rattle.bx_editor.proofs.TwoEdits.{replaced-once}
use Rattle.bx_editor.proofs.editor.Editor.replace_region.Goals as goal

pub returns-clause-ok : goal.returns-clause-ok
returns-clause-ok g c =
    let now : EditorState g.row.D.Denot = c.args.self.now in
    search rules
    ∙ ap (λ (e : Editor). (let s : EditorState g.row.D.Denot = record { tables = now.tables; editor = e } in s))
    (replaced-once (g.D.BidiData.data now.tables) now.editor c.args.new.now)
