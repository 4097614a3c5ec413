use Rattle.std.proofs.Common.{rules, ◌+◌, ◌∙◌, ap}
use Rattle.bx_editor.specs.Editor.{Editor}
use Rattle.bx_editor.specs.Functions.{EditorState}
use Rattle.bx_editor.proofs.Exchanged.{exchanged-once}
use Rattle.bx_editor.proofs.editor.Editor.exchange.Goals as goal

pub returns-clause-ok : goal.returns-clause-ok
returns-clause-ok g c =
    let now : EditorState g.row.D.Denot = c.args.self.now in
    let e = now.editor in
    search rules
    ∙ ap (λ (x : Editor). (let s : EditorState g.row.D.Denot = record {
      tables = now.tables;
      editor = record x { origin = 0; count = e.count + c.args.count };
    } in s))
    (exchanged-once (g.D.BidiData.data now.tables) e e.at c.args.stop c.args.new.now c.requires.range.start_bounds.0)
