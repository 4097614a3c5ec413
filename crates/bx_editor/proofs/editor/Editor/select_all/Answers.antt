use Rattle.std.proofs.Common.{subst, sym}
use Rattle.bx_view.specs.Places.{IsTextPlace}
use Rattle.bx_editor.specs.Functions.{EditorState}
use Rattle.bx_editor.proofs.Begin.{begin-is-place}
use Rattle.bx_editor.proofs.PlaceLine.{end-is-place}
use Rattle.bx_editor.proofs.editor.Editor.select_all.Goals as goal

pub select_part-requires-clause-mark : goal.select_part-requires-clause-mark
select_part-requires-clause-mark g c = begin-is-place (g.D.BidiData.data c.args.self.now.tables) c.args.self.now.editor.content.text

pub select_part-requires-clause-place : goal.select_part-requires-clause-place
select_part-requires-clause-place g c =
    let t = c.self.inside.document in
    let ucd = g.D.BidiData.data t.tables in
    subst (λ (s : EditorState g.row.D.Denot). IsTextPlace (g.D.BidiData.data s.tables) s.editor.content.text c.len-end.result) c.self.view_is
    (subst (IsTextPlace ucd t.document.content.text) (sym c.len-end.ensures.len) (end-is-place ucd t.document.content.text c.len-end.ensures.utf8))
