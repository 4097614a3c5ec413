use Rattle.std.proofs.Common.{string_bytes}
use Rattle.bx_editor.proofs.LeftLine.{line-left}
use Rattle.bx_editor.proofs.editor.Editor.leave_search.Goals as goal

pub invariant_of-self : goal.invariant_of-self
invariant_of-self g c =
    let i = c.self.inside in
    let kept = c.self.invariant in
    let line =
    line-left (g.D.BidiData.data i.document.tables) i.prompt i.cursor.search_state (string_bytes i.query) (string_bytes i.replacement) (string_bytes i.answer) i.input_cursor kept.7 in
    (kept.0, kept.1, kept.2, kept.3, kept.4, kept.5, kept.6, line, kept.8, tt, tt)
