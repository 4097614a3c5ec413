use Rattle.std.proofs.Common.{◌≡◌, ◌∙◌, [], false, ap, string_bytes}
use Rattle.bx_editor.specs.Functions.{EditorState}
use Rattle.bx_editor.specs.InputLines.{takes_line}
use Rattle.bx_editor.proofs.AnswersKept.{empty-answer, stands-without}
use Rattle.bx_editor.proofs.editor.Editor.name_answered.Goals as goal

pub invariant_of-self : goal.invariant_of-self
invariant_of-self g c =
    let i = c.self.inside in
    let kept = c.self.invariant in
    let d = g.D.BidiData.data i.document.tables in
    let asked : takes_line i.prompt ≡ false = ap (λ (s : EditorState g.row.D.Denot). takes_line s.editor.prompt) c.self.view_is ∙ c.requires.asked in
    let empty : string_bytes c.clear.new.self ≡ [] = c.clear.ensures.bytes in (
      kept.0,
      kept.1,
      kept.2,
      kept.3,
      kept.4,
      kept.5,
      empty-answer i.prompt (string_bytes c.clear.new.self) empty,
      stands-without d i.prompt i.cursor.search_state (string_bytes i.query) (string_bytes i.replacement) (string_bytes i.answer)
          (string_bytes c.clear.new.self) i.input_cursor asked kept.7,
      kept.8,
      kept.9,
      kept.10,
    )
