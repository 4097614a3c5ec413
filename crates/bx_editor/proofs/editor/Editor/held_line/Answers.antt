use Rattle.std.proofs.Common.{rules, ◌≡◌, ◌∙◌, ℕ, Bool, true, false, List, ◌++◌, ap, ap₂, sym, string_bytes}
use Rattle.std.specs.Prelude.{◌||◌}
use Rattle.bx_ucd.specs.Data.{Data}
use Rattle.bx_document.specs.Line.{ends_with_separator, is_line_empty}
use Rattle.bx_editor.specs.Editor.{Editor}
use Rattle.bx_editor.specs.Functions.{EditorState}
use Rattle.bx_editor.specs.Putting.{line_end}
use Rattle.bx_editor.proofs.PutIn.{held-as-it-is, held-ended}
use Rattle.bx_editor.proofs.editor.Editor.held_line.Goals as goal

pub returns-then-is_line : goal.returns-then-is_line
returns-then-is_line g c =
    let now : EditorState g.row.D.Denot = c.args.self.now in
    let d : Data = g.D.BidiData.data now.tables in
    let e : Editor = now.editor in
    let held : string_bytes c.in_ok-new.new ≡ e.held = search rules in
    let is : (ends_with_separator d e.held || is_line_empty d e.content.text e.place) ≡ true =
    sym (ap (λ t. ends_with_separator d t || is_line_empty d e.content.text e.place) (c.as_str.ensures.value ∙ held)) ∙ sym c.is_line.ensures ∙ c.if-is_line.true in
    held ∙ held-as-it-is d e e.held is

pub returns : goal.returns
returns g c =
    let now : EditorState g.row.D.Denot = c.args.self.now in
    let d : Data = g.D.BidiData.data now.tables in
    let e : Editor = now.editor in
    let held : string_bytes c.in_ok-new.new ≡ e.held = search rules in
    let is : (ends_with_separator d e.held || is_line_empty d e.content.text e.place) ≡ false =
    sym (ap (λ t. ends_with_separator d t || is_line_empty d e.content.text e.place) (c.as_str.ensures.value ∙ held)) ∙ sym c.is_line.ensures ∙ c.if-is_line.false in
    let ending : c.line_end.result.now ≡ line_end d e.content.text = search rules in
    c.in_ok-push_str.ensures.bytes ∙ ap₂ (λ (a b : List ℕ). a ++ b) held ending ∙ held-ended d e e.held is
