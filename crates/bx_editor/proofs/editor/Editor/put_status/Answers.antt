use Rattle.std.proofs.Common.{◌≡◌, ◌+◌, ◌-◌, ◌∙◌, ◌++◌, ap, ap₂, arith, List, ℕ, string_bytes, sym}
use Rattle.bx_ucd.specs.Data.{Data}
use Rattle.bx_editor.specs.Editor.{Editor}
use Rattle.bx_editor.specs.Functions.{EditorState}
use Rattle.bx_editor.specs.InputLines.{input_line_of}
use Rattle.bx_editor.specs.Status.{glyph_row, message_part, paragraph_number, prompt_words, row_glyphs, row_text, status_line, status_text}
use Rattle.bx_editor.specs.Status.{told_at_place, typed_column, unit_number}
use Rattle.bx_editor.proofs.Shown.{some-column, some-status}
use Rattle.bx_editor.proofs.editor.Editor.put_status.Goals as goal

pub returns-clause-status : goal.returns-clause-status
returns-clause-status g c =
    let now : EditorState g.row.D.Denot = c.args.self.now in
    let d : Data = g.D.BidiData.data now.tables in
    let e : Editor = now.editor in
    let was = c.args.page.now in
    let same = c.in_ok-write_message.ensures.same in
    let changed = ap (λ s. s.editor.changed) c.self.view_is in
    let rtl = c.args.position.is_rtl in
    let line : string_bytes c.in_ok-line.line
    ≡ status_line e.changed (paragraph_number d e.content.text e.place + 1) (unit_number d e.content.text e.place) =
    c.in_ok-line.ensures.line ∙ ap (λ b. status_line b c.args.position.paragraph c.args.position.unit) changed
    ∙ ap₂ (λ p u. status_line e.changed p u) c.requires.position.paragraph c.requires.position.unit in
    let text : string_bytes c.write_message.new.line ≡ status_text d e =
    c.in_ok-write_message.ensures.message ∙ ap (λ l. l ++ message_part (told_at_place d e) e.message) line in
    let columns = c.in_ok-status.ensures.row
    ∙ ap₂ (λ (s : EditorState g.row.D.Denot) (l : List ℕ). glyph_row s.editor.width
    (row_glyphs (g.D.BidiData.data s.tables) s.editor (l ++ prompt_words s.editor s.editor.prompt) rtl)) same text
    ∙ ap (λ b. glyph_row e.width (row_glyphs d e (row_text d e) b)) c.requires.position.direction in
    let wide = c.in_ok-status.ensures.filled ∙ ap (λ s. s.editor.width) same ∙ sym c.requires.width in
    let height : c.height-height.result ≡ e.height = c.height-height.ensures.height ∙ c.requires.height in
    some-status d e was c.requires.height c.requires.width c.height-height.ensures.sized (c.height-height.result - 1) c.in_ok-status.status.row.columns
    c.put_row.new.self (omega (arith, c.if-height-lt2.false, height)) (omega (arith, height)) wide columns c.in_ok-put_row.ensures.ok

pub returns-clause-column : goal.returns-clause-column
returns-clause-column g c =
    let now : EditorState g.row.D.Denot = c.args.self.now in
    let d : Data = g.D.BidiData.data now.tables in
    let e : Editor = now.editor in
    let same = c.in_ok-write_message.ensures.same in
    let changed = ap (λ s. s.editor.changed) c.self.view_is in
    let line : string_bytes c.in_ok-line.line
    ≡ status_line e.changed (paragraph_number d e.content.text e.place + 1) (unit_number d e.content.text e.place) =
    c.in_ok-line.ensures.line ∙ ap (λ b. status_line b c.args.position.paragraph c.args.position.unit) changed
    ∙ ap₂ (λ p u. status_line e.changed p u) c.requires.position.paragraph c.requires.position.unit in
    let text : string_bytes c.write_message.new.line ≡ status_text d e =
    c.in_ok-write_message.ensures.message ∙ ap (λ l. l ++ message_part (told_at_place d e) e.message) line in
    let height : c.height-height.result ≡ e.height = c.height-height.ensures.height ∙ c.requires.height in
    c.in_ok-status.ensures.column
    ∙ ap₂ (λ (s : EditorState g.row.D.Denot) (l : List ℕ). typed_column (g.D.BidiData.data s.tables) s.editor
    (l ++ prompt_words s.editor s.editor.prompt) (input_line_of s.editor)) same text
    ∙ some-column d e (omega (arith, c.if-height-lt2.false, height))
