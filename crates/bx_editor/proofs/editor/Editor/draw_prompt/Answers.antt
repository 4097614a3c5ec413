use Rattle.std.proofs.Common.{◌≡◌, ◌++◌, ◌∙◌, Bool, List, Some, ap, length, string_bytes, sym}
use Rattle.std.specs.Prelude.{Option, option_map}
use Rattle.bx_rows.specs.RowPicture.{Glyph}
use Rattle.bx_document.specs.InputLine.{column_shown, glyphs_or, input_line, line_glyphs}
use Rattle.bx_ucd.specs.Data.{Data}
use Rattle.bx_editor.specs.Editor.{Editor}
use Rattle.bx_editor.specs.Functions.{EditorState}
use Rattle.bx_editor.specs.InputLines.{input_line_of}
use Rattle.bx_editor.specs.Status.{glyph_row, letter_glyphs, prompt_words, with_some_end}
use Rattle.bx_editor.proofs.StatusRow.{column-with, left-with}
use Rattle.bx_editor.proofs.editor.Editor.draw_prompt.Goals as goal

pub returns-clause-row : goal.returns-clause-row
returns-clause-row g c =
    let now : EditorState g.row.D.Denot = c.args.self.now in
    let d : Data = g.D.BidiData.data now.tables in
    let e : Editor = now.editor in
    let i = c.self.inside in
    let line = c.in-Some.line.now in
    let ends : Option (List Glyph × Bool) = option_map (λ k. (k.name.now, k.is_rtl)) c.args.end in
    let words = string_bytes c.args.text ++ prompt_words e e.prompt in
    let text : c.as_str-2.result.now ≡ words =
    c.as_str-2.ensures.value ∙ c.in_ok-push_str.ensures.bytes ∙ ap (λ ls. string_bytes c.args.text ++ ls) c.prompt_words.ensures.text in
    let is : Some line ≡ input_line_of e = sym (ap (option_map (λ l. l.now)) c.in-Some.is) ∙ c.input_line.ensures in
    let ucd : Data = g.D.BidiData.data i.document.tables in
    let w = i.document.document.w in
    c.in_ok-row-2.ensures.row
    ∙ ap (λ ls. glyph_row w (with_some_end w (letter_glyphs ls ++ glyphs_or (line_glyphs ucd line) (input_line ucd w (length ls) line i.input_cursor)) ends)) text
    ∙ ap (λ (s : EditorState g.row.D.Denot). glyph_row s.editor.width (with_some_end s.editor.width (letter_glyphs words
    ++ glyphs_or (line_glyphs (g.D.BidiData.data s.tables) line) (input_line (g.D.BidiData.data s.tables) s.editor.width (length words) line s.editor.input_cursor)) ends))
    c.self.view_is
    ∙ ap (λ (gs : List Glyph). glyph_row e.width (with_some_end e.width gs ends)) (left-with d e words line is)

pub returns-clause-column : goal.returns-clause-column
returns-clause-column g c =
    let now : EditorState g.row.D.Denot = c.args.self.now in
    let d : Data = g.D.BidiData.data now.tables in
    let e : Editor = now.editor in
    let i = c.self.inside in
    let line = c.in-Some.line.now in
    let words = string_bytes c.args.text ++ prompt_words e e.prompt in
    let text : c.as_str-2.result.now ≡ words =
    c.as_str-2.ensures.value ∙ c.in_ok-push_str.ensures.bytes ∙ ap (λ ls. string_bytes c.args.text ++ ls) c.prompt_words.ensures.text in
    let is : Some line ≡ input_line_of e = sym (ap (option_map (λ l. l.now)) c.in-Some.is) ∙ c.input_line.ensures in
    let ucd : Data = g.D.BidiData.data i.document.tables in
    c.in_ok-row-2.ensures.column
    ∙ ap (λ ls. column_shown (input_line ucd i.document.document.w (length ls) line i.input_cursor)) text
    ∙ ap (λ (s : EditorState g.row.D.Denot). column_shown (input_line (g.D.BidiData.data s.tables) s.editor.width (length words) line s.editor.input_cursor))
    c.self.view_is
    ∙ column-with d e words line is
