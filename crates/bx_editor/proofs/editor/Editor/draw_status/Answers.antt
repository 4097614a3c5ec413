use Rattle.std.proofs.Common.{◌≡◌, ◌++◌, ◌∙◌, Bool, List, ap, string_bytes, subst, sym}
use Rattle.std.specs.Prelude.{IfOk, Option, option_map}
use Rattle.bx_rows.specs.RowPicture.{Glyph}
use Rattle.bx_ucd.specs.Data.{Data}
use Rattle.bx_editor.specs.Editor.{Editor}
use Rattle.bx_editor.specs.Functions.{EditorState}
use Rattle.bx_editor.specs.Status.{IsDrawn, glyph_row, left_side, name_glyphs, prompt_words, with_some_end}
use Rattle.bx_editor.proofs.StatusRow.{drawn-is, end-is}
use Rattle.bx_editor.proofs.editor.Editor.draw_status.Goals as goal

pub invariant_of-self : goal.invariant_of-self
invariant_of-self g c =
    let i = c.self.inside in
    let d : Data = g.D.BidiData.data i.document.tables in
    let kept = c.self.invariant in
    let drawn = c.in_ok-drawn.drawn in
    let same = c.self.view_is ∙ c.in_ok-drawn.ensures.same in
    let is = subst (λ (s : EditorState g.row.D.Denot). drawn ≡ option_map (name_glyphs (g.D.BidiData.data s.tables)) s.editor.name) (sym same)
    c.in_ok-drawn.ensures.drawn in
    (kept.0, kept.1, kept.2, kept.3, kept.4, kept.5, kept.6, kept.7, drawn-is d (option_map string_bytes i.name) drawn is, kept.9, kept.10)

pub returns-clause-row : goal.returns-clause-row
returns-clause-row g c =
    let now : EditorState g.row.D.Denot = c.args.self.now in
    let d : Data = g.D.BidiData.data now.tables in
    let e : Editor = now.editor in
    let text = string_bytes c.args.text in
    let ends = c.row_end-end.ensures ∙ end-is d c.args.is_rtl e.name c.in_ok-drawn.drawn c.in_ok-drawn.ensures.drawn in
    subst (λ (o : Option (List Glyph × Bool)). IfOk c.draw_prompt-row.result (λ r. r.row.columns ≡ glyph_row e.width
    (with_some_end e.width (left_side d e (text ++ prompt_words e e.prompt)) o))) ends
    (subst (λ (s : EditorState g.row.D.Denot). IfOk c.draw_prompt-row.result (λ r. r.row.columns ≡ glyph_row s.editor.width
    (with_some_end s.editor.width (left_side (g.D.BidiData.data s.tables) s.editor (text ++ prompt_words s.editor s.editor.prompt))
    (option_map (λ k. (k.name.now, k.is_rtl)) c.row_end-end.result))))
    c.in_ok-drawn.ensures.same c.draw_prompt-row.ensures.row)
