use Rattle.std.proofs.Common.{rules, ◌≡◌, ℕ, List, [], false, length, string_bytes, sym, ap, ap₂, subst, ◌∙◌}
use Rattle.std.specs.Prelude.{◌==◌}
use Rattle.bx_ucd.specs.Data.{Data}
use Rattle.bx_editor.specs.Editor.{Editor, cleared}
use Rattle.bx_editor.specs.Functions.{EditorState}
use Rattle.bx_editor.specs.Putting.{after_put, put_in, puts_line}
use Rattle.bx_editor.proofs.HeldApart.{held-apart, put-is}
use Rattle.bx_editor.proofs.Viewed.{value}
use Rattle.bx_editor.proofs.editor.Editor.put.Goals as goal

pub returns-clause-ok : goal.returns-clause-ok
returns-clause-ok g c =
    let i = c.self.inside in
    let tables = i.document.tables in
    let d : Data = g.D.BidiData.data tables in
    let e : Editor = (value g.D.BidiData i).editor in
    let held : List ℕ → EditorState g.row.D.Denot → EditorState g.row.D.Denot = λ h s. record s { editor = record s.editor { held = h } } in
    let put : List ℕ → List ℕ → EditorState g.row.D.Denot =
    λ h new. record { tables = tables; editor = put_in d (cleared (record e { held = h })) new false } in
    let taken : string_bytes c.replace-held.result ≡ e.held = ap string_bytes c.replace-held.ensures.value in
    let empty : string_bytes c.replace-held.new.dest ≡ [] = ap string_bytes c.replace-held.ensures.after ∙ c.new-empty.ensures.bytes in
    let some : (length e.held == 0) ≡ false = search rules in
    let whole : puts_line e ≡ false =
    ap (λ (s : EditorState g.row.D.Denot). puts_line s.editor) c.self.view_is ∙ sym c.puts_line.ensures ∙ c.if-puts_line.false in
    ap (held (string_bytes c.replace-held.result)) c.self-2.view_is
    ∙ subst (λ (s : EditorState g.row.D.Denot). held (string_bytes c.replace-held.result) c.put_in-put.new.self
    ≡ record { tables = s.tables; editor = after_put (g.D.BidiData.data s.tables) (cleared s.editor) }) c.self.view_is
    (ap (held (string_bytes c.replace-held.result)) c.in_ok-put.ensures.ok
    ∙ ap₂ (λ h new. held (string_bytes c.replace-held.result) (put h new)) empty (c.as_str.ensures.value ∙ taken)
    ∙ ap (λ h. held h (put [] e.held)) taken
    ∙ ap (λ (x : Editor). (let s : EditorState g.row.D.Denot = record { tables = tables; editor = x } in s))
    (held-apart d (cleared e) e.held false ∙ put-is d (cleared e) some whole))
