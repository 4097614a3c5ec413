use Rattle.std.proofs.Common.{rules, ◌≡◌, ◌∙◌, ◌++◌, ℕ, List, length, chars, string_bytes, true, ap, ap₂, sym}
use Rattle.bx_editor.specs.Functions.{EditorState}
use Rattle.bx_editor.proofs.ToldHere.{told-here, told-is}
use Rattle.bx_common.specs.Characters.{are_ascii_printable}
use Rattle.bx_editor.specs.questions.Told.{told_text}
use Rattle.bx_document.specs.PlaceLevel.{place_level}
use Rattle.bx_editor.proofs.editor.Editor.write_told.Goals as goal

pub returns-clause-printable : goal.returns-clause-printable
returns-clause-printable g c =
    let now = c.args.self.now in
    let d = g.D.BidiData.data now.tables in
    let e = now.editor in
    let unit = c.in_ok-unit.unit in
    let level = c.in_ok-level.level in
    let place = ap (λ s. s.editor.place) c.self.view_is in
    let len = c.len.ensures.len ∙ ap (λ s. length s.editor.content.text) c.self.view_is in
    let printable : are_ascii_printable (told_text d (chars (string_bytes unit)) level) ≡ true = search rules in
    let told-level =
    c.in_ok-level.ensures
    ∙ ap (λ s. place_level (g.D.BidiData.data s.tables) s.editor.base s.editor.content.text c.self.inside.cursor.place)
    (c.self-2.view_is ∙ c.in_ok-stop.ensures.same)
    ∙ ap (place_level d e.base e.content.text) place in
    told-here d e (string_bytes unit) level (λ at. c.if-place-len.false (place ∙ at ∙ sym len)) (search rules) told-level printable

pub returns-clause-told : goal.returns-clause-told
returns-clause-told g c =
    let now : EditorState g.row.D.Denot = c.args.self.now in
    let d = g.D.BidiData.data now.tables in
    let e = now.editor in
    let unit = c.in_ok-unit.unit in
    let level = c.in_ok-level.level in
    let place = ap (λ s. s.editor.place) c.self.view_is in
    let len = c.len.ensures.len ∙ ap (λ s. length s.editor.content.text) c.self.view_is in
    let same = c.self-2.view_is ∙ c.in_ok-stop.ensures.same in
    let told-level =
    c.in_ok-level.ensures
    ∙ ap (λ s. place_level (g.D.BidiData.data s.tables) s.editor.base s.editor.content.text c.self.inside.cursor.place) same
    ∙ ap (place_level d e.base e.content.text) place in
    let tables = c.tables.ensures ∙ ap (λ (s : EditorState g.row.D.Denot). s.tables) same in
    c.in_ok-write_told.ensures.told
    ∙ ap₂ (λ (t : g.row.D.Denot) (us : List ℕ). string_bytes c.args.line.now ++ told_text (g.D.BidiData.data t)
    (chars us) level) tables c.as_str.ensures.value
    ∙ ap (λ (t : List ℕ). string_bytes c.args.line.now ++ t)
    (sym (told-is d e (string_bytes unit) level (λ at. c.if-place-len.false (place ∙ at ∙ sym len)) (search rules) told-level))
