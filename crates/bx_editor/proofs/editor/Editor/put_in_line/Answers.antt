use Rattle.std.proofs.Common.{◌≡◌, ◌∙◌, ℕ, List, [], true, false, length, ap, chars, rules, string_bytes, subst, sym}
use Rattle.std.specs.Prelude.{◌==◌}
use Rattle.std.specs.List.{list_all}
use Rattle.std.proofs.lemmas.Str.{IsUtf8-string_bytes}
use Rattle.bx_editor.specs.Editor.{Editor}
use Rattle.bx_editor.specs.Functions.{EditorState}
use Rattle.bx_editor.specs.InputLines.{first_line}
use Rattle.bx_editor.specs.LinePuts.{is_in_line}
use Rattle.bx_editor.proofs.FirstLine.{first-in-line, some-chars}
use Rattle.bx_editor.proofs.LinePutsLeft.{nothing-put, put-is}
use Rattle.bx_editor.proofs.questions_lemmas.OneMore.{no-chars}
use Rattle.bx_editor.proofs.editor.Editor.put_in_line.Goals as goal

pub returns-then-is_empty-clause-ok : goal.returns-then-is_empty-clause-ok
returns-then-is_empty-clause-ok g c =
    let i = c.self.inside in
    let now : EditorState g.row.D.Denot = c.args.self.now in
    let d = g.D.BidiData.data now.tables in
    let letters = c.in_ok-letters.letters in
    let line = c.in_ok-letters.ensures ∙ ap (first_line (g.D.BidiData.data i.document.tables)) c.as_str.ensures.value
    ∙ ap (λ (s : EditorState g.row.D.Denot). first_line (g.D.BidiData.data s.tables) s.editor.held) c.self.view_is in
    let empty : length (string_bytes letters) ≡ 0 = search rules in
    c.tell.ensures
    ∙ ap (λ (e : Editor). (let s : EditorState g.row.D.Denot = record { tables = now.tables; editor = e } in s))
    (sym (nothing-put d now.editor (sym line ∙ no-chars (string_bytes letters) empty)))

pub type_one_by_one-requires : goal.type_one_by_one-requires
type_one_by_one-requires g c =
    let i = c.self.inside in
    let d = g.D.BidiData.data i.document.tables in
    let line = ap chars c.as_str-2.ensures.value ∙ c.in_ok-letters.ensures ∙ ap (first_line d) c.as_str.ensures.value in
    record { letters = subst (λ (cs : List ℕ). list_all is_in_line cs ≡ true) (sym line) (first-in-line d (string_bytes i.held)) }

pub returns-in-Ok-clause-ok : goal.returns-in-Ok-clause-ok
returns-in-Ok-clause-ok g c =
    let i = c.self.inside in
    let now : EditorState g.row.D.Denot = c.args.self.now in
    let letters = c.in_ok-letters.letters in
    let line = ap chars c.as_str-2.ensures.value ∙ c.in_ok-letters.ensures
    ∙ ap (first_line (g.D.BidiData.data i.document.tables)) c.as_str.ensures.value
    ∙ ap (λ (s : EditorState g.row.D.Denot). first_line (g.D.BidiData.data s.tables) s.editor.held) c.self.view_is in
    let some : (length (string_bytes letters) == 0) ≡ false = search rules in
    let not-empty = λ (zero : length (string_bytes letters) ≡ 0). (let never : false ≡ true = sym some ∙ ap (λ n. n == 0) zero in absurd (cc never)) in
    let letters-there = λ (none : chars c.as_str-2.result.now ≡ []).
    some-chars (string_bytes letters) (IsUtf8-string_bytes letters) not-empty (ap chars (sym c.as_str-2.ensures.value) ∙ none) in
    c.in-Ok.ensures.ok
    ∙ ap (λ (e : Editor). (let s : EditorState g.row.D.Denot = record { tables = now.tables; editor = e } in s))
    (put-is (g.D.BidiData.data now.tables) now.editor (chars c.as_str-2.result.now) line letters-there)
