use Rattle.std.proofs.Common.{◌≡◌, ◌↔◌, ◌∙◌, [], IsUtf8, ap, ap₂, chars, subst}
use Rattle.std.specs.Prelude.{IfSome, IsNone}
use Rattle.bx_find.specs.Letters.{letters}
use Rattle.bx_editor.specs.Functions.{EditorState}
use Rattle.bx_editor.specs.Search.{reading, sought}
use Rattle.bx_editor.proofs.ShownMatch.{shown-in, some-if, some-letters}
use Rattle.bx_editor.proofs.editor.Editor.sought.Goals as goal

pub returns-clause-letters : goal.returns-clause-letters
returns-clause-letters g c =
    let d = g.D.BidiData.data c.self.inside.document.tables in
    let same = ap₂ (λ r t. letters d r (chars t)) c.reading_of.ensures c.as_str.ensures.value
    ∙ ap (λ (s : EditorState g.row.D.Denot). sought (g.D.BidiData.data s.tables) s.editor) c.self.view_is in
    subst (λ ls. IfSome c.query.result (λ q. q ≡ ls)) same c.query.ensures.letters

pub returns-clause-none : goal.returns-clause-none
returns-clause-none g c =
    let d = g.D.BidiData.data c.self.inside.document.tables in
    let same = ap₂ (λ r t. letters d r (chars t)) c.reading_of.ensures c.as_str.ensures.value
    ∙ ap (λ (s : EditorState g.row.D.Denot). sought (g.D.BidiData.data s.tables) s.editor) c.self.view_is in
    subst (λ ls. IsNone c.query.result ↔ (ls ≡ [])) same c.query.ensures.none

pub returns-clause-some : goal.returns-clause-some
returns-clause-some g c = λ shown.
    let now : EditorState g.row.D.Denot = c.args.self.now in
    let e = now.editor in
    let d = g.D.BidiData.data now.tables in
    let match = shown-in g.D.BidiData.data _ now c.self.view_is shown c.self.invariant.10 in
    some-if c.query.result (λ none. some-letters d (reading e.purpose) (sought d e) e.content.text e.at match.here ((returns-clause-none g c).0 none))

pub returns-clause-utf8 : goal.returns-clause-utf8
returns-clause-utf8 g c = subst (λ (s : EditorState g.row.D.Denot). IsUtf8 s.editor.content.text) c.self.view_is c.query.ensures.utf8
