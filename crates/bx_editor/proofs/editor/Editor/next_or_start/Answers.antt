use Rattle.std.proofs.Common.{◌≡◌, arith, nat_lt, subst, sym}
use Rattle.std.specs.Prelude.{find, unwrap_or}
use Rattle.bx_view.specs.TextRows.{places, text_rows}
use Rattle.bx_view.specs.Places.{IsTextPlace}
use Rattle.bx_editor.specs.Functions.{EditorState}
use Rattle.bx_editor.specs.Search.{next_or_start}
use Rattle.bx_editor.proofs.Begin.{begin-is-place}
use Rattle.bx_editor.proofs.Sought.{next-is-start}
use Rattle.bx_editor.proofs.editor.Editor.next_or_start.Goals as goal

pub returns-clause-next : goal.returns-clause-next
returns-clause-next g c =
    let i = c.self.inside in
    let ps = places (text_rows (g.D.BidiData.data i.document.tables) i.document.document.base i.document.document.w i.document.document.content.text) in
    let next : c.in_ok-next.next ≡ unwrap_or (find (nat_lt i.cursor.place) ps) i.cursor.place = c.in_ok-next.ensures.place in
    subst (λ s. 0 ≡ next_or_start (g.D.BidiData.data s.tables) s.editor) c.self.view_is
    (sym (next-is-start i.cursor.place ps (λ less. omega (arith, less, next, c.if-self-next.false))))

pub returns-clause-text_place : goal.returns-clause-text_place
returns-clause-text_place g c = begin-is-place (g.D.BidiData.data c.args.self.now.tables) c.args.self.now.editor.content.text

pub returns-then-self-next-clause-text_place : goal.returns-then-self-next-clause-text_place
returns-then-self-next-clause-text_place g c =
    subst (λ (s : EditorState g.row.D.Denot). IsTextPlace (g.D.BidiData.data s.tables) s.editor.content.text c.in_ok-next.next) c.self.view_is
    (c.in_ok-next.ensures.text_place c.self.invariant.0)
