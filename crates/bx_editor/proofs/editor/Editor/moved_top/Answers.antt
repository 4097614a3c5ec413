use Rattle.std.proofs.Common.{◌≡◌, sym, subst}
use Rattle.std.specs.Prelude.{IfOk}
use Rattle.bx_ucd.specs.Data.{Data}
use Rattle.bx_view.specs.Top.{centred}
use Rattle.bx_editor.specs.declared.scrolling.Scroll.TheVariants.{Centre}
use Rattle.bx_editor.specs.Editor.{rows}
use Rattle.bx_editor.specs.Functions.{EditorState}
use Rattle.bx_editor.specs.Scrolling.{moved_top}
use Rattle.bx_editor.proofs.Viewed.{value}
use Rattle.bx_editor.proofs.editor.Editor.moved_top.Goals as goal

pub returns-in-Centre-clause-top : goal.returns-in-Centre-clause-top
returns-in-Centre-clause-top g c =
    let now : EditorState g.row.D.Denot = c.args.self.now in
    let was : EditorState g.row.D.Denot = value g.D.BidiData c.self.inside in
    let d : Data = g.D.BidiData.data was.tables in
    subst (λ x. IfOk c.centred.result (λ o. o ≡ moved_top (g.D.BidiData.data now.tables) now.editor c.args.top x)) (sym c.in-Centre.is)
    (subst (λ (s : EditorState g.row.D.Denot). IfOk c.centred.result (λ o. o ≡ moved_top (g.D.BidiData.data s.tables) s.editor c.args.top Centre)) c.self.view_is
    (subst (λ n. IfOk c.centred.result (λ o. o ≡ centred (rows d was.editor) c.args.top was.editor.place n)) c.text_height-count.ensures.rows
    c.centred.ensures.top))
