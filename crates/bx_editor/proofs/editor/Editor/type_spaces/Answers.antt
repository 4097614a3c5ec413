use Rattle.std.proofs.Common.{◌≡◌, ◌∙◌, ℕ, ap, subst}
use Rattle.std.specs.Prelude.{OnOk}
use Rattle.bx_ucd.specs.Data.{Data}
use Rattle.bx_editor.specs.declared.undo_groups.typing.Kind.TheVariants.{Blank}
use Rattle.bx_editor.specs.Editor.{Editor, cleared}
use Rattle.bx_editor.specs.Functions.{EditorState}
use Rattle.bx_editor.specs.Putting.{typed, units_in_line, yielding}
use Rattle.bx_editor.proofs.PutIn.{spaces-typed}
use Rattle.bx_editor.proofs.Viewed.{value_with}
use Rattle.bx_editor.proofs.editor.Editor.type_spaces.Goals as goal

pub returns-clause-ok : goal.returns-clause-ok
returns-clause-ok g c =
    let now : EditorState g.row.D.Denot = c.args.self.now in
    let d : Data = g.D.BidiData.data now.tables in
    let e : Editor = now.editor in
    let back = ap (value_with g.D.BidiData c.self.inside) c.in_ok-units.ensures.same ∙ c.self.view_is in
    let units : c.in_ok-units.units ≡ units_in_line d e (yielding e).0 =
    c.in_ok-units.ensures.units
    ∙ ap (λ (s : EditorState g.row.D.Denot). units_in_line (g.D.BidiData.data s.tables) s.editor c.yielding-start.result.start) c.self.view_is
    ∙ ap (units_in_line d e) c.yielding-start.ensures.start in
    let spaces = c.as_str.result.now in
    subst (λ (x : Editor). OnOk c.type_text.result (c.type_text.new.self ≡ (let t : EditorState g.row.D.Denot = record { tables = now.tables; editor = x } in t)))
    (spaces-typed d e.typing (cleared e) c.args.width c.in_ok-units.units spaces c.requires.width c.requires.some units
    (c.as_str.ensures.value ∙ c.in_ok-spaces.ensures.bytes))
    (subst (λ (s : EditorState g.row.D.Denot). OnOk c.type_text.result (c.type_text.new.self ≡ (let t : EditorState g.row.D.Denot = record s {
      editor = typed (g.D.BidiData.data s.tables) s.editor.typing (cleared s.editor) spaces Blank;
    } in t))) back c.type_text.ensures.ok)
