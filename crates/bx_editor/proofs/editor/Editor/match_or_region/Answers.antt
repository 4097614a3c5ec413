use Rattle.std.proofs.Common.{◌≡◌, ◌∙◌, ap, refl, subst, sym}
use Rattle.std.specs.Prelude.{None, IsNone}
use Rattle.bx_view.specs.Moves.{step_logical}
use Rattle.bx_view.specs.declared.moves.Logical.TheVariants.{Forward}
use Rattle.bx_editor.specs.Editor.{Editor, rows}
use Rattle.bx_editor.specs.Functions.{EditorState}
use Rattle.bx_editor.specs.Replacing.{found_here, match_or_region}
use Rattle.bx_editor.specs.Search.{reading, sought}
use Rattle.bx_editor.proofs.ShownMatch.{none-between}
use Rattle.bx_editor.proofs.editor.Editor.match_or_region.Goals as goal

pub returns-in_default-clause-start : goal.returns-in_default-clause-start
returns-in_default-clause-start g c =
    let now : EditorState g.row.D.Denot = c.args.self.now in
    let d = g.D.BidiData.data now.tables in
    let e : Editor = now.editor in
    let none : found_here d e ≡ None = none-between d (reading e.purpose) (sought d e) e.content.text e.place (step_logical (rows d e) Forward e.place)
    (c.sought.ensures.none.0 (subst IsNone (sym c.in_default.is) refl)) in
    c.region.ensures.start ∙ ap (λ o. (match_or_region d e o).0) (sym none)

pub returns-in_default-clause-stop : goal.returns-in_default-clause-stop
returns-in_default-clause-stop g c =
    let now : EditorState g.row.D.Denot = c.args.self.now in
    let d = g.D.BidiData.data now.tables in
    let e : Editor = now.editor in
    let none : found_here d e ≡ None = none-between d (reading e.purpose) (sought d e) e.content.text e.place (step_logical (rows d e) Forward e.place)
    (c.sought.ensures.none.0 (subst IsNone (sym c.in_default.is) refl)) in
    c.region.ensures.stop ∙ ap (λ o. (match_or_region d e o).1) (sym none)
