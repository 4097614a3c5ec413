use Rattle.std.proofs.Common.{◌≡◌, ◌∙◌, ap, chars, false, length, subst, sym}
use Rattle.std.specs.Prelude.{◌==◌}
use Rattle.bx_find.specs.Letters.{letters}
use Rattle.bx_find.specs.declared.letters.Reading.TheVariants.{Wide}
use Rattle.bx_editor.specs.Editor.{Editor, cleared, rows}
use Rattle.bx_editor.specs.Functions.{EditorState}
use Rattle.bx_editor.specs.Search.{backward, landed, sought, sought_alone}
use Rattle.bx_editor.specs.Region.{unselected}
use Rattle.bx_editor.proofs.Sought.{find-previous-sought, not-true}
use Rattle.bx_editor.proofs.editor.Editor.go_to_previous.Goals as goal

pub returns-clause-ok : goal.returns-clause-ok
returns-clause-ok g c =
    let now : EditorState g.row.D.Denot = c.args.self.now in
    let d = g.D.BidiData.data now.tables in
    let some : (length (sought d now.editor) == 0) ≡ false = not-true _ (sym c.has_query.ensures ∙ c.if-not-has_query.false) in
    subst (λ (s : EditorState g.row.D.Denot). (let ucd = g.D.BidiData.data s.tables in
    let x = s.editor in
    c.settle_alone.new.self ≡ record {
      tables = s.tables;
      editor = landed (sought_alone (unselected (cleared x)))
          (backward ucd Wide (rows ucd x) x.content.text x.place x.query (letters ucd Wide (chars x.query)));
    })) c.self.view_is
    (simp (
      c.in_ok-landing.ensures.same,
      c.in_ok-landing.ensures.landing,
      c.as_str-query.ensures.value,
    ) at c.settle_alone.ensures)
    ∙ ap (λ (x : Editor). (let s : EditorState g.row.D.Denot = record now { editor = x } in s))
    (sym (find-previous-sought d (unselected (cleared now.editor)) some))
