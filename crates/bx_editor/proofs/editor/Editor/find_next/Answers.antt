use Rattle.std.proofs.Common.{◌≡◌, ◌∙◌, ap, subst, sym}
use Rattle.bx_editor.specs.Editor.{cleared}
use Rattle.bx_editor.specs.Functions.{EditorState}
use Rattle.bx_editor.specs.Search.{after_find, next_or_start}
use Rattle.bx_editor.proofs.editor.Editor.find_next.Goals as goal

pub returns-clause-ok : goal.returns-clause-ok
returns-clause-ok g c =
    let view = c.self.view_is ∙ c.in_ok-next.ensures.same in
    let next = c.in_ok-next.ensures.next
    ∙ ap (λ (s : EditorState g.row.D.Denot). next_or_start (g.D.BidiData.data s.tables) s.editor) (sym view) in
    subst (λ (s : EditorState g.row.D.Denot). c.land.new.self
    ≡ record { tables = s.tables; editor = after_find (g.D.BidiData.data s.tables) (cleared s.editor) }) view
    (simp (
      c.in_ok-landing.ensures.same,
      c.in_ok-landing.ensures.landing,
      next,
      c.reading_of.ensures,
      c.as_str.ensures.value,
    ) at c.land.ensures)
