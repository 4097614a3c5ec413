use Rattle.std.proofs.Common.{◌≡◌, ◌<◌, ◌≤◌, ◌∙◌, ℕ, ◌+◌, ◌-◌, true, ap, sym, subst, arith}
use Rattle.std.specs.Prelude.{◌%◌}
use Rattle.bx_ucd.specs.Data.{Data}
use Rattle.bx_editor.specs.Erasing.{is_behind_spaces}
use Rattle.bx_editor.specs.Functions.{EditorState}
use Rattle.bx_editor.proofs.ErasedFrom.{line-begins, stop-low, stop-range, wide}
use Rattle.bx_editor.proofs.editor.Editor.erased_from.Goals as goal

pub returns-then-branch-clause-range : goal.returns-then-branch-clause-range
returns-then-branch-clause-range g c =
    let now : EditorState g.row.D.Denot = c.args.self.now in
    let d : Data = g.D.BidiData.data now.tables in
    let i = c.self.inside in
    let start = c.line_start-start.result in
    let at = c.line_start-start.ensures.start in
    let range = c.line_start-start.ensures.range in
    let spaces : is_behind_spaces d now.editor ≡ true = sym c.in_ok-is_behind_spaces.ensures ∙ c.if-branch.true in
    let place : i.cursor.place ≡ now.editor.place = ap (λ (s : EditorState g.row.D.Denot). s.editor.place) c.self.view_is in
    let width : c.from-width.result ≡ now.editor.tab_width = c.from-width.ensures ∙ ap (λ (s : EditorState g.row.D.Denot). s.editor.tab_width) c.self.view_is in
    let some : 0 < c.from-width.result = let w = wide d now.editor start at spaces in omega (arith, w, width) in
    let begins : start < i.cursor.place = let b = line-begins d now.editor start at spaces in omega (arith, b, place) in
    let low = stop-low i.cursor.place start c.from-width.result some begins in
    stop-range d now.editor start at spaces range.stop_bounds.0 range.stop_bounds _ low.0 (omega (arith, low.1, place))
