use Rattle.std.proofs.Common.{rules, ◌≡◌, ℕ, ap, ap₂, ◌∙◌}
use Rattle.std.proofs.lemmas.Result.{on_ok_weaker}
use Rattle.bx_editor.specs.Editor.{Editor, cleared}
use Rattle.bx_editor.specs.Functions.{EditorState}
use Rattle.bx_editor.specs.Region.{line}
use Rattle.bx_editor.proofs.Copied.{line-copied, nothing-copied}
use Rattle.bx_editor.proofs.editor.Editor.copy.Goals as goal

ends : {a b c d : ℕ} → a ≡ c → b ≡ d → ◌≡◌ {A = ℕ × ℕ} (a, b) (c, d)
ends = ap₂ (λ (a b : ℕ). (a, b))

pub returns-then-line-clause-ok : goal.returns-then-line-clause-ok
returns-then-line-clause-ok g c =
    let now : EditorState g.row.D.Denot = c.args.self.now in
    let start = c.line_of-line.result.start in
    let stop = c.line_of-line.result.stop in
    let at = ends c.line_of-line.ensures.start c.line_of-line.ensures.stop ∙ ap (λ (s : EditorState g.row.D.Denot). line (g.D.BidiData.data s.tables) s.editor) c.self.view_is in
    on_ok_weaker c.hold-then-line.result
    (λ held. held
    ∙ ap (λ (x : Editor). (let s : EditorState g.row.D.Denot = record now { editor = x } in s))
    (line-copied (g.D.BidiData.data now.tables) (cleared now.editor) start stop _ _ (ends c.region-region.ensures.start c.region-region.ensures.stop) c.if-region.false at
    c.if-line.true)) c.hold-then-line.ensures.ok

pub returns-clause-ok : goal.returns-clause-ok
returns-clause-ok g c =
    let now : EditorState g.row.D.Denot = c.args.self.now in
    let at = ends c.line_of-line.ensures.start c.line_of-line.ensures.stop ∙ ap (λ (s : EditorState g.row.D.Denot). line (g.D.BidiData.data s.tables) s.editor) c.self.view_is in
    search rules
    ∙ ap (λ (x : Editor). (let s : EditorState g.row.D.Denot = record { tables = now.tables; editor = x } in s))
    (nothing-copied (g.D.BidiData.data now.tables) (cleared now.editor) c.line_of-line.result.start c.line_of-line.result.stop _ _
    (ends c.region-region.ensures.start c.region-region.ensures.stop) c.if-region.false at c.if-line.false)
