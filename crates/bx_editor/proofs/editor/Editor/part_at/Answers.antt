use Rattle.std.proofs.Common.{◌≡◌, ℕ, ap, subst, sym}
use Rattle.bx_view.specs.Places.{IsTextPlace}
use Rattle.bx_ucd.specs.Data.{Data}
use Rattle.bx_editor.specs.Editor.{Editor}
use Rattle.bx_editor.specs.Functions.{EditorState}
use Rattle.bx_editor.specs.Pointing.{part_at}
use Rattle.bx_editor.proofs.PlaceLine.{line-starts, line-stops}
use Rattle.bx_editor.proofs.Viewed.{value}
use Rattle.bx_editor.proofs.editor.Editor.part_at.Goals as goal

pub returns-in_ok-word-in-Word-clause-start : goal.returns-in_ok-word-in-Word-clause-start
returns-in_ok-word-in-Word-clause-start g c =
    let was : EditorState g.row.D.Denot = value g.D.BidiData c.self.inside in
    let d : Data = g.D.BidiData.data was.tables in
    let start = c.in_ok-word-in-Word.word.start in
    subst (λ (s : EditorState g.row.D.Denot). start ≡ (part_at (g.D.BidiData.data s.tables) s.editor c.args.extent c.args.place).0) c.self.view_is
    (subst (λ x. start ≡ (part_at d was.editor x c.args.place).0) (sym c.in-Word.is) (ap (λ (p : ℕ × ℕ). p.0) c.in_ok-word-in-Word.ensures.stretch))

pub returns-in_ok-word-in-Word-clause-stop : goal.returns-in_ok-word-in-Word-clause-stop
returns-in_ok-word-in-Word-clause-stop g c =
    let was : EditorState g.row.D.Denot = value g.D.BidiData c.self.inside in
    let d : Data = g.D.BidiData.data was.tables in
    let stop = c.in_ok-word-in-Word.word.stop in
    subst (λ (s : EditorState g.row.D.Denot). stop ≡ (part_at (g.D.BidiData.data s.tables) s.editor c.args.extent c.args.place).1) c.self.view_is
    (subst (λ x. stop ≡ (part_at d was.editor x c.args.place).1) (sym c.in-Word.is) (ap (λ (p : ℕ × ℕ). p.1) c.in_ok-word-in-Word.ensures.stretch))

pub returns-in-Paragraph-clause-start_place : goal.returns-in-Paragraph-clause-start_place
returns-in-Paragraph-clause-start_place g c =
    let t = c.self.inside.document in
    let ucd = g.D.BidiData.data t.tables in
    let text = t.document.content.text in
    subst (λ (s : EditorState g.row.D.Denot). IsTextPlace (g.D.BidiData.data s.tables) s.editor.content.text c.line_of-line.result.start) c.self.view_is
    (subst (IsTextPlace ucd text) (sym c.line_of-line.ensures.start) (line-starts ucd text c.len-utf8.ensures.utf8 c.args.place))

pub returns-in-Paragraph-clause-stop_place : goal.returns-in-Paragraph-clause-stop_place
returns-in-Paragraph-clause-stop_place g c =
    let t = c.self.inside.document in
    let ucd = g.D.BidiData.data t.tables in
    let text = t.document.content.text in
    subst (λ (s : EditorState g.row.D.Denot). IsTextPlace (g.D.BidiData.data s.tables) s.editor.content.text c.line_of-line.result.stop) c.self.view_is
    (subst (IsTextPlace ucd text) (sym c.line_of-line.ensures.stop) (line-stops ucd text c.len-utf8.ensures.utf8 c.args.place))
