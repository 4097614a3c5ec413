use Rattle.bx_editor.proofs.AnswersKept.{empty-answer, stands-at-start}
use Rattle.bx_editor.proofs.editor.Editor.begin_question.Goals as goal

pub invariant_of-self : goal.invariant_of-self
invariant_of-self g c =
    let kept = c.self.invariant in (
      kept.0,
      kept.1,
      kept.2,
      kept.3,
      kept.4,
      kept.5,
      empty-answer c.args.prompt _ c.new.ensures.bytes,
      stands-at-start (g.D.BidiData.data c.self.inside.document.tables) c.args.prompt _ _ _ _,
      kept.8,
      kept.9,
      kept.10,
    )
