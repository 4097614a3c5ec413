use Rattle.std.proofs.Common.{string_bytes}
use Rattle.bx_editor.proofs.AnswersKept.{answer-left}
use Rattle.bx_editor.proofs.editor.Editor.pass_save.Goals as goal

pub invariant_of-self : goal.invariant_of-self
invariant_of-self g c =
    let i = c.self.inside in
    let kept = c.self.invariant in
    (kept.0, kept.1, kept.2, kept.3, kept.4, kept.5, answer-left i.prompt (string_bytes i.answer) kept.6, tt, kept.8, tt, tt)
