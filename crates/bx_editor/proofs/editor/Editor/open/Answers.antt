use Rattle.std.proofs.Common.{rules}
use Rattle.bx_editor.specs.declared.questions.answers.Prompt.TheVariants.{Off}
use Rattle.bx_editor.proofs.AnswersKept.{empty-answer}
use Rattle.bx_editor.proofs.Begin.{begin-is-place, few-at-start}
use Rattle.bx_editor.proofs.editor.Editor.open.Goals as goal

pub invariant_of-result : goal.invariant_of-result
invariant_of-result g c =
    let d = g.D.BidiData.data c.in-Ok-open.document.tables in
    let query = few-at-start _ c.new-in-Ok-open-2.ensures.bytes in
    let other = few-at-start _ c.new-in-Ok-open-3.ensures.bytes in
    let answer = empty-answer Off _ c.new-in-Ok-open-4.ensures.bytes in
    (begin-is-place d _, search rules, tt, tt, query, other, answer, tt, tt, tt, tt)
