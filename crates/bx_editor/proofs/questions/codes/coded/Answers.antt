use Rattle.std.proofs.Common.{sym}
use Rattle.bx_editor.proofs.questions_lemmas.Hexadecimal.{no-code}
use Rattle.bx_editor.proofs.questions.codes.coded.Goals as goal

pub returns-in-Err : goal.returns-in-Err
returns-in-Err c = no-code c.args.answer.now (sym c.if-not-are_code_letters.ensures) c.in-Err.ensures.value
