use Rattle.std.proofs.Common.{ap, arith, length, chars, string_bytes, ◌∙◌}
use Rattle.std.proofs.lemmas.Str.{IsUtf8-string_bytes}
use Rattle.bx_editor.specs.questions.Answers.{shortened}
use Rattle.bx_editor.proofs.questions_lemmas.OneMore.{popped}
use Rattle.bx_editor.proofs.questions.answers.shortened.Goals as goal

pub returns-clause-shorter : goal.returns-clause-shorter
returns-clause-shorter c =
    let old = c.in_ok-shorter.shorter in
    let new = c.pop-last.new.self in
    (popped c.pop-last.result (string_bytes old) (string_bytes new) old.bytes.len new.bytes.len (IsUtf8-string_bytes old) (IsUtf8-string_bytes new)
    old.bytes.ok.0 new.bytes.ok.0 c.pop-last.ensures.bytes c.pop-last.ensures.none c.pop-last.ensures.bound).0
    ∙ ap shortened c.in_ok-shorter.ensures.ok

pub returns-clause-fewer : goal.returns-clause-fewer
returns-clause-fewer c =
    let old = c.in_ok-shorter.shorter in
    let new = c.pop-last.new.self in
    let fewer = (popped c.pop-last.result (string_bytes old) (string_bytes new) old.bytes.len new.bytes.len (IsUtf8-string_bytes old) (IsUtf8-string_bytes new)
    old.bytes.ok.0 new.bytes.ok.0 c.pop-last.ensures.bytes c.pop-last.ensures.none c.pop-last.ensures.bound).1 in
    omega (arith, fewer, ap (λ t. length (chars t)) c.in_ok-shorter.ensures.ok)
