use Rattle.std.proofs.Common.{ℕ, List, length, chars, arith}
use Rattle.std.proofs.lemmas.List.{length_push}
use Rattle.std.proofs.lemmas.Iterator.{YieldsList-from_chars}
use Rattle.std.proofs.lemmas.Iterator.Consumers.{YieldsList-turn, YieldsList-end}
use Rattle.bx_levels.proofs.resolve_lemmas.ReadOn.{char_more, chars_read}
use Rattle.bx_levels.proofs.resolve.body.chars_of.Goals as goal

pub loop-c-preserved : goal.loop-c-preserved
loop-c-preserved c =
    let turn = YieldsList-turn (YieldsList-from_chars c.args.text.now c.utf8.text cc) c.loop-c.yielded _ c.loop-c.yielded_by _ _ c.in-Some.c c.in-Some.is
    c.next.ensures.steps in
    char_more (chars c.args.text.now) (length c.loop-c.yielded) _ c.in-Some.c _ _ turn (length_push c.loop-c.yielded c.in-Some.c) c.loop-c.invariant
    c.in_ok-push.ensures.items

pub returns : goal.returns
returns c =
    let cs : List ℕ = chars c.args.text.now in
    let turn = YieldsList-end (YieldsList-from_chars c.args.text.now c.utf8.text cc) c.loop-c.yielded _ c.loop-c.yielded_by _ _ c.in-None.is
    c.next.ensures.steps in
    chars_read cs (length c.loop-c.yielded) _ c.loop-c.invariant (omega (arith, turn.1))
