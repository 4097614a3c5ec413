use Rattle.std.proofs.Common.{length, chars, arith, ◌∙◌, sym}
use Rattle.std.proofs.lemmas.List.{length_push}
use Rattle.std.proofs.lemmas.Iterator.{YieldsList-from_chars}
use Rattle.std.proofs.lemmas.Iterator.Consumers.{YieldsList-turn, YieldsList-end}
use Rattle.bx_rows.proofs.Unmirrored.{same_all, same_more}
use Rattle.bx_rows.proofs.mirrors.any_mirror.Goals as goal

pub loop-c-preserved : goal.loop-c-preserved
loop-c-preserved g c =
    let t = YieldsList-turn (YieldsList-from_chars c.args.text.now c.utf8.text cc) c.loop-c.yielded _ c.loop-c.yielded_by _ _ c.in-Some.c c.in-Some.is
    c.next.ensures.steps in
    same_more (g.D.BidiData.data c.args.tables.now) (chars c.args.text.now) (length c.loop-c.yielded) _ c.in-Some.c c.mirror.result
    t (length_push c.loop-c.yielded c.in-Some.c) c.mirror.ensures (sym c.is_some.ensures ∙ c.if-is_some.false) c.loop-c.invariant

pub returns : goal.returns
returns g c = λ _.
    let t = YieldsList-end (YieldsList-from_chars c.args.text.now c.utf8.text cc) c.loop-c.yielded _ c.loop-c.yielded_by _ _ c.in-None.is
    c.next.ensures.steps in
    same_all (g.D.BidiData.data c.args.tables.now) c.args.text.now (length c.loop-c.yielded) c.utf8.text c.loop-c.invariant (omega (arith, t.1))
