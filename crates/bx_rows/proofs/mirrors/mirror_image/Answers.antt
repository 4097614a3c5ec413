use Rattle.std.proofs.Common.{length, chars, arith}
use Rattle.std.proofs.lemmas.List.{length_push}
use Rattle.std.proofs.lemmas.Iterator.{YieldsList-from_chars}
use Rattle.std.proofs.lemmas.Iterator.Consumers.{YieldsList-turn, YieldsList-end}
use Rattle.bx_rows.proofs.GlyphTexts.{mirror_image-more, mirror_image-all}
use Rattle.bx_rows.proofs.mirrors.mirror_image.Goals as goal

pub loop-c-preserved : goal.loop-c-preserved
loop-c-preserved g c =
    let t = YieldsList-turn (YieldsList-from_chars c.args.text.now c.utf8.text cc) c.loop-c.yielded _ c.loop-c.yielded_by _ _ c.in-Some.c c.in-Some.is
    c.next.ensures.steps in
    mirror_image-more (g.D.BidiData.data c.args.tables.now) (chars c.args.text.now) (length c.loop-c.yielded) _ c.in-Some.c c.mirror.result
    c.unwrap_or.result
    _ _ t (length_push c.loop-c.yielded c.in-Some.c) c.mirror.ensures c.unwrap_or.ensures c.loop-c.invariant c.in_ok-push.ensures.bytes

pub returns : goal.returns
returns g c =
    let cs = chars c.args.text.now in
    let t = YieldsList-end (YieldsList-from_chars c.args.text.now c.utf8.text cc) c.loop-c.yielded _ c.loop-c.yielded_by _ _ c.in-None.is
    c.next.ensures.steps in
    mirror_image-all (g.D.BidiData.data c.args.tables.now) cs (length c.loop-c.yielded) _ c.loop-c.invariant (omega (arith, t.1))
