use Rattle.std.proofs.Common.{sym, arith}
use Rattle.bx_paragraph.proofs.Places.{char-at, first-place, strong-at}
use Rattle.bx_paragraph.proofs.strong.first_strong.Goals as goal

pub loop-c-init : goal.loop-c-init
loop-c-init g c = record { place = first-place c.args.text.now c.utf8.text; bound = omega arith }

pub returns-then-is_strong : goal.returns-then-is_strong
returns-then-is_strong g c =
    let at = char-at c.args.text.now c.loop-c.index c.loop-c.start c.in-Some.c c.in-Some.stop c.loop-c.invariant.place c.in-Some.ensures.1 c.in-Some.ensures.2 in
    strong-at (g.D.BidiData.data c.args.tables.now) c.args.text.now
    (record { index = c.loop-c.index; class = c.class-class.result; start = c.loop-c.start; stop = c.in-Some.stop }) c.in-Some.c c.loop-c.invariant.place at
    c.class-class.ensures (sym c.if-is_strong.ensures)

pub loop-c-preserved : goal.loop-c-preserved
loop-c-preserved g c =
    let at = char-at c.args.text.now c.loop-c.index c.loop-c.start c.in-Some.c c.in-Some.stop c.loop-c.invariant.place c.in-Some.ensures.1 c.in-Some.ensures.2 in
    record { place = at.place; bound = omega (arith, c.loop-c.invariant.bound, c.in-Some.ensures.0) }
