use Rattle.std.proofs.Common.{refl, arith}
use Rattle.bx_paragraph.proofs.Places.{char-at, first-place, later-strong}
use Rattle.bx_paragraph.proofs.strong.last_strong.Goals as goal

pub loop-c-init : goal.loop-c-init
loop-c-init g c = record { place = first-place c.args.text.now c.utf8.text; bound = omega arith; last = tt }

pub loop-c-preserved : goal.loop-c-preserved
loop-c-preserved g c =
    let at = char-at c.args.text.now c.loop-c.index c.loop-c.start c.in-Some.c c.in-Some.stop c.loop-c.invariant.place c.in-Some.ensures.1 c.in-Some.ensures.2 in
    record {
      place = at.place;
      bound = omega (arith, c.loop-c.invariant.bound, c.in-Some.ensures.0);
      last = later-strong (g.D.BidiData.data c.args.tables.now) c.args.text.now c.loop-c.found
          (record { index = c.loop-c.index; class = c.class.result; start = c.loop-c.start; stop = c.in-Some.stop }) c.in-Some.c _ _ refl
          c.later-found.ensures c.loop-c.invariant.last c.loop-c.invariant.place at c.class.ensures;
    }
