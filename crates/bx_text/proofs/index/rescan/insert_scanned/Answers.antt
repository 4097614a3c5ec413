use Rattle.std.proofs.Common.{◌∙◌, length, ap, arith}
use Rattle.bx_text.specs.declared.index.lengths.Lengths.{Lengths}
use Rattle.bx_text.specs.index.Paragraphs.{total}
use Rattle.bx_text.proofs.index_lemmas.Spliced.{pushed_from}
use Rattle.bx_text.proofs.index_lemmas.Turns.{step, moved, none_left, still_all, now_all}
use Rattle.bx_text.proofs.index.rescan.insert_scanned.Goals as goal

pub loop-at-preserved : goal.loop-at-preserved
loop-at-preserved g c =
    let p : Lengths = c.paragraph_from-paragraph.result in
    let s = step (g.D.BidiData.data c.args.scanned.now.tables.now) c.args.scanned.now.text.now.edited.text c.loop-at.at c.paragraph_from-paragraph.ensures.utf8
    c.loop-at.invariant.bounds p c.args.stop c.bytes-at.result
    c.paragraph_from-paragraph.ensures.first (omega (arith, c.if-paragraph-eq0.false)) c.bytes-at.ensures
    (omega (arith, c.bytes-at.ensures, c.bytes.ensures, c.if-bytes-stop.false)) in
    let k = pushed_from c.loop-at.blocks.blocks c.push-position.new.self.blocks c.loop-at.position c.push-position.result p c.push-position.ensures.front
    c.push-position.ensures.back in
    record {
      bounds = s.ends_between;
      range = moved (g.D.BidiData.data c.args.scanned.now.tables.now) c.args.scanned.now.text.now.edited.text c.loop-at.at _ c.loop-at.range
          c.loop-at.invariant.range s.ends_between;
      position = c.push-position.ensures.position;
      front = still_all _ _ _ _ _ p c.push-position.ensures.front s.left c.loop-at.invariant.front;
      back = c.push-position.ensures.back ∙ c.loop-at.invariant.back;
      room = omega (arith, c.loop-at.invariant.room, ap length s.left, c.push-position.ensures.room);
      short = omega (arith, c.loop-at.invariant.short, ap total s.left, k.bytes);
      few = omega (arith, c.loop-at.invariant.few, ap length s.left, k.count);
      stop = omega (arith, c.loop-at.invariant.stop, ap total s.left, c.bytes-at.ensures);
    }

pub returns-clause-front : goal.returns-clause-front
returns-clause-front g c =
    let none = none_left (g.D.BidiData.data c.args.scanned.now.tables.now) c.args.scanned.now.text.now.edited.text c.loop-at.at c.args.stop (omega (arith, c.loop-at-test.false)) in
    now_all _ _ _ c.loop-at.invariant.front none

pub returns-clause-stop : goal.returns-clause-stop
returns-clause-stop g c =
    let none = none_left (g.D.BidiData.data c.args.scanned.now.tables.now) c.args.scanned.now.text.now.edited.text c.loop-at.at c.args.stop (omega (arith, c.loop-at-test.false)) in
    omega (arith, c.loop-at.invariant.stop, ap total none)
