use Rattle.std.proofs.Common.{◌≡◌, ◌<◌, ◌≤◌, ◌∷◌, IsCharBoundary, true, drop, length, subst, sym, arith}
use Rattle.unicode_segmentation.specs.Grapheme.{graphemes}
use Rattle.bx_view.specs.Numbers.{boundaries}
use Rattle.bx_view.proofs.UnitsAround.{reached-next, reached-part, start-is, stop-is}
use Rattle.bx_view.proofs.WordParts.{IsPart}
use Rattle.bx_view.proofs.moves_lemmas.WordRows.{row-above, row-part}
use Rattle.bx_view.proofs.moves.stretch.unit_around.Goals as goal
use Rattle.bx_view.proofs.moves.stretch.unit_around.Goals.{After-first-at}

-- the unit at which the offset's row begins
part : (g : _) (c : After-first-at g) → IsPart c.args.paragraph.now.body c.first-at.result
part g c =
    let ucd = g.D.BidiData.data c.args.tables.now in
    let sound = c.row_of.ensures.sound in
    row-part ucd c.args.paragraph.now c.requires.data sound.side sound.utf8 c.row_of.result c.first-at.result (c.first-at.ensures ucd c.requires.data)
    c.row_of.ensures.within

low : (g : _) (c : After-first-at g) → c.first-at.result ≤ c.args.offset
low g c =
    let ucd = g.D.BidiData.data c.args.tables.now in
    let sound = c.row_of.ensures.sound in
    row-above ucd c.args.paragraph.now c.requires.data sound.side sound.utf8 c.row_of.result c.first-at.result (c.first-at.ensures ucd c.requires.data)
    c.args.offset c.row_of.result (c.row_of.ensures.row ucd c.requires.data) (omega arith)

pub unit_end-stop-requires-clause-start : goal.unit_end-stop-requires-clause-start
unit_end-stop-requires-clause-start g c =
    let p = part g (goal.at.unit_end-stop-requires-clause-start g c).After-first-at in
    subst (λ b. IsCharBoundary b c.first-at.result) (sym c.body-body.ensures) p.bound

pub unit_end-stop-requires-clause-some : goal.unit_end-stop-requires-clause-some
unit_end-stop-requires-clause-some g c =
    let order = low g (goal.at.unit_end-stop-requires-clause-some g c).After-first-at in
    subst (λ b. c.first-at.result < length b) (sym c.body-body.ensures) (omega (arith, order, c.requires.within))

pub loop-stop-init : goal.loop-stop-init
loop-stop-init g c =
    let body = c.args.paragraph.now.body in
    let at = c.first-at.result in
    let stop = c.unit_end-stop.result in
    record {
      low = low g (goal.at.loop-stop-init g c).After-first-at;
      later = c.unit_end-stop.ensures.later;
      bound = subst (λ b. IsCharBoundary b stop) c.body-body.ensures c.unit_end-stop.ensures.boundary;
      reached = reached-part body at (part g (goal.at.loop-stop-init g c).After-first-at);
      next = subst (λ b. boundaries at (graphemes true (drop at b)) ≡ at ∷ boundaries stop (graphemes true (drop stop b))) c.body-body.ensures
          c.unit_end-stop.ensures.places;
    }

pub loop-stop-preserved : goal.loop-stop-preserved
loop-stop-preserved g c =
    let body = c.args.paragraph.now.body in
    let i = c.loop-stop.invariant in
    let at = c.loop-stop.stop in
    let stop = c.unit_end-stop-in-loop-stop.result in
    record {
      low = omega (arith, c.loop-stop-test.true);
      later = c.unit_end-stop-in-loop-stop.ensures.later;
      bound = subst (λ b. IsCharBoundary b stop) c.body-body.ensures c.unit_end-stop-in-loop-stop.ensures.boundary;
      reached = reached-next body c.loop-stop.at at i.reached i.later i.next;
      next = subst (λ b. boundaries at (graphemes true (drop at b)) ≡ at ∷ boundaries stop (graphemes true (drop stop b))) c.body-body.ensures
          c.unit_end-stop-in-loop-stop.ensures.places;
    }

pub returns-clause-start : goal.returns-clause-start
returns-clause-start g c =
    let i = c.loop-stop.invariant in
    start-is c.args.paragraph.now.body c.loop-stop.at c.loop-stop.stop c.args.offset i.reached i.low (omega (arith, c.loop-stop-test.false)) i.next
    c.requires.within

pub returns-clause-stop : goal.returns-clause-stop
returns-clause-stop g c =
    let i = c.loop-stop.invariant in
    stop-is c.args.paragraph.now.body c.loop-stop.at c.loop-stop.stop c.args.offset i.reached i.low (omega (arith, c.loop-stop-test.false)) i.next

pub returns-clause-own : goal.returns-clause-own
returns-clause-own g c =
    let i = c.loop-stop.invariant in
    stop-is c.args.paragraph.now.body c.loop-stop.at c.loop-stop.stop c.loop-stop.at i.reached (omega arith) i.later i.next
