use Rattle.std.proofs.Common.{take, refl, sym, arith}
use Rattle.bx_text.specs.index.Paragraphs.{total}
use Rattle.bx_text.specs.index.Spots.{closed}
use Rattle.bx_text.proofs.index_lemmas.Walks.{number_inside, begins_next}
use Rattle.bx_text.proofs.index.walk.ParagraphWalk.to_previous.Goals as goal

pub overflow_sub-self : goal.overflow_sub-self
overflow_sub-self c =
    let w = c.self.inside in
    let ps = closed w.blocks.now.blocks w.last in
    let spot = c.in-Some.spot in
    let (next, stands) = c.in-Some.ensures in
    let inside = number_inside w.blocks.now.blocks w.last spot stands in
    let sum = begins_next ps spot.number w.spot.number (total (take spot.number ps)) c.bytes.result c.paragraph_at-self-inside.result inside refl
    c.paragraph_at-self-inside.ensures c.bytes.ensures (sym next) in
    omega (arith, sum, c.self.invariant.begins)

pub invariant_of-self : goal.invariant_of-self
invariant_of-self c =
    let w = c.self.inside in
    let ps = closed w.blocks.now.blocks w.last in
    let spot = c.in-Some.spot in
    let (next, stands) = c.in-Some.ensures in
    let inside = number_inside w.blocks.now.blocks w.last spot stands in
    let sum = begins_next ps spot.number w.spot.number (total (take spot.number ps)) c.bytes.result c.paragraph_at-self-inside.result inside refl
    c.paragraph_at-self-inside.ensures c.bytes.ensures (sym next) in
    record {
      stands = stands;
      begins = omega (arith, sum, c.self.invariant.begins);
      is = c.paragraph_at-self-inside.ensures;
      short = c.self.invariant.short;
    }
