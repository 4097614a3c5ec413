use Rattle.std.proofs.Common.{arith}
use Rattle.bx_text.specs.index.Spots.{closed}
use Rattle.bx_text.proofs.index_lemmas.Walks.{number_inside, behind_is, begins_next}
use Rattle.bx_text.proofs.index.walk.ParagraphWalk.to_next.Goals as goal

pub overflow_add-self : goal.overflow_add-self
overflow_add-self c =
    let w = c.self.inside in
    let inside = number_inside w.blocks.now.blocks w.last w.spot c.self.invariant.stands in
    let behind = behind_is (closed w.blocks.now.blocks w.last) w.spot.number w.start w.here inside c.self.invariant.begins c.self.invariant.is in
    omega (arith, behind, c.bytes.ensures, c.self.invariant.short)

pub invariant_of-self : goal.invariant_of-self
invariant_of-self c =
    let w = c.self.inside in
    let (next, _, stands) = c.in-Some.ensures in
    let inside = number_inside w.blocks.now.blocks w.last w.spot c.self.invariant.stands in
    record {
      stands = stands;
      begins = begins_next (closed w.blocks.now.blocks w.last) w.spot.number c.in-Some.spot.number w.start c.bytes.result w.here inside c.self.invariant.begins
          c.self.invariant.is c.bytes.ensures next;
      is = c.paragraph_at-self-inside.ensures;
      short = c.self.invariant.short;
    }
