use Rattle.std.proofs.Common.{◌∙◌, slice_get, ap, sym, arith}
use Rattle.bx_text.specs.index.Paragraphs.{spans}
use Rattle.bx_text.specs.index.Spots.{closed}
use Rattle.bx_text.specs.index.Walk.{WalkState}
use Rattle.bx_text.proofs.index_lemmas.Walks.{number_inside, span_is, behind_is}
use Rattle.bx_text.proofs.index.walk.ParagraphWalk.span.Goals as goal

pub overflow_add-result : goal.overflow_add-result
overflow_add-result c =
    let w = c.self.inside in
    let inside = number_inside w.blocks.now.blocks w.last w.spot c.self.invariant.stands in
    let behind = behind_is (closed w.blocks.now.blocks w.last) w.spot.number w.start w.here inside c.self.invariant.begins c.self.invariant.is in
    omega (arith, behind, c.self.invariant.short)

pub returns-clause-span : goal.returns-clause-span
returns-clause-span c =
    let w = c.self.inside in
    let inside = number_inside w.blocks.now.blocks w.last w.spot c.self.invariant.stands in
    sym (ap (λ (s : WalkState). slice_get (spans s.paragraphs) s.number) c.self.view_is)
    ∙ span_is (closed w.blocks.now.blocks w.last) w.spot.number w.start w.here inside c.self.invariant.begins c.self.invariant.is
