use Rattle.std.proofs.Common.{◌∙◌, slice_get, ap, sym}
use Rattle.bx_text.specs.index.Walk.{separators, WalkState}
use Rattle.bx_text.specs.index.Spots.{closed}
use Rattle.bx_text.proofs.index_lemmas.Walks.{number_inside, separator_is}
use Rattle.bx_text.proofs.index.walk.ParagraphWalk.separator.Goals as goal

pub returns : goal.returns
returns c =
    let w = c.self.inside in
    let inside = number_inside w.blocks.now.blocks w.last w.spot c.self.invariant.stands in
    sym (ap (λ (s : WalkState). slice_get (separators s.paragraphs) s.number) c.self.view_is)
    ∙ separator_is (closed w.blocks.now.blocks w.last) w.spot.number w.here inside c.self.invariant.is
