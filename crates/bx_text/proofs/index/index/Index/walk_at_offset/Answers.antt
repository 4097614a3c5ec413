use Rattle.std.proofs.Common.{◌∙◌, ap}
use Rattle.bx_text.specs.index.Flat.{flat}
use Rattle.bx_text.specs.index.Paragraphs.{paragraph_of}
use Rattle.bx_text.specs.index.Index.{IndexState}
use Rattle.bx_text.specs.index.Spots.{closed}
use Rattle.bx_text.proofs.index_lemmas.Cuts.{unended}
use Rattle.bx_text.proofs.index_lemmas.Asked.{span_is}
use Rattle.bx_text.proofs.index.index.Index.walk_at_offset.Goals as goal

pub returns : goal.returns
returns c =
    let i = c.self.inside in
    c.new.ensures
    ∙ ap (λ n. record { paragraphs = closed i.front.blocks i.last; number = n })
    (span_is (flat i.front.blocks) (unended i.last) c.args.offset c.find-span.result c.find-span.ensures)
    ∙ ap (λ (s : IndexState). record { paragraphs = s.paragraphs; number = paragraph_of s.paragraphs c.args.offset }) c.self.view_is
