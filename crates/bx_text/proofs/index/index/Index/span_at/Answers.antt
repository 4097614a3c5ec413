use Rattle.std.proofs.Common.{◌≡◌, ◌∙◌, ap, slice_get, sym, take, arith}
use Rattle.bx_text.specs.index.Flat.{flat}
use Rattle.bx_text.specs.index.Paragraphs.{paragraph_of, spans, total}
use Rattle.bx_text.specs.index.Index.{IndexState}
use Rattle.bx_text.proofs.index_lemmas.Cuts.{unended}
use Rattle.bx_text.proofs.index_lemmas.Totals.{total_front, total_push}
use Rattle.bx_text.proofs.index_lemmas.Asked.{ended_span, last_span, span_is}
use Rattle.bx_text.proofs.index.index.Index.span_at.Goals as goal

pub overflow_add-result : goal.overflow_add-result
overflow_add-result c =
    let blocks = flat c.self.inside.front.blocks in
    let before : c.find-span.result.start ≡ total (take c.find-span.result.number blocks) = c.find-span.ensures.start in
    omega (
      arith,
      before,
      total_front c.find-span.result.number blocks,
      total_push blocks (unended c.self.inside.last),
      c.self.invariant.short,
    )

pub returns-in_default-clause-number : goal.returns-in_default-clause-number
returns-in_default-clause-number c =
    span_is (flat c.self.inside.front.blocks) (unended c.self.inside.last) c.args.offset c.find-span.result c.find-span.ensures
    ∙ ap (λ (s : IndexState). paragraph_of s.paragraphs c.args.offset) c.self.view_is

pub returns-in_default-clause-span : goal.returns-in_default-clause-span
returns-in_default-clause-span c =
    sym (ap (λ (s : IndexState). slice_get (spans s.paragraphs) c.find-span.result.number) c.self.view_is)
    ∙ last_span (flat c.self.inside.front.blocks) (unended c.self.inside.last) c.args.offset c.find-span.result c.find-span.ensures c.in_default.is

pub overflow_sub-result : goal.overflow_sub-result
overflow_sub-result c = (ended_span (flat c.self.inside.front.blocks) (unended c.self.inside.last) c.args.offset c.find-span.result c.in-Some.end
    c.find-span.ensures c.in-Some.is).order

pub returns-clause-number : goal.returns-clause-number
returns-clause-number c =
    span_is (flat c.self.inside.front.blocks) (unended c.self.inside.last) c.args.offset c.find-span.result c.find-span.ensures
    ∙ ap (λ (s : IndexState). paragraph_of s.paragraphs c.args.offset) c.self.view_is

pub returns-clause-span : goal.returns-clause-span
returns-clause-span c =
    sym (ap (λ (s : IndexState). slice_get (spans s.paragraphs) c.find-span.result.number) c.self.view_is)
    ∙ (ended_span (flat c.self.inside.front.blocks) (unended c.self.inside.last) c.args.offset c.find-span.result c.in-Some.end
    c.find-span.ensures c.in-Some.is).span
