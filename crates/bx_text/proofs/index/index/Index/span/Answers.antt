use Rattle.std.proofs.Common.{◌≡◌, ◌∙◌, ◌+◌, ◌∷◌, [], length, slice_get, ap, sym, arith, length-append}
use Rattle.bx_text.specs.index.Flat.{flat}
use Rattle.bx_text.specs.index.Paragraphs.{bytes_of, spans}
use Rattle.bx_text.specs.index.Index.{IndexState}
use Rattle.bx_text.proofs.index_lemmas.Cuts.{unended}
use Rattle.bx_text.proofs.index_lemmas.Totals.{total_push, total_more, total_front}
use Rattle.bx_text.proofs.index_lemmas.Asked.{span_of, span_of_last}
use Rattle.bx_text.proofs.index.index.Index.span.Goals as goal

pub overflow_add-result : goal.overflow_add-result
overflow_add-result c =
    let more = total_more (flat c.self.inside.front.blocks) c.args.number c.in-Some.paragraph c.in-Some.ensures.0 in
    omega (
      arith,
      more,
      total_front (c.args.number + 1) (flat c.self.inside.front.blocks),
      total_push (flat c.self.inside.front.blocks) (unended c.self.inside.last),
      c.self.invariant.short,
      c.in-Some.ensures.1,
      ap bytes_of c.in-Some.ensures.2,
    )

pub overflow_add-result-in-None : goal.overflow_add-result-in-None
overflow_add-result-in-None c =
    omega (arith, c.size-start.ensures.bytes, total_push (flat c.self.inside.front.blocks) (unended c.self.inside.last), c.self.invariant.short)

pub returns-in-Some-clause-span : goal.returns-in-Some-clause-span
returns-in-Some-clause-span c =
    sym (ap (λ (s : IndexState). slice_get (spans s.paragraphs) c.args.number) c.self.view_is)
    ∙ span_of (flat c.self.inside.front.blocks) (unended c.self.inside.last) c.in-Some.paragraph c.args.number c.in-Some.start c.in-Some.ensures.0
    c.in-Some.ensures.1 c.in-Some.ensures.2

pub returns-in-None-clause-span : goal.returns-in-None-clause-span
returns-in-None-clause-span c =
    let last : c.args.number ≡ length (flat c.self.inside.front.blocks) =
    omega (
      arith,
      c.in-None.ensures,
      c.requires,
      ap (λ (s : IndexState). length s.paragraphs) c.self.view_is,
      length-append (flat c.self.inside.front.blocks) (unended c.self.inside.last ∷ []),
    ) in
    sym (ap (λ (s : IndexState). slice_get (spans s.paragraphs) c.args.number) c.self.view_is)
    ∙ span_of_last (flat c.self.inside.front.blocks) (unended c.self.inside.last) c.args.number c.size-start.result.1 last c.size-start.ensures.bytes
