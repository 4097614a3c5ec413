use Rattle.std.proofs.Common.{◌≡◌, ◌+◌, ◌++◌, ◌∙◌, append_assoc, ap, drop, length, slice_range, string_bytes, subst, sym, take}
use Rattle.bx_text.specs.Changes.{IsRange}
use Rattle.bx_text.proofs.Lent.{range_split}
use Rattle.bx_document.proofs.document.Document.push_range.Goals as goal

pub loop-at-preserved : goal.loop-at-preserved
loop-at-preserved g c =
    let text = c.args.self.now.document.content.text in
    let at = c.loop-at.at in
    let part = c.part_at-part.result.now in
    let old = string_bytes c.loop-at.copy in
    let rest = slice_range text (at + length part) c.args.stop in
    let range = subst (λ s. IsRange s.document.content.text (at + length part) c.args.stop)
    c.self.view_is c.part_at-part.ensures.range in
    let bytes = subst (λ s. take (length part) (drop at s.document.content.text) ≡ part)
    c.self.view_is c.part_at-part.ensures.bytes in
    record {
      range = range;
      whole = ap (λ bs. bs ++ rest) c.in_ok-push_str.ensures.bytes ∙ append_assoc old part rest
          ∙ ap (λ bs. old ++ bs) (sym (range_split text part at c.args.stop bytes range.in_order)) ∙ c.loop-at.invariant.whole;
    }
