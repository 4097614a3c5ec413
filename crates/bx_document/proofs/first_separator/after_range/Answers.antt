use Rattle.std.proofs.Common.{◌+◌, ◌++◌, ◌∙◌, ap, append_assoc, arith, chars, length, slice_range}
use Rattle.bx_document.specs.SeparatorReads.{crlf_from}
use Rattle.bx_document.proofs.SeparatorsRead.{none-between, part-first}
use Rattle.bx_document.proofs.first_separator.after_range.Goals as goal

pub loop-at-preserved : goal.loop-at-preserved
loop-at-preserved g c =
    let ucd = g.D.BidiData.data c.args.tables.now in
    let text = c.args.text.now.edited.text in
    let part = c.part_at-part.result.now in
    let left = chars (slice_range text (c.loop-at.at + length part) c.args.stop) in
    record {
      range = c.part_at-part.ensures.range;
      same = λ rest.
          c.loop-at.invariant.same rest
          ∙ ap (λ cs. crlf_from ucd c.loop-at.seen (cs ++ rest))
          (part-first text part c.loop-at.at c.args.stop c.part_at-part.utf8 c.part_at-part.ensures.bytes c.part_at-part.ensures.range.in_order)
          ∙ ap (crlf_from ucd c.loop-at.seen) (append_assoc (chars part) left rest) ∙ c.after_part-seen.ensures (left ++ rest);
    }

pub returns : goal.returns
returns g c = λ rest.
    c.loop-at.invariant.same rest
    ∙ ap (λ cs. crlf_from (g.D.BidiData.data c.args.tables.now) c.loop-at.seen (cs ++ rest))
    (none-between c.args.text.now.edited.text c.loop-at.at c.args.stop (omega (arith, c.loop-at-test.false)))
