use Rattle.std.proofs.Common.{◌≡◌, ◌+◌, ◌<◌, ◌∙◌, ap, arith, length}
use Rattle.bx_common.specs.declared.base.Base.TheVariants.{Auto}
use Rattle.bx_rows.specs.RowStarts.{row_starts}
use Rattle.bx_view.specs.Numbers.{body_at, count}
use Rattle.bx_view_laws.proofs.Counted.{ahead-more, few-ahead, walked-on}
use Rattle.bx_view.proofs.Numbers.{lengths-count, some-paragraph}
use Rattle.bx_paragraph.proofs.Starts.{side-some}
use Rattle.bx_view_laws.proofs.library.rows_before.Goals as goal

pub walk_at-walk-requires-clause-inside : goal.walk_at-walk-requires-clause-inside
walk_at-walk-requires-clause-inside g c =
    let s = c.args.text_ref.now in
    let ucd = g.D.BidiData.data s.tables.now in
    let text = s.text.now.edited.text in
    omega (arith, some-paragraph ucd text s.utf8, ap length s.indexed, lengths-count ucd text)

pub overflow_add-ahead : goal.overflow_add-ahead
overflow_add-ahead g c =
    let ucd = g.D.BidiData.data c.args.text_ref.now.tables.now in
    let text = c.args.text_ref.now.text.now.edited.text in
    let i = c.loop-done.invariant in
    let w = c.args.w in
    let some = side-some w c.requires.side in
    let within : c.loop-done.done < count ucd text = omega (arith, c.loop-done-test.true, c.requires.number) in
    let starts = c.in_ok-starts.ensures ∙ ap (λ k. row_starts ucd w (body_at ucd text k)) (i.number within) in
    let more = ahead-more ucd Auto w some text c.args.text_ref.now.utf8 c.loop-done.done c.loop-done.ahead c.in_ok-starts.starts.items
    within starts (i.ahead Auto) in
    omega (
      arith,
      more,
      few-ahead ucd Auto w some text c.args.text_ref.now.utf8 (c.loop-done.done + 1),
      c.args.text_ref.now.short,
      c.len-ahead.ensures,
    )

pub loop-done-preserved : goal.loop-done-preserved
loop-done-preserved g c =
    let ucd = g.D.BidiData.data c.args.text_ref.now.tables.now in
    let text = c.args.text_ref.now.text.now.edited.text in
    let i = c.loop-done.invariant in
    let w = c.args.w in
    let some = side-some w c.requires.side in
    let within : c.loop-done.done < count ucd text = omega (arith, c.loop-done-test.true, c.requires.number) in
    let starts = c.in_ok-starts.ensures ∙ ap (λ k. row_starts ucd w (body_at ucd text k)) (i.number within) in
    let size : length c.loop-done.walk.paragraphs ≡ count ucd text = ap length i.paragraphs ∙ lengths-count ucd text in
    record {
      paragraphs = c.to_next-more.ensures.paragraphs ∙ i.paragraphs;
      number = λ further. walked-on c.to_next-more.result c.loop-done.walk.number c.to_next-more.new.self.number c.loop-done.done
          (length c.loop-done.walk.paragraphs) c.to_next-more.ensures.there c.to_next-more.ensures.number (i.number within)
          (omega (arith, further, size));
      within = omega (arith, c.loop-done-test.true);
      ahead = λ base.
          let more = ahead-more ucd base w some text c.args.text_ref.now.utf8 c.loop-done.done c.loop-done.ahead c.in_ok-starts.starts.items
          within starts (i.ahead base) in
          omega (arith, more, c.len-ahead.ensures);
    }
