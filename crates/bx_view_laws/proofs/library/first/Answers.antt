use Rattle.std.proofs.Common.{◌≡◌, ◌+◌, ◌<◌, ◌≤◌, ◌∙◌, Some, refl, ap, arith, get_or, length, option_map, slice_get}
use Rattle.bx_common.specs.Characters.{is_side}
use Rattle.bx_rows.specs.RowStarts.{row_starts}
use Rattle.bx_view.specs.Standing.{rows_ahead}
use Rattle.bx_view.specs.Numbers.{body_at, count, start_at}
use Rattle.bx_view.specs.TextRows.{first, text_rows}
use Rattle.bx_view_laws.proofs.Counted.{ahead-more, first-counted, none-counted, start-fits, walked-on}
use Rattle.bx_view.proofs.Numbers.{lengths-count}
use Rattle.bx_paragraph.proofs.Starts.{side-some}
use Rattle.bx_view_laws.proofs.library.first.Goals as goal

pub overflow_add-result : goal.overflow_add-result
overflow_add-result g c =
    let ucd = g.D.BidiData.data c.args.text_ref.now.tables.now in
    let text = c.args.text_ref.now.text.now.edited.text in
    let base = c.args.view.now.base in
    let w = c.width-w.result in
    let some = side-some w (ap is_side c.width-w.ensures.width ∙ c.width-w.ensures.side) in
    let utf8 = c.args.text_ref.now.utf8 in
    let i = c.loop-done.invariant in
    let done = c.loop-done.done in
    let within : done < count ucd text = omega (
      arith,
      c.loop-done-test.true,
      c.count-count.ensures.count,
      ap length c.args.text_ref.now.indexed,
      lengths-count ucd text,
    ) in
    let items = c.in_ok-starts.starts.items in
    let starts = c.in_ok-starts.ensures ∙ ap (λ k. row_starts ucd w (body_at ucd text k)) (i.number within) in
    let there : c.loop-done.left < length items = omega (arith, c.if-left-len.true, c.len.ensures) in
    let start : c.current_span-span.result.start ≡ start_at ucd text done = c.current_span-span.ensures.is.start ∙ ap (start_at ucd text) (c.current_span-span.ensures.number ∙ i.number within) in
    let offset : c.index.result.now.offset ≡ (get_or items c.loop-done.left c.index.result.now).offset = ap (λ s. s.offset) c.index.ensures in
    let fits = start-fits ucd base w some text utf8 done c.loop-done.left c.args.row items within starts i.ahead there c.index.result.now
    c.current_span-span.result.start start in
    omega (arith, fits, offset, c.args.text_ref.now.short)

pub returns-then-left-len : goal.returns-then-left-len
returns-then-left-len g c =
    let ucd = g.D.BidiData.data c.args.text_ref.now.tables.now in
    let text = c.args.text_ref.now.text.now.edited.text in
    let base = c.args.view.now.base in
    let w = c.width-w.result in
    let some = side-some w (ap is_side c.width-w.ensures.width ∙ c.width-w.ensures.side) in
    let utf8 = c.args.text_ref.now.utf8 in
    let i = c.loop-done.invariant in
    let done = c.loop-done.done in
    let within : done < count ucd text = omega (
      arith,
      c.loop-done-test.true,
      c.count-count.ensures.count,
      ap length c.args.text_ref.now.indexed,
      lengths-count ucd text,
    ) in
    let items = c.in_ok-starts.starts.items in
    let starts = c.in_ok-starts.ensures ∙ ap (λ k. row_starts ucd w (body_at ucd text k)) (i.number within) in
    let there : c.loop-done.left < length items = omega (arith, c.if-left-len.true, c.len.ensures) in
    let start : c.current_span-span.result.start ≡ start_at ucd text done = c.current_span-span.ensures.is.start ∙ ap (start_at ucd text) (c.current_span-span.ensures.number ∙ i.number within) in
    let offset : c.index.result.now.offset ≡ (get_or items c.loop-done.left c.index.result.now).offset = ap (λ s. s.offset) c.index.ensures in
    ap (λ o. Some (c.current_span-span.result.start + o)) offset
    ∙ first-counted ucd base w some text utf8 done c.loop-done.left c.args.row items within starts i.ahead there c.index.result.now
    c.current_span-span.result.start start
    ∙ ap (λ w. option_map first (slice_get (text_rows ucd base w text) c.args.row)) c.width-w.ensures.width

pub loop-done-preserved : goal.loop-done-preserved
loop-done-preserved g c =
    let ucd = g.D.BidiData.data c.args.text_ref.now.tables.now in
    let text = c.args.text_ref.now.text.now.edited.text in
    let base = c.args.view.now.base in
    let w = c.width-w.result in
    let some = side-some w (ap is_side c.width-w.ensures.width ∙ c.width-w.ensures.side) in
    let utf8 = c.args.text_ref.now.utf8 in
    let i = c.loop-done.invariant in
    let done = c.loop-done.done in
    let within : done < count ucd text = omega (
      arith,
      c.loop-done-test.true,
      c.count-count.ensures.count,
      ap length c.args.text_ref.now.indexed,
      lengths-count ucd text,
    ) in
    let items = c.in_ok-starts.starts.items in
    let starts = c.in_ok-starts.ensures ∙ ap (λ k. row_starts ucd w (body_at ucd text k)) (i.number within) in
    let size : length c.loop-done.walk.paragraphs ≡ count ucd text = ap length i.paragraphs ∙ lengths-count ucd text in
    let more : rows_ahead ucd base w text done + length items ≡ rows_ahead ucd base w text (done + 1) =
    ahead-more ucd base w some text utf8 done (rows_ahead ucd base w text done) items within starts refl in
    record {
      paragraphs = c.to_next-more.ensures.paragraphs ∙ i.paragraphs;
      number = λ further. walked-on c.to_next-more.result c.loop-done.walk.number c.to_next-more.new.self.number done
          (length c.loop-done.walk.paragraphs) c.to_next-more.ensures.there c.to_next-more.ensures.number (i.number within)
          (omega (arith, further, size));
      ahead = omega (arith, more, i.ahead, c.if-left-len.false, c.len.ensures, c.len-left.ensures);
    }

pub returns : goal.returns
returns g c =
    let ucd = g.D.BidiData.data c.args.text_ref.now.tables.now in
    let text = c.args.text_ref.now.text.now.edited.text in
    let base = c.args.view.now.base in
    let w = c.width-w.result in
    let some = side-some w (ap is_side c.width-w.ensures.width ∙ c.width-w.ensures.side) in
    let utf8 = c.args.text_ref.now.utf8 in
    let i = c.loop-done.invariant in
    let done = c.loop-done.done in
    let past : count ucd text ≤ done = omega (
      arith,
      c.loop-done-test.false,
      c.count-count.ensures.count,
      ap length c.args.text_ref.now.indexed,
      lengths-count ucd text,
    ) in
    none-counted ucd base w some text utf8 done c.loop-done.left c.args.row past i.ahead
    ∙ ap (λ w. option_map first (slice_get (text_rows ucd base w text) c.args.row)) c.width-w.ensures.width
