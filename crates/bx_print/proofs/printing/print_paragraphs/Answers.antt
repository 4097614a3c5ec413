use Rattle.std.proofs.Common.{◌<◌, ◌≤◌, [], ◌++◌, ap, sym, subst, length, arith}
use Rattle.std.specs.Io.KnownBytes.{Appends}
use Rattle.bx_text.specs.index.Paragraphs.{bare, paragraphs}
use Rattle.bx_view.proofs.Numbers.{lengths-count}
use Rattle.bx_bytes.specs.Writing.{WritesFront}
use Rattle.bx_print.proofs.PageParts.{lines_of, page-is}
use Rattle.bx_print.proofs.Parts.{all-sent, front-sent, more-sent, none-sent, some-sent, then-ok}
use Rattle.bx_print.proofs.printing.print_paragraphs.Goals as goal

pub push_paragraph-requires : goal.push_paragraph-requires
push_paragraph-requires g c =
    let ucd = g.D.BidiData.data c.args.text_ref.now.tables.now in
    let all = lengths-count ucd c.args.text_ref.now.text.now.edited.text in
    omega (arith, c.count-count.ensures.some, c.count-count.ensures.count, ap length c.args.text_ref.now.indexed, all)

pub returns-in_err-send_full-clause-front : goal.returns-in_err-send_full-clause-front
returns-in_err-send_full-clause-front g c =
    let ucd = g.D.BidiData.data c.args.text_ref.now.tables.now in
    let text = c.args.text_ref.now.text.now.edited.text in
    let style = c.args.style in
    let lines = lines_of ucd style.placeholders style.base style.columns in
    let h = c.loop-number.invariant in
    let s = c.in_err-send_full.ensures.sent in
    subst (λ bs. WritesFront bs (g.W.Write.contents c.args.writer.now) (g.W.Write.contents c.send_full.new.writer)) (sym (page-is ucd style.placeholders style.base style.columns text))
    (front-sent lines (paragraphs ucd text) _ _ _ _ h.0 h.1 _ (s.0, s.1, s.2))

pub returns-in_err-push_paragraph-2-clause-front : goal.returns-in_err-push_paragraph-2-clause-front
returns-in_err-push_paragraph-2-clause-front g c =
    let ucd = g.D.BidiData.data c.args.text_ref.now.tables.now in
    let text = c.args.text_ref.now.text.now.edited.text in
    let style = c.args.style in
    let lines = lines_of ucd style.placeholders style.base style.columns in
    let h = c.loop-number.invariant in
    let s = c.in_ok-send_full.ensures.sent in
    subst (λ bs. WritesFront bs (g.W.Write.contents c.args.writer.now) (g.W.Write.contents c.send_full.new.writer)) (sym (page-is ucd style.placeholders style.base style.columns text))
    (none-sent lines (paragraphs ucd text) _ _ _ _ (h.0 ++ s.0)
    (some-sent lines (paragraphs ucd text) _ _ _ _ h.0 h.1 _ c.send_full.new.pending.items s.0 s.1 s.2 s.3))

pub loop-number-preserved : goal.loop-number-preserved
loop-number-preserved g c =
    let ucd = g.D.BidiData.data c.args.text_ref.now.tables.now in
    let text = c.args.text_ref.now.text.now.edited.text in
    let style = c.args.style in
    let lines = lines_of ucd style.placeholders style.base style.columns in
    let h = c.loop-number.invariant in
    let s = c.in_ok-send_full.ensures.sent in
    let within : c.loop-number.number < length (paragraphs ucd text) =
    omega (arith, c.loop-number-test.true, c.count-count.ensures.count, ap length c.args.text_ref.now.indexed, lengths-count ucd text) in (
      h.0 ++ s.0,
      more-sent lines (paragraphs ucd text) _ _ _ _ (h.0 ++ s.0)
          (some-sent lines (paragraphs ucd text) _ _ _ _ h.0 h.1 _ c.send_full.new.pending.items s.0 s.1 s.2 s.3) (bare []) _ within
          c.in_ok-push_paragraph-2.ensures.lines,
    )

pub returns-clause-page : goal.returns-clause-page
returns-clause-page g c =
    let ucd = g.D.BidiData.data c.args.text_ref.now.tables.now in
    let text = c.args.text_ref.now.text.now.edited.text in
    let style = c.args.style in
    let lines = lines_of ucd style.placeholders style.base style.columns in
    let h = c.loop-number.invariant in
    let old = g.W.Write.contents c.args.writer.now in
    let new = g.W.Write.contents c.finish.new.writer in
    let last : length (paragraphs ucd text) ≤ c.loop-number.number =
    omega (arith, c.loop-number-test.false, c.count-count.ensures.count, ap length c.args.text_ref.now.indexed, lengths-count ucd text) in
    then-ok c.finish.result _ _
    (λ all. subst (λ bs. Appends old new bs) (sym (page-is ucd style.placeholders style.base style.columns text))
    (all-sent lines (paragraphs ucd text) _ _ _ _ h.0 h.1 new last
    (subst (λ bs. Appends (g.W.Write.contents c.loop-number.writer) new bs) c.deref.ensures.value all)))
    c.finish.ensures.all

pub returns-clause-front : goal.returns-clause-front
returns-clause-front g c =
    let ucd = g.D.BidiData.data c.args.text_ref.now.tables.now in
    let text = c.args.text_ref.now.text.now.edited.text in
    let style = c.args.style in
    let lines = lines_of ucd style.placeholders style.base style.columns in
    let h = c.loop-number.invariant in
    let old = g.W.Write.contents c.args.writer.now in
    let new = g.W.Write.contents c.finish.new.writer in
    subst (λ bs. WritesFront bs old new) (sym (page-is ucd style.placeholders style.base style.columns text))
    (front-sent lines (paragraphs ucd text) _ _ _ _ h.0 h.1 new
    (subst (λ bs. WritesFront bs (g.W.Write.contents c.loop-number.writer) new) c.deref.ensures.value c.finish.ensures.front))
