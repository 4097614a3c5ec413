use Rattle.std.proofs.Common.{◌≡◌, ◌++◌, ◌∙◌, OnOk, ap, subst}
use Rattle.bx_print.specs.BodyLines.{body_lines}
use Rattle.bx_view.proofs.Numbers.{paragraph-span}
use Rattle.bx_view.specs.Numbers.{body_at}
use Rattle.bx_print.proofs.paragraph.push_paragraph.Goals as goal

pub returns-clause-lines : goal.returns-clause-lines
returns-clause-lines g c =
    let ucd = g.D.BidiData.data c.args.text_ref.now.tables.now in
    let text = c.args.text_ref.now.text.now.edited.text in
    let l = c.in_ok-layout.layout in
    let style = c.args.style in
    let lines = body_lines ucd style.placeholders in
    let laid = c.in_ok-layout.ensures in
    let span = paragraph-span ucd text c.args.text_ref.now.index.now.paragraphs c.args.number c.span-span.result.start c.span-span.result.stop c.args.text_ref.now.utf8
    c.requires.number c.args.text_ref.now.indexed c.span-span.ensures.span in
    let same : lines l.base l.w l.body ≡ lines style.base style.columns (body_at ucd text c.args.number) =
    ap (λ b. lines b l.w l.body) laid.base ∙ ap (λ w. lines style.base w l.body) laid.w
    ∙ ap (lines style.base style.columns) (laid.body ∙ c.in_ok-body.ensures.bytes ∙ span.body) in
    subst (λ bs. OnOk c.push_rows.result (c.push_rows.new.page.items ≡ c.args.page.now.items ++ bs)) same c.push_rows.ensures.lines
