use Rattle.std.proofs.Common.{◌≡◌, ◌+◌, ◌≤◌, length, arith}
use Rattle.bx_paragraph.specs.BodyRows.{first_of}
use Rattle.bx_paragraph.specs.Layout.{row_by}
use Rattle.bx_view.proofs.CachedRows.{first-fits, home-in-text}
use Rattle.bx_view.proofs.moves.row_ends.row_home.Goals as goal

pub overflow_add-result : goal.overflow_add-result
overflow_add-result g c =
    let ucd = g.D.BidiData.data c.args.text_ref.now.tables.now in
    let first : c.first.result ≡ first_of (row_by ucd c.paragraph-paragraph.result.now c.in_ok-at.at.row) =
    c.first.ensures ucd c.paragraph-paragraph.ensures.by in
    let text = c.args.text_ref.now.text.now.edited.text in
    let fits : c.in_ok-at.at.start + first_of (row_by ucd c.paragraph-paragraph.result.now c.in_ok-at.at.row) ≤ length text =
    first-fits ucd c.row_at.new.self text c.in_ok-at.at _ c.paragraph-paragraph.result.now c.args.text_ref.now.utf8
    c.in_ok-at.ensures.row c.paragraph-paragraph.ensures in
    omega (arith, first, fits, c.args.text_ref.now.short)

pub returns-clause-home : goal.returns-clause-home
returns-clause-home g c =
    let ucd = g.D.BidiData.data c.args.text_ref.now.tables.now in
    home-in-text ucd c.args.view.now c.row_at.new.self c.args.text_ref.now.text.now.edited.text c.args.place c.in_ok-at.at c.paragraph-paragraph.result.now
    c.row_at.ensures.keeps c.args.text_ref.now.utf8 c.in_ok-at.ensures.row c.paragraph-paragraph.ensures c.first.result
    (c.first.ensures ucd c.paragraph-paragraph.ensures.by)
