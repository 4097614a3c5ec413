use Rattle.std.proofs.Common.{◌∙◌, ap}
use Rattle.bx_paragraph.specs.Slots.{reads_on}
use Rattle.bx_view.specs.Moves.{word_way}
use Rattle.bx_view.specs.TextRows.{row_at, row_of}
use Rattle.bx_view.specs.Words.{step_word}
use Rattle.bx_view.proofs.CachedRows.{rows-kept}
use Rattle.bx_view.proofs.moves.word_moves.word_towards.Goals as goal

pub returns-clause-place : goal.returns-clause-place
returns-clause-place g c =
    let ucd = g.D.BidiData.data c.args.text_ref.now.tables.now in
    let text = c.args.text_ref.now.text.now.edited.text in
    let place = c.args.place in
    c.in_ok-place.ensures.place
    ∙ ap (λ way. step_word ucd text way place) (c.word_way-way.ensures
    ∙ ap word_way (c.reads_on.ensures ∙ ap (λ r. reads_on c.args.side r.row) (c.row.ensures.row _ c.in_ok-at.ensures.row)
    ∙ ap (λ rs. reads_on c.args.side (row_at rs (row_of rs place)).row) (rows-kept ucd c.args.view.now c.row_at.new.self text c.row_at.ensures.keeps)))
