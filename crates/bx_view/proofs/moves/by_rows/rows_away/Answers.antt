use Rattle.std.proofs.Common.{◌∙◌, ap, length, sym}
use Rattle.bx_view.specs.FoundRow.{rows_by}
use Rattle.bx_view.specs.Moves.{row_away, row_home, to_row}
use Rattle.bx_view.specs.TextRows.{row_of}
use Rattle.bx_view.proofs.Beyond.{keeps-then, kept}
use Rattle.bx_view.proofs.CachedRows.{rows-kept}
use Rattle.bx_view.proofs.moves.by_rows.rows_away.Goals as goal

pub to_row-requires : goal.to_row-requires
to_row-requires g c =
    let ucd = g.D.BidiData.data c.args.text_ref.now.tables.now in
    let text = c.args.text_ref.now.text.now.edited.text in
    let on = c.in_ok-at.ensures.row in
    record {
      row = (_, c.in_ok-there.ensures.row _ on);
      own = c.first_in-own.ensures _ on
          ∙ sym (ap (λ rs. row_home rs c.args.place) (rows-kept ucd c.row_at.new.self c.row_away.new.view text c.row_away.ensures.keeps));
    }

pub returns-clause-place : goal.returns-clause-place
returns-clause-place g c =
    let ucd = g.D.BidiData.data c.args.text_ref.now.tables.now in
    let text = c.args.text_ref.now.text.now.edited.text in
    let old = c.args.view.now in
    let v = c.row_at.new.self in
    let later = c.row_away.new.view in
    let place = c.args.place in
    let on = c.in_ok-at.ensures.row in
    let further = keeps-then ucd old v later c.row_at.ensures.keeps c.row_away.ensures.keeps in
    c.in_ok-place.ensures.place _ (c.in_ok-there.ensures.row _ on)
    ∙ ap (λ rs. to_row later.w (rows_by ucd later text) c.args.goal place (row_away (length rs) c.args.way c.args.count (row_of rs place)))
    (rows-kept ucd old v text c.row_at.ensures.keeps)
    ∙ kept ucd old later text further
    (λ w rs. to_row w rs c.args.goal place (row_away (length (rows_by ucd old text)) c.args.way c.args.count (row_of (rows_by ucd old text) place)))
