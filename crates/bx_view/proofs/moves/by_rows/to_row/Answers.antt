use Rattle.std.proofs.Common.{◌<◌, ◌∙◌, ap, ap₂, length, sym, arith}
use Rattle.bx_paragraph.proofs.Starts.{side-some}
use Rattle.bx_view.specs.FoundRow.{rows_by}
use Rattle.bx_view.specs.Moves.{goal_in}
use Rattle.bx_view.specs.TextRows.{first}
use Rattle.bx_view.proofs.Nearest.{falls-within, to-other, to-own}
use Rattle.bx_view.proofs.Walking.{firsts-rise, row-within}
use Rattle.bx_view.proofs.moves.by_rows.to_row.Goals as goal

pub goal_in-requires : goal.goal_in-requires
goal_in-requires g c =
    let on = c.requires.row in
    c.first_in-first.ensures on.0 on.1 ∙ ap first (sym (c.row.ensures.row on.0 on.1))

pub returns-then-first-own : goal.returns-then-first-own
returns-then-first-own g c = record {
  place = λ n on.
      let ucd = g.D.BidiData.data c.args.text_ref.now.tables.now in
      let text = c.args.text_ref.now.text.now.edited.text in
      let utf8 = c.args.text_ref.now.utf8 in
      let v = c.args.view.now in
      let some = side-some v.w on.side in
      let rows = rows_by ucd v text in
      let within : n < length rows = row-within ucd v.base v.w some text utf8 c.args.there.paragraph c.args.there.row n on.is in
      to-own rows (firsts-rise ucd v.base v.w some text utf8) v.w c.args.goal c.args.place n within
      (falls-within rows c.args.place (omega (arith, within)))
      (sym (c.first_in-first.ensures n on) ∙ c.if-first-own.true ∙ c.requires.own);
}

pub returns : goal.returns
returns g c = record {
  place = λ n on.
      let ucd = g.D.BidiData.data c.args.text_ref.now.tables.now in
      let text = c.args.text_ref.now.text.now.edited.text in
      let utf8 = c.args.text_ref.now.utf8 in
      let v = c.args.view.now in
      let some = side-some v.w on.side in
      let rows = rows_by ucd v text in
      let entry = c.in_ok-entry.ensures ∙ ap₂ (λ w r. goal_in w r c.args.goal) c.row.ensures.columns (c.row.ensures.row n on) in
      c.unwrap_or.ensures
      ∙ to-other rows (firsts-rise ucd v.base v.w some text utf8) v.w c.args.goal c.args.place n c.in_ok-entry.entry
      (λ same. c.if-first-own.false (c.first_in-first.ensures n on ∙ same ∙ sym c.requires.own)) entry;
}
