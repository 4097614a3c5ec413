use Rattle.std.proofs.Common.{◌+◌, ◌-◌, ◌∙◌, ap, ap₂, arith, nat_lt, sym}
use Rattle.std.specs.Prelude.{count_by}
use Rattle.bx_paragraph.specs.Layout.{row_by}
use Rattle.bx_paragraph.specs.LayoutRowRef.{row}
use Rattle.bx_paragraph.specs.Slots.{column_of, reads_on}
use Rattle.bx_paragraph.specs.declared.moves.Visual.TheVariants.{Left}
use Rattle.bx_view.specs.TextRows.{TextRow}
use Rattle.bx_view.specs.Placed.{columns}
use Rattle.bx_view.proofs.UnitNumbers.{number-short, number-counted}
use Rattle.bx_view.proofs.view.View.position.Goals as goal

pub overflow_add-result-2 : goal.overflow_add-result-2
overflow_add-result-2 g c =
    let text_ref = c.args.text_ref.now in
    let s = c.row-row.result in
    let units = c.in_ok-standing.ensures.units
    ∙ ap₂ (λ t k. count_by (λ u. nat_lt u.start (c.args.place - c.args.at.start)) (row_by (g.D.BidiData.data t) s.paragraph.now k).units)
    c.row-row.ensures.tables c.row-row.ensures.number in
    let most = number-short (g.D.BidiData.data text_ref.tables.now) c.args.self.now text_ref.text.now.edited.text c.args.place c.args.at s.paragraph.now
    text_ref.utf8 c.requires.paragraph c.requires.row c.row-row.ensures.paragraph in
    omega (arith, most, c.units_ahead.ensures, units, text_ref.short)

pub overflow_add-result-3 : goal.overflow_add-result-3
overflow_add-result-3 g c =
    let text_ref = c.args.text_ref.now in
    let s = c.row-row.result in
    let units = c.in_ok-standing.ensures.units
    ∙ ap₂ (λ t k. count_by (λ u. nat_lt u.start (c.args.place - c.args.at.start)) (row_by (g.D.BidiData.data t) s.paragraph.now k).units)
    c.row-row.ensures.tables c.row-row.ensures.number in
    let most = number-short (g.D.BidiData.data text_ref.tables.now) c.args.self.now text_ref.text.now.edited.text c.args.place c.args.at s.paragraph.now
    text_ref.utf8 c.requires.paragraph c.requires.row c.row-row.ensures.paragraph in
    omega (arith, most, c.units_ahead.ensures, units, text_ref.short)

pub returns : goal.returns
returns g c =
    let text_ref = c.args.text_ref.now in
    let s = c.row-row.result in
    let units = c.in_ok-standing.ensures.units
    ∙ ap₂ (λ t k. count_by (λ u. nat_lt u.start (c.args.place - c.args.at.start)) (row_by (g.D.BidiData.data t) s.paragraph.now k).units)
    c.row-row.ensures.tables c.row-row.ensures.number in
    record {
      column = c.in_ok-standing.ensures.column
          ∙ ap (λ a. column_of (columns c.row-row.result) (row s) (c.args.place - a)) (sym c.row-row.ensures.start)
          ∙ ap₂ (λ w r. column_of w r.row (c.args.place - r.start)) c.row-row.ensures.columns (c.row-row.ensures.row _ c.requires.row);
      paragraph = ap (λ k. k + 1) c.requires.paragraph;
      unit = omega (arith, c.units_ahead.ensures, units)
          ∙ number-counted (g.D.BidiData.data text_ref.tables.now) c.args.self.now text_ref.text.now.edited.text c.args.place c.args.at s.paragraph.now
          text_ref.utf8 c.requires.paragraph c.requires.row c.row-row.ensures.paragraph;
      direction = c.reads_on-is_rtl.ensures ∙ ap (λ (r : TextRow). reads_on Left r.row) (c.row-row.ensures.row _ c.requires.row);
    }
