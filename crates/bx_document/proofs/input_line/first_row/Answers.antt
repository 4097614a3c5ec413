use Rattle.std.proofs.Common.{◌≡◌, ◌∙◌, ap, ap₂, map, sym}
use Rattle.std.specs.Prelude.{Some, unwrap_or}
use Rattle.bx_rows.specs.Shown.{glyph_of}
use Rattle.bx_paragraph.specs.BodyRows.{row_own_glyphs}
use Rattle.bx_paragraph.proofs.LayoutRows.{row_level}
use Rattle.bx_view.specs.Caching.{Keeps}
use Rattle.bx_view.specs.Placed.{placed}
use Rattle.bx_document.specs.InputLine.{columns_taken}
use Rattle.bx_document.proofs.FirstRow.{first-row-is, free-even, free-odd, free_by, line-cell-is, shifted}
use Rattle.bx_document.proofs.input_line.first_row.Goals.{then-level-eq0, else-level-eq0, in-None, in-Some}
use Rattle.bx_document.proofs.input_line.first_row.Goals as goal

pub returns-clause-glyphs : goal.returns-clause-glyphs
returns-clause-glyphs g c =
    let s = c.args.text_ref.now in
    let ucd = g.D.BidiData.data s.tables.now in
    let text = s.text.now.edited.text in
    let first = first-row-is ucd text c.cell_in_first_row.new.view c.row_at.new.self s.utf8 (c.in_ok-cell.ensures.keeps.base ∙ c.requires.base)
    (c.in_ok-cell.ensures.keeps.w ∙ c.requires.w) c.in_ok-at.ensures.keeps c.in_ok-at.at c.in_ok-at.ensures.row (placed c.row-row.result)
    (c.row-row.ensures.row _ c.in_ok-at.ensures.row) in
    c.in_ok-picture.ensures.picture
    ∙ ap₂ (λ t w. row_own_glyphs (g.D.BidiData.data t) w (placed c.row-row.result).row) c.row-row.ensures.tables
    (c.row-row.ensures.columns ∙ c.in_ok-at.ensures.keeps.w ∙ c.in_ok-cell.ensures.keeps.w ∙ c.requires.w)
    ∙ ap (λ r. row_own_glyphs ucd 500 r.row) first

pub returns-clause-cell : goal.returns-clause-cell
returns-clause-cell g c =
    let s = c.args.text_ref.now in
    let ucd = g.D.BidiData.data s.tables.now in
    let text = s.text.now.edited.text in
    let gs = map glyph_of c.in_ok-picture.picture.glyphs.items in
    let free = c.if-level-eq0.free in
    let level = c.level.result in
    let left : free ≡ free_by level (columns_taken gs) =
    elim c.if-level-eq0.branch [
      | then-level-eq0 w ↦ w.free-is ∙ free-even level (columns_taken gs) w.if-level-eq0.true
      | else-level-eq0 w ↦ w.free-is ∙ w.unwrap_or-free.ensures
          ∙ ap (λ o. unwrap_or o 0) (w.room_behind.ensures
          ∙ ap (λ ds. Rattle.bx_document.proofs.RoomBehind.left_of 500 (columns_taken (map glyph_of ds))) w.deref.ensures.value)
          ∙ free-odd level (columns_taken gs) w.if-level-eq0.false
    ] in
    let moved : c.match-cell.cell ≡ shifted c.in_ok-cell.cell free =
    elim c.match-cell.branch [
      | in-None v ↦ v.cell-is ∙ sym (ap (λ o. shifted o free) v.in-None.is)
      | in-Some v ↦ v.cell-is ∙ ap Some v.saturating_sub.ensures ∙ sym (ap (λ o. shifted o free) v.in-Some.is)
    ] in
    let row = c.row-row.result in
    let keeps : Keeps ucd c.args.view.now c.row_at.new.self =
    record {
      base = c.in_ok-at.ensures.keeps.base ∙ c.in_ok-cell.ensures.keeps.base;
      w = c.in_ok-at.ensures.keeps.w ∙ c.in_ok-cell.ensures.keeps.w;
      cache = c.in_ok-at.ensures.keeps.cache;
    } in
    moved
    ∙ line-cell-is ucd text c.args.view.now c.row_at.new.self s.utf8 c.requires.base c.requires.w keeps c.in_ok-at.at c.in_ok-at.ensures.row
    (placed c.row-row.result) (c.row-row.ensures.row _ c.in_ok-at.ensures.row) c.in_ok-cell.cell c.args.place level free gs c.in_ok-cell.ensures.cell
    (returns-clause-glyphs g c) (c.level.ensures ∙ row_level row.paragraph.now (g.D.BidiData.data row.tables.now) row.number row.by row.within) left
