use Rattle.std.proofs.Common.{◌≡◌, ◌<◌, [], All, length, get_or, refl, ◌∙◌, ap, append-nil, map, subst, sym}
use Rattle.std.specs.Str.{IsCharBoundary}
use Rattle.bx_rows.specs.cells.UnitFacts.{StandsIn}
use Rattle.bx_rows.specs.declared.start_search.RowStart.{RowStart}
use Rattle.bx_rows.specs.RowPicture.{unit_glyphs}
use Rattle.bx_rows.specs.Shown.{glyph_of}
use Rattle.bx_rows.proofs.Pieces.{pieces-more}
use Rattle.bx_rows.proofs.RowPlaces.{boundary-near, near-moved, near-start, number-near, unit-within}
use Rattle.bx_rows.proofs.Wraps.{no_unit}
use Rattle.bx_rows.proofs.picture.push_units.Goals as goal

pub loop-number-init : goal.loop-number-init
loop-number-init g c =
    let row = c.args.row.now in
    let lines = row.lines in
    let none : RowStart = record { offset = 0; units = 0; chars = 0 } in
    let first : c.start-first.result ≡ get_or lines.starts.now row.number none = c.start-first.ensures none in (
      sym (append-nil (map glyph_of c.args.glyphs.now.items)),
      near-start (g.D.BidiData.data lines.tables.now) lines.w lines.body.now lines.levels.now.each.items lines.starts.now row.number none
          c.place-near.result lines.utf8 lines.rows row.within c.place-near.ensures.text c.place-near.ensures.each
          (c.place-near.ensures.offset ∙ ap (λ s. s.offset) first) (c.place-near.ensures.number ∙ ap (λ s. s.chars) first),
    )

pub moved-near-requires : goal.moved-near-requires
moved-near-requires g c =
    let row = c.args.row.now in
    let body = row.lines.body.now in
    let each = row.lines.levels.now.each.items in
    let us = c.as_slice-units.result.now in
    let same : us ≡ row.units.items = c.as_slice-units.ensures.value in
    let stand : All (StandsIn body) us = subst (All (StandsIn body)) (sym same) row.stand in
    let k = get_or c.args.order.now c.loop-number.number-index 0 in
    let within : k < length us = subst (λ n. k < n) (sym (ap length same)) (c.requires.order c.loop-number.number-index 0 c.loop-number-test.true) in
    let near = c.loop-number.invariant.1 in
    record {
      from = boundary-near body each c.loop-number.near near;
      number = number-near body each c.loop-number.near near;
      to = subst (λ b. IsCharBoundary b (get_or us k no_unit).start) (sym near.text) (stand k no_unit within).1;
    }

pub push_unit-requires-clause-near : goal.push_unit-requires-clause-near
push_unit-requires-clause-near g c =
    let row = c.args.row.now in
    let body = row.lines.body.now in
    let us = c.as_slice-units.result.now in
    let same : us ≡ row.units.items = c.as_slice-units.ensures.value in
    let stand : All (StandsIn body) us = subst (All (StandsIn body)) (sym same) row.stand in
    let k = get_or c.args.order.now c.loop-number.number-index 0 in
    let within : k < length us = subst (λ n. k < n) (sym (ap length same)) (c.requires.order c.loop-number.number-index 0 c.loop-number-test.true) in
    near-moved body row.lines.levels.now.each.items c.loop-number.near c.moved-near.result (get_or us k no_unit).start c.loop-number.invariant.1
    (stand k no_unit within).1 c.moved-near.ensures.offset c.moved-near.ensures.number c.moved-near.ensures.text c.moved-near.ensures.each

pub push_unit-requires-clause-at : goal.push_unit-requires-clause-at
push_unit-requires-clause-at g c d =
    let row = c.args.row.now in
    let k = get_or c.args.order.now c.loop-number.number-index 0 in
    c.moved-near.ensures.offset ∙ ap (λ us. (get_or us k no_unit).start) c.as_slice-units.ensures.value
    ∙ ap (λ u. u.start) (unit-within row.units.items k no_unit d (c.requires.order c.loop-number.number-index 0 c.loop-number-test.true))

pub loop-number-preserved : goal.loop-number-preserved
loop-number-preserved g c =
    let row = c.args.row.now in
    let lines = row.lines in
    let body = lines.body.now in
    let each = lines.levels.now.each.items in
    let us = c.as_slice-units.result.now in
    let same : us ≡ row.units.items = c.as_slice-units.ensures.value in
    let stand : All (StandsIn body) us = subst (All (StandsIn body)) (sym same) row.stand in
    let k = get_or c.args.order.now c.loop-number.number-index 0 in
    let within : k < length us = subst (λ n. k < n) (sym (ap length same)) (c.requires.order c.loop-number.number-index 0 c.loop-number-test.true) in (
      pieces-more (λ j. get_or (unit_glyphs (g.D.BidiData.data lines.tables.now) lines.w body each row.units.items c.args.columns.now row.levels.items) j [])
          c.args.order.now c.loop-number.number-index k _ _ _ _ c.loop-number-test.true refl c.loop-number.invariant.0 c.in_ok-push_unit.ensures refl,
      near-moved body each c.loop-number.near c.moved-near.result (get_or us k no_unit).start c.loop-number.invariant.1 (stand k no_unit within).1
          c.moved-near.ensures.offset c.moved-near.ensures.number c.moved-near.ensures.text c.moved-near.ensures.each,
    )
