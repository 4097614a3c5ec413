-- Pointing at a unit that is shown takes it, and pointing at the cell of a place leads to the place.
use Rattle.std.proofs.Common.{◌≡◌, ◌⊎◌, inl, inr, ℕ, ◌+◌, ◌-◌, ◌%◌, ◌<◌, ◌≤◌, nat_le, nat_lt, true, false, List, ◌∷◌, length, map}
use Rattle.std.proofs.Common.{unwrap_or, IsUtf8, refl, sym, ap, subst, ◌∙◌, arith, ⊎_elim}
use Rattle.std.specs.Prelude.{All, Contains, flat_map}
use Rattle.std.proofs.lemmas.Bool.{cases_lt}
use Rattle.std.proofs.lemmas.Bool.Decides.{nat_tests}
use Rattle.std.proofs.lemmas.List.{get_or-map, length-map}
use Rattle.std.proofs.lemmas.List.Elements.{All-contains, Contains-append_left, Contains-append_right}
use Rattle.bx_ucd.specs.Data.{Data}
use Rattle.bx_common.specs.declared.base.Base.{Base}
use Rattle.bx_rows.specs.declared.cells.unit.Face.TheVariants.{Tab}
use Rattle.bx_rows.specs.declared.cells.unit.Unit.{Unit}
use Rattle.bx_rows.specs.RowPicture.{columns_used, unit_columns}
use Rattle.bx_rows.specs.RowLevels.{visual}
use Rattle.bx_rows.proofs.NumbersBelow.{below_if_visual}
use Rattle.bx_rows.proofs.PictureLaws.{columns_of_glyphs}
use Rattle.bx_rows.proofs.PictureSums.{columns-length}
use Rattle.bx_text.specs.index.Paragraphs.{paragraphs}
use Rattle.bx_paragraph.specs.declared.slots.Slot.{Slot}
use Rattle.bx_paragraph.specs.BodyRows.{offsets_of}
use Rattle.bx_paragraph.specs.Slots.{column_in, column_of, covers, end_column, end_slot, extent_of, left_column, row_slots, side_by_side, slot, slot_offsets, unit_slots}
use Rattle.bx_paragraph.proofs.OnceEach.{once-contains, once-summed}
use Rattle.bx_paragraph.proofs.RowSlots.{columns-in-order, extent-is}
use Rattle.bx_view.specs.Cells.{IsUnitCell, glyphs_of, times}
use Rattle.bx_view.specs.Moves.{entry_in}
use Rattle.bx_view.specs.Top.{pointed_at, pointed_row}
use Rattle.bx_view.specs.TextRows.{IsPlace, TextRow, no_text_row, places_of, row_at, row_of, text_rows}
use Rattle.bx_view.proofs.CellColumns.{cell-inside, extents-total, extents-wide, left-by, left_of, total}
use Rattle.bx_view.proofs.GlyphCells.{HasFaces, either-slot, found, padded-columns, rows-faced, sums, unmoved}
use Rattle.bx_view.proofs.KeptPlaces.{HasLevels, contains-moved, counted-contains, in-places, one-at, rows-leveled}
use Rattle.bx_view.proofs.OneSlot.{in-own-row, one-slot, same-times}
use Rattle.bx_view.proofs.RowFits.{Fits, fitting-from}
use Rattle.bx_view_laws.specs.Entry.{IsEntry}
use Rattle.bx_view_laws.specs.Pointed.{IsFullEnd, LeadsTo, OwnCellsStay, ShowsUnit, UnitsAreTaken, picture_row}
use Rattle.bx_view_laws.proofs.RowsOn.{entered}
use Rattle.bx_view_laws.proofs.SideColumns.{LiesFrom, column-once, end-free, glyphs-total, side-has, side-lies}
use Rattle.bx_view_laws.proofs.SlotEntry.{both-hold, contains-with-end, covered-in}
use Rattle.bx_view_laws.proofs.UnitColumns.{HasColumns, rows-columned}

no_unit : Unit
no_unit = record { start = 0; stop = 0; face = Tab }

covers-it : (column : ℕ) (s : Slot) → s.column ≤ column → column < s.column + s.columns → covers column s ≡ true
covers-it column s from upto =
    let low : nat_le s.column column ≡ true = grind (arith, nat_tests) in
    let high : nat_lt column (s.column + s.columns) ≡ true = grind (arith, nat_tests) in
    both-hold (nat_le s.column column) (nat_lt column (s.column + s.columns)) low high

-- a slot that covers the column is the one by which the row is entered
taken : (w : ℕ) (r : TextRow) (column place : ℕ) (s : Slot) → IsEntry w r column place → Contains (row_slots w r.row) s → covers column s ≡ true
    → place ≡ r.start + s.offset
taken w r column place s entry among covered =
    let slots = row_slots w r.row in
    ⊎_elim
    (λ covering. sym entry.place_is ∙ ap (λ o. r.start + o) (sym (All-contains (λ t. covers column t ≡ true → t.offset ≡ entry.slot.offset) slots s covering.alone among covered)))
    (λ nearest. let never : true ≡ false = sym covered ∙ All-contains (λ t. covers column t ≡ false) slots s nearest.uncovered among in absurd (cc))
    entry.enters

-- ---- a row

module _ (ucd : Data) (w : ℕ) (r : TextRow) (levels : HasLevels r.row) (faces : HasFaces ucd w r.row) (some : HasColumns w r.row) (fits : Fits w r.row) where
  abbrev used : ℕ
  used = columns_used w r.row.units

  abbrev n : ℕ
  n = r.row.paragraph % 2

  abbrev columns : List ℕ
  columns = unit_columns w 0 r.row.units

  abbrev extent : ℕ → ℕ × ℕ
  extent = extent_of r.row.units columns

  abbrev order : List ℕ
  order = visual r.row.levels

  below : All (λ k. k < length r.row.units) order
  below = subst (λ m. All (λ k. k < m) order) levels (below_if_visual r.row.levels order refl)

  sum : total (map extent order) ≡ used
  sum = extents-total w r.row.units order below ∙ columns-in-order w r.row.units r.row.levels columns order levels refl refl

  units-lie : All (LiesFrom (left_of n w used) (left_of n w used + used)) (unit_slots w r.row)
  units-lie =
      subst (λ m. All (LiesFrom (left_of n w used) (left_of n w used + m)) (unit_slots w r.row)) sum
      (side-lies (left_of n w used) (map extent order) (extents-wide w r.row.units some order below))

  unit-lies : (s : Slot) → Contains (unit_slots w r.row) s → LiesFrom (left_of n w used) (left_of n w used + used) s
  unit-lies s among = All-contains (LiesFrom (left_of n w used) (left_of n w used + used)) (unit_slots w r.row) s units-lie among

  unit-among : (s : Slot) → Contains (unit_slots w r.row) s → Contains (row_slots w r.row) s
  unit-among s among = contains-with-end n r.row.is_last (end_slot w r.row) (unit_slots w r.row) s among

  -- ---- a unit that is shown

  module _ (place column stop : ℕ) (shows : ShowsUnit ucd w r place column stop) where
    abbrev cell : IsUnitCell ucd w r place column
    cell = shows.cell

    abbrev own : Slot
    own = slot (extent cell.number).0 (left_column w r.row + total (map extent cell.before)) (extent cell.number).1

    glyphs-are : (k : ℕ) → Contains order k → columns_of_glyphs (glyphs_of ucd w r.row k) ≡ (extent k).1
    glyphs-are k among =
        All-contains (λ j. columns_of_glyphs (glyphs_of ucd w r.row j) ≡ (extent j).1) order k (sums ucd w r levels faces) among

    own-number : Contains order cell.number
    own-number =
        subst (λ ks. Contains ks cell.number) (sym cell.order)
        (Contains-append_right cell.before (cell.number ∷ cell.behind) cell.number (0, omega arith, refl))

    pub own-among : Contains (unit_slots w r.row) own
    own-among =
        subst (λ ks. Contains (side_by_side (left_column w r.row) (map extent ks)) own) (sym cell.order)
        (side-has extent (left_column w r.row) cell.before cell.number cell.behind)

    before-total : columns_of_glyphs (flat_map (glyphs_of ucd w r.row) cell.before) ≡ total (map extent cell.before)
    before-total = glyphs-total extent (glyphs_of ucd w r.row) cell.before
        (λ k among. glyphs-are k (subst (λ ks. Contains ks k) (sym cell.order) (Contains-append_left cell.before (cell.number ∷ cell.behind) k among)))

    pub own-column : own.column ≡ column
    own-column =
        let before = flat_map (glyphs_of ucd w r.row) cell.before in
        let padded = padded-columns n (w - used) before in
        sym (cell.column_is ∙ padded ∙ ap (λ m. left_column w r.row + m) before-total)

    pub own-stop : column + own.columns ≡ stop
    own-stop = sym (shows.stop_is ∙ ap (λ m. column + m) (glyphs-are cell.number own-number))

    pub own-place : r.start + own.offset ≡ place
    own-place =
        ap (λ (x : ℕ × ℕ). r.start + x.0) (extent-is r.row.units columns cell.number no_unit cell.within (columns-length w 0 r.row.units)) ∙ cell.place_is no_unit

    pub stop-inside : stop ≤ w + 1
    stop-inside =
        let upto = (unit-lies own own-among).upto in
        let left = left-by n w used fits in omega (arith, upto, left.1, own-column, own-stop)

    pub column-some : 1 ≤ column
    column-some = omega (arith, cell.column_is)

  -- ---- the end

  -- the row is entered at its end in the end's column, if the units leave it
  end-entered : (place : ℕ) → used < w → IsEntry w r (end_column w r.row) place → Contains (row_slots w r.row) (end_slot w r.row)
      → place ≡ r.start + length r.row.body
  end-entered place room entry among =
      let s = entry.slot in
      let column = end_column w r.row in
      let reach : (s.column ≤ column) × (0 < s.columns → column < s.column + s.columns) = ⊎_elim
      (λ covering. let inside = covered-in column s covering.is_covered in (inside.0, λ h. inside.1))
      (λ nearest.
      let last = All-contains (λ (t : Slot). t.column ≤ column → (t.column ≤ s.column) × (s.column ≤ column)) (row_slots w r.row) (end_slot w r.row)
      nearest.last among (omega arith) in
      (last.1, λ h. omega (arith, last.0, h)))
      entry.enters in
      ⊎_elim
      (λ unit.
      let lies = unit-lies s unit in
      let wide = lies.some in
      absurd (end-free n w used s room lies reach.0 (reach.1 (omega (arith, wide)))))
      (λ end. sym entry.place_is ∙ ap (λ (t : Slot). r.start + t.offset) (sym end.1))
      (either-slot n r.row.is_last (end_slot w r.row) (unit_slots w r.row) s entry.is_slot)

  -- the cell of one of the row's slots
  own-cell : (place at : ℕ) (s : Slot) → Contains (row_slots w r.row) s → r.start + s.offset ≡ at → IsEntry w r s.column place → (place ≡ at) ⊎ IsFullEnd w r at
  own-cell place at s among is entry = ⊎_elim
      (λ unit.
      let wide = (unit-lies s unit).some in
      inl (taken w r s.column place s entry among (covers-it s.column s (omega arith) (omega (arith, wide))) ∙ is))
      (λ end.
      let offset : s.offset ≡ length r.row.body = sym (ap (λ (t : Slot). t.offset) end.1) in
      let ends : at ≡ r.start + length r.row.body = omega (arith, is, offset) in
      ⊎_elim
      (λ room. inl (end-entered place room (subst (λ c. IsEntry w r c place) (sym (ap (λ (t : Slot). t.column) end.1)) entry)
      (subst (Contains (row_slots w r.row)) (sym end.1) among) ∙ sym ends))
      (λ not. inr (record { last = end.0; place_is = ends; full = omega (arith, not, fits) }))
      (cases_lt used w))
      (either-slot n r.row.is_last (end_slot w r.row) (unit_slots w r.row) s among)

-- ---- of a text

module _ (ucd : Data) (base : Base) (w : ℕ) (side : 1 ≤ w) (text : List ℕ) (utf8 : IsUtf8 text) where
  abbrev rows : List TextRow
  rows = text_rows ucd base w text

  -- a place of row `k` falls in it
  pub falls-in-own : (k place : ℕ) → k < length rows → Contains (places_of (row_at rows k)) place → (row_of rows place ≡ k) × IsPlace rows place
  falls-in-own k place within among =
      let is : IsPlace rows place = in-places rows k no_text_row within place among in
      let one = one-slot ucd base w side text utf8 place is in
      let own = row_of rows place in
      let counted : 0 < times place (places_of (row_at rows k)) = counted-contains (places_of (row_at rows k)) place among in
      let same = same-times ucd base w side text utf8 place k within in
      let row : own ≡ k = ⊎_elim
      (λ less. let none = one.elsewhere k within (λ e. omega (arith, e, less)) in absurd (omega (arith, none, same, counted)))
      (λ from. ⊎_elim
      (λ more. let none = one.elsewhere k within (λ e. omega (arith, e, more)) in absurd (omega (arith, none, same, counted)))
      (λ upto. omega (arith, from, upto)) (cases_lt own k))
      (cases_lt k own) in (row, is)

  -- the row that is pointed at
  pub row-pointed : (top k : ℕ) → row_of rows top ≤ k → k < length rows → pointed_row rows top (picture_row rows top k) ≡ k
  row-pointed top k low within = omega (arith, low, within)

  point-enters : (top k column : ℕ) → row_of rows top ≤ k → k < length rows → 1 ≤ column → column ≤ w
      → IsEntry w (row_at rows k) column (pointed_at w rows top (picture_row rows top k) column)
  point-enters top k column low within some inside =
      subst (λ m. IsEntry w (row_at rows k) column (unwrap_or (entry_in w (row_at rows m) column) 0)) (sym (row-pointed top k low within))
      (entered ucd base w side text utf8 column 0 k some inside within)

  module _ (k : ℕ) (within : k < length rows) where
    abbrev r : TextRow
    r = row_at rows k

    leveled : HasLevels r.row
    leveled = rows-leveled ucd base w text k no_text_row within

    faced : HasFaces ucd w r.row
    faced = rows-faced ucd base w text utf8 k no_text_row within

    columned : HasColumns w r.row
    columned = rows-columned ucd base w text utf8 k no_text_row within

    fitting : Fits w r.row
    fitting = fitting-from ucd base w 0 (paragraphs ucd text) k no_text_row within

    -- a unit that is shown
    unit-leads : (top place column stop c : ℕ) → row_of rows top ≤ k → ShowsUnit ucd w r place column stop → column ≤ c → c < stop
        → LeadsTo w rows top k c place column
    unit-leads top place column stop c low shows from upto =
        let s = own ucd w r leveled faced columned fitting place column stop shows in
        let among = own-among ucd w r leveled faced columned fitting place column stop shows in
        let at = own-column ucd w r leveled faced columned fitting place column stop shows in
        let ends = own-stop ucd w r leveled faced columned fitting place column stop shows in
        let is = own-place ucd w r leveled faced columned fitting place column stop shows in
        let past = stop-inside ucd w r leveled faced columned fitting place column stop shows in
        let first = column-some ucd w r leveled faced columned fitting place column stop shows in
        let all = unit-among ucd w r leveled faced columned fitting s among in
        let entry = point-enters top k c low within (omega (arith, first, from)) (omega (arith, upto, past)) in
        let offset : Contains (offsets_of r.row) s.offset = once-contains w r.row leveled s.offset (
          all.0,
          omega (arith, all.1, length-map (row_slots w r.row) (λ (t : Slot). t.offset)),
          get_or-map (λ (t : Slot). t.offset) (row_slots w r.row) all.0 s s.offset all.1 ∙ ap (λ (t : Slot). t.offset) all.2,
        ) in
        let own-row = falls-in-own k place within (subst (Contains (places_of r)) is (contains-moved r.start (offsets_of r.row) s.offset offset)) in
        let one = one-slot ucd base w side text utf8 place own-row.1 in
        let once : times place (map (λ o. r.start + o) (slot_offsets w r.row)) ≡ 1 = subst (λ m. times place (map (λ o. (row_at rows m).start + o) (slot_offsets w (row_at rows m).row)) ≡ 1) own-row.0 one.once in
        let few : times (r.start + s.offset) (map (λ o. r.start + o) (slot_offsets w r.row)) ≤ 1 =
        subst (λ p. times p (map (λ o. r.start + o) (slot_offsets w r.row)) ≤ 1) (sym is) (omega (arith, once)) in
        let offset-is : place - r.start ≡ s.offset = omega (arith, is) in
        record {
          place_is = taken w r c (pointed_at w rows top (picture_row rows top k) c) s entry all
              (covers-it c s (omega (arith, at, from)) (omega (arith, at, ends, upto))) ∙ is;
          row_is = own-row.0;
          column_is = ap (λ m. column_of w (row_at rows m).row (place - (row_at rows m).start)) own-row.0
              ∙ ap (column_in (row_slots w r.row)) offset-is ∙ column-once r.start s (row_slots w r.row) all few ∙ at;
        }

    -- the cell of a place of the row
    cell-stays : (top place : ℕ) → row_of rows top ≤ k → Contains (places_of r) place → 1 ≤ column_of w r.row (place - r.start)
        → column_of w r.row (place - r.start) ≤ w
        → (pointed_at w rows top (picture_row rows top k) (column_of w r.row (place - r.start)) ≡ place) ⊎ IsFullEnd w r place
    cell-stays top place low among some inside =
        let at = unmoved r.start (offsets_of r.row) place among in
        let offset = place - r.start in
        let there : 0 < times offset (slot_offsets w r.row) =
        omega (arith, counted-contains (offsets_of r.row) offset at.1, once-summed w r.row leveled (one-at offset)) in
        let f = found (row_slots w r.row) offset there in
        let is : r.start + f.one.offset ≡ place = omega (arith, f.offset_is, at.0) in
        let column = column_of w r.row offset in
        let entry = point-enters top k column low within some inside in
        own-cell ucd w r leveled faced columned fitting (pointed_at w rows top (picture_row rows top k) column) place f.one f.among is
        (subst (λ c. IsEntry w r c (pointed_at w rows top (picture_row rows top k) column)) f.column_is entry)

  pub units-are-taken : UnitsAreTaken ucd w rows
  units-are-taken top k place column stop c low within shows from upto = unit-leads k within top place column stop c low shows from upto

  pub own-cells-stay : OwnCellsStay w rows
  own-cells-stay top place is low =
      let one = one-slot ucd base w side text utf8 place is in
      let inside = cell-inside ucd base w text place side utf8 in
      cell-stays (row_of rows place) one.row top place low (in-own-row ucd base w side text utf8 place is) inside.0 inside.1
