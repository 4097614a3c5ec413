-- The cell of a place is the column at which the glyphs of its unit begin.
use Rattle.std.proofs.Common.{◌≡◌, ◌⊎◌, inl, inr, ℕ, zero, suc, ◌+◌, ◌-◌, ◌%◌, ◌<◌, ◌≤◌, ◌==◌, Bool, true, false, List, [], ◌∷◌, ◌++◌, map}
use Rattle.std.proofs.Common.{length, replicate, get_or}
use Rattle.std.proofs.Common.{cond, find, Option, Some, option_map, unwrap_or, chars, IsUtf8, refl, sym, ap, subst, ◌∙◌, arith}
use Rattle.std.proofs.Common.{append_assoc, ⊎_elim}
use Rattle.std.specs.Prelude.{All, Contains, flat_map}
use Rattle.std.proofs.lemmas.Bool.{eqb-true}
use Rattle.std.proofs.lemmas.List.{get_or-map, get_or_default, length-map}
use Rattle.std.proofs.lemmas.Grind.{flat_map-append}
use Rattle.std.proofs.lemmas.List.Concat.{flat_map-cons}
use Rattle.std.proofs.lemmas.List.Folds.{sum_by-replicate}
use Rattle.std.proofs.lemmas.List.Elements.{All-append, All-cons, All-contains, All-map, All-nil, All-rest, Contains-append_cases, Contains-append_right}
use Rattle.std.proofs.lemmas.List.Sums.{sum_by-append, sum_by-cons}
use Rattle.bx_ucd.specs.Data.{Data}
use Rattle.bx_common.specs.declared.base.Base.{Base}
use Rattle.bx_levels.specs.resolve.Levels.{paragraph_level_under, levels_under}
use Rattle.bx_rows.specs.declared.cells.unit.Face.TheVariants.{Tab}
use Rattle.bx_rows.specs.declared.cells.unit.Unit.{Unit}
use Rattle.bx_rows.specs.cells.Units.{unit_text, units}
use Rattle.bx_rows.specs.cells.UnitFacts.{HasFace}
use Rattle.bx_rows.proofs.cells_lemmas.Standing.{faces-units}
use Rattle.bx_rows.specs.RowPicture.{Glyph, blank, columns_used, unit_columns, unit_glyphs}
use Rattle.bx_rows.specs.RowPicture.{unit_forms}
use Rattle.bx_rows.specs.RowLevels.{visual}
use Rattle.bx_rows.specs.Wrapping.{columns_at, row_units, wrap}
use Rattle.bx_rows.proofs.FaceGlyphs.{face-sum, tells-face}
use Rattle.bx_rows.proofs.NumbersBelow.{below_if_visual}
use Rattle.bx_rows.proofs.PictureLaws.{columns_of_glyphs, faces-row}
use Rattle.bx_rows.proofs.PictureSums.{columns-length}
use Rattle.bx_text.specs.index.Paragraphs.{Paragraph, lengths_of, paragraphs, bytes_of}
use Rattle.bx_paragraph.specs.declared.slots.Slot.{Slot}
use Rattle.bx_paragraph.specs.BodyRows.{BodyRow, body_rows, offsets_of, row_with, rows_units, with_last}
use Rattle.bx_paragraph.specs.Slots.{column_in, column_of, end_slot, extent_of, left_column, row_slots, side_by_side, slot, slot_offsets, unit_slots}
use Rattle.bx_paragraph.proofs.OnceEach.{once-summed}
use Rattle.bx_paragraph.proofs.RowSlots.{extent-is}
use Rattle.bx_view.specs.Cells.{HasCell, IsEndCell, IsUnitCell, glyphs_of, times, with_looks}
use Rattle.bx_view.specs.Laws.{HasCells}
use Rattle.bx_view.specs.TextRows.{IsPlace, TextRow, no_text_row, row_at, row_of, text_row, text_rows}
use Rattle.bx_view.proofs.RowsAround.{from, own}
use Rattle.bx_view.proofs.KeptPlaces.{HasLevels, one-at, counted-contains, rows-leveled}
use Rattle.bx_view.proofs.Entered.{row-entered}
use Rattle.bx_view.proofs.OneSlot.{in-own-row, one-slot, row-slots}
use Rattle.bx_view.proofs.Parts.{AreUtf8, text-parts}

-- ---- the units of a row show the faces of their texts

abbrev pub HasFaces : Data → ℕ → BodyRow → Type 0
HasFaces ucd w r = All (HasFace ucd w r.body) r.units

faced-last : (ucd : Data) (w : ℕ) (body : List ℕ) (paragraph : ℕ) (each : List (Option ℕ)) (xs : List (List Unit)) → All (All (HasFace ucd w body)) xs
    → All (HasFaces ucd w) (with_last (row_with ucd body paragraph each) xs)
faced-last ucd w body paragraph each [] a = All-nil (HasFaces ucd w)
faced-last ucd w body paragraph each (us ∷ []) a =
    All-cons (HasFaces ucd w) (row_with ucd body paragraph each true us) [] (a 0 us (omega arith)) (All-nil (HasFaces ucd w))
faced-last ucd w body paragraph each (us ∷ vs ∷ rest) a =
    All-cons (HasFaces ucd w) (row_with ucd body paragraph each false us) (with_last (row_with ucd body paragraph each) (vs ∷ rest))
    (a 0 us (omega arith))
    (faced-last ucd w body paragraph each (vs ∷ rest) (All-rest (All (HasFace ucd w body)) us (vs ∷ rest) (us ∷ vs ∷ rest) refl a))

module _ (ucd : Data) (base : Base) (w : ℕ) where
  faced-body : (body : List ℕ) → IsUtf8 body → All (HasFaces ucd w) (body_rows ucd base w body)
  faced-body body utf8 =
      let us = units ucd w body in
      let rs = wrap ucd w body us in
      faced-last ucd w body (paragraph_level_under ucd base (chars body)) (levels_under ucd base (chars body)) (rows_units ucd w body)
      (All-map (All (HasFace ucd w body)) (row_units us) rs (λ i d h. faces-row (HasFace ucd w body) us (get_or rs i d) (faces-units ucd w body utf8)))

  faced-from : (start : ℕ) (ps : List Paragraph) → AreUtf8 ps → All (λ r. HasFaces ucd w r.row) (from ucd base w start ps)
  faced-from start [] u = All-nil (λ (r : TextRow). HasFaces ucd w r.row)
  faced-from start (p ∷ ps) u =
      let next = start + bytes_of (lengths_of p) in
      All-append (λ (r : TextRow). HasFaces ucd w r.row) (map (text_row start) (own ucd base w p)) (from ucd base w next ps)
      (All-map (λ (r : TextRow). HasFaces ucd w r.row) (text_row start) (own ucd base w p) (faced-body p.body u.0.body))
      (faced-from next ps u.1)

  pub rows-faced : (text : List ℕ) → IsUtf8 text → All (λ r. HasFaces ucd w r.row) (text_rows ucd base w text)
  rows-faced text utf8 = faced-from 0 (paragraphs ucd text) (text-parts ucd text utf8).utf8

-- ---- the glyphs of a unit have its columns

piece-sum : (ucd : Data) (w c : ℕ) (body : List ℕ) (each : List (Option ℕ)) (us : List Unit) (levels : List ℕ) (n : ℕ) → All (HasFace ucd w body) us
    → length levels ≡ length us → n < length us
    → columns_of_glyphs (get_or (unit_glyphs ucd w body each us (unit_columns w c us) levels) n []) ≡ get_or (unit_columns w c us) n 0
piece-sum ucd w c body each [] levels n a e h = absurd (omega (arith, h))
piece-sum ucd w c body each (u ∷ us) [] n a e h = let more : suc (length us) ≡ length (u ∷ us) = refl in absurd (omega (arith, e, more))
piece-sum ucd w c body each (u ∷ us) (l ∷ ls) zero a e h =
    face-sum ucd w c l (unit_forms ucd body each u) (unit_text body u) u.face (tells-face ucd w (unit_text body u) u.face (a 0 u (omega arith)))
piece-sum ucd w c body each (u ∷ us) (l ∷ ls) (suc n) a e h =
    piece-sum ucd w (c + columns_at w c u.face) body each us ls n (All-rest (HasFace ucd w body) u us (u ∷ us) refl a) (omega (arith, e))
    (omega (arith, h))

-- ---- slots side by side, and the glyphs of their units

pub one-is : {X : Type 0} (x y : X) → Contains (x ∷ []) y → x ≡ y
one-is x y (zero, h, e) = e
one-is x y (suc k, h, e) = absurd (omega (arith, h))

-- a slot is the slot of one of some units, and the glyphs of the units before it fill the columns from `at` on
record IsBeside (glyphs : ℕ → List Glyph) (extent : ℕ → ℕ × ℕ) (at : ℕ) (order : List ℕ) (s : Slot) : Type 0 where
  number : ℕ
  before : List ℕ
  behind : List ℕ
  order_is : order ≡ before ++ number ∷ behind
  offset_is : s.offset ≡ (extent number).0
  column_is : s.column ≡ at + columns_of_glyphs (flat_map glyphs before)

module _ (glyphs : ℕ → List Glyph) (extent : ℕ → ℕ × ℕ) where
  beside-here : (at k : ℕ) (ks : List ℕ) (s : Slot) → slot (extent k).0 at (extent k).1 ≡ s → IsBeside glyphs extent at (k ∷ ks) s
  beside-here at k ks s e = record {
    number = k;
    before = [];
    behind = ks;
    order_is = refl;
    offset_is = sym (ap (λ (x : Slot). x.offset) e);
    column_is = let none : columns_of_glyphs [] ≡ 0 = refl in omega (arith, ap (λ (x : Slot). x.column) e, none);
  }

  beside-behind : (at k : ℕ) (ks : List ℕ) (s : Slot) → columns_of_glyphs (glyphs k) ≡ (extent k).1 → IsBeside glyphs extent (at + (extent k).1) ks s
      → IsBeside glyphs extent at (k ∷ ks) s
  beside-behind at k ks s e b =
      let more : columns_of_glyphs (flat_map glyphs (k ∷ b.before)) ≡ columns_of_glyphs (glyphs k) + columns_of_glyphs (flat_map glyphs b.before) =
      ap columns_of_glyphs (flat_map-cons glyphs k b.before) ∙ sum_by-append (λ (g : Glyph). g.columns) (glyphs k) (flat_map glyphs b.before) in record {
        number = b.number;
        before = k ∷ b.before;
        behind = b.behind;
        order_is = ap (λ js. k ∷ js) b.order_is;
        offset_is = b.offset_is;
        column_is = omega (arith, b.column_is, e, more);
      }

  beside : (at : ℕ) (order : List ℕ) (s : Slot) → All (λ k. columns_of_glyphs (glyphs k) ≡ (extent k).1) order
      → Contains (side_by_side at (map extent order)) s → IsBeside glyphs extent at order s
  beside at [] s a c = absurd (omega (arith, c.1))
  beside at (k ∷ ks) s a c =
      let here = slot (extent k).0 at (extent k).1 in
      let more = side_by_side (at + (extent k).1) (map extent ks) in
      let rest : All (λ j. columns_of_glyphs (glyphs j) ≡ (extent j).1) ks =
      All-rest (λ j. columns_of_glyphs (glyphs j) ≡ (extent j).1) k ks (k ∷ ks) refl a in
      ⊎_elim (λ one. beside-here at k ks s (one-is here s one))
      (λ behind. beside-behind at k ks s (a 0 k (omega arith)) (beside (at + (extent k).1) ks s rest behind))
      (Contains-append_cases (here ∷ []) more s c)

-- ---- a row

-- the slot that is found at an offset
pub record IsFound (ss : List Slot) (offset : ℕ) : Type 0 where
  pub one : Slot
  pub among : Contains ss one
  pub offset_is : one.offset ≡ offset
  pub column_is : column_in ss offset ≡ one.column

abbrev column-or : Option Slot → ℕ
column-or o = unwrap_or (option_map (λ (x : Slot). x.column) o) 1

found-at : (s : Slot) (ss : List Slot) (offset : ℕ) (b : Bool) → (s.offset == offset) ≡ b → 0 < times offset (map (λ x. x.offset) (s ∷ ss))
    → (0 < times offset (map (λ x. x.offset) ss) → IsFound ss offset) → IsFound (s ∷ ss) offset
found-at s ss offset true e h rest = record {
  one = s;
  among = (0, omega arith, refl);
  offset_is = eqb-true s.offset offset e;
  column_is = ap (λ t. column-or (cond t (Some s) (find (λ (x : Slot). x.offset == offset) ss))) e;
}
found-at s ss offset false e h rest =
    let here : one-at offset s.offset ≡ 0 = ap (λ t. cond t 1 0) e in
    let sum = sum_by-cons (one-at offset) s.offset (map (λ x. x.offset) ss) in
    let f = rest (omega (arith, h, here, sum)) in record {
      one = f.one;
      among = Contains-append_right (s ∷ []) ss f.one f.among;
      offset_is = f.offset_is;
      column_is = ap (λ t. column-or (cond t (Some s) (find (λ (x : Slot). x.offset == offset) ss))) e ∙ f.column_is;
    }

pub found : (ss : List Slot) (offset : ℕ) → 0 < times offset (map (λ s. s.offset) ss) → IsFound ss offset
found [] offset h = absurd (omega (arith, h))
found (s ∷ ss) offset h = found-at s ss offset (s.offset == offset) refl h (λ more. found ss offset more)

-- a slot of a row is one of its units', or the end's
pub either-slot : (n : ℕ) (b : Bool) (end : Slot) (ss : List Slot) (s : Slot)
    → Contains (elim b [ true ↦ elim n [ zero ↦ ss ++ end ∷ [] | suc _ ↦ end ∷ ss ] | false ↦ ss ]) s → Contains ss s ⊎ ((b ≡ true) × (end ≡ s))
either-slot zero true end ss s c = ⊎_elim (λ a. inl a) (λ e. inr (refl, one-is end s e)) (Contains-append_cases ss (end ∷ []) s c)
either-slot (suc n) true end ss s c = ⊎_elim (λ e. inr (refl, one-is end s e)) (λ a. inl a) (Contains-append_cases (end ∷ []) ss s c)
either-slot n false end ss s c = inl c

-- the columns of a row's blanks and glyphs left of a unit
pub padded-columns : (odd n : ℕ) (left : List Glyph)
    → columns_of_glyphs (elim odd [ zero ↦ [] | suc _ ↦ replicate n blank ] ++ left) + 1 ≡ elim odd [ zero ↦ 1 | suc _ ↦ n + 1 ] + columns_of_glyphs left
padded-columns zero n left = omega arith
padded-columns (suc k) n left =
    let sum = sum_by-append (λ (g : Glyph). g.columns) (replicate n blank) left in
    let blanks : columns_of_glyphs (replicate n blank) ≡ n = sum_by-replicate (λ g. g.columns) n blank ∙ omega arith in omega (arith, sum, blanks)

-- the blanks of a row are before its glyphs or after them
record ArePadded (odd n : ℕ) (glyphs left own : List Glyph) : Type 0 where
  rest : List Glyph
  shown : elim odd [ zero ↦ glyphs ++ replicate n blank | suc _ ↦ replicate n blank ++ glyphs ]
      ≡ (elim odd [ zero ↦ [] | suc _ ↦ replicate n blank ] ++ left) ++ (own ++ rest)
  columns_are : columns_of_glyphs (elim odd [ zero ↦ [] | suc _ ↦ replicate n blank ] ++ left) + 1
      ≡ elim odd [ zero ↦ 1 | suc _ ↦ n + 1 ] + columns_of_glyphs left

padded : (odd n : ℕ) (glyphs left own right : List Glyph) → glyphs ≡ left ++ (own ++ right) → ArePadded odd n glyphs left own
padded zero n glyphs left own right e = record {
  rest = right ++ replicate n blank;
  shown = ap (λ gs. gs ++ replicate n blank) e ∙ append_assoc left (own ++ right) (replicate n blank)
      ∙ ap (λ gs. left ++ gs) (append_assoc own right (replicate n blank));
  columns_are = padded-columns zero n left;
}
padded (suc k) n glyphs left own right e = record {
  rest = right;
  shown = ap (λ gs. replicate n blank ++ gs) e ∙ sym (append_assoc (replicate n blank) left (own ++ right));
  columns_are = padded-columns (suc k) n left;
}

no_unit : Unit
no_unit = record { start = 0; stop = 0; face = Tab }

module _ (ucd : Data) (w : ℕ) (r : TextRow) (levels : HasLevels r.row) (faces : HasFaces ucd w r.row) where
  abbrev us : List Unit
  us = r.row.units

  abbrev columns : List ℕ
  columns = unit_columns w 0 us

  abbrev order : List ℕ
  order = visual r.row.levels

  below : All (λ k. k < length us) order
  below = subst (λ n. All (λ k. k < n) order) levels (below_if_visual r.row.levels order refl)

  extents : (k : ℕ) (d : Unit) → k < length us → extent_of us columns k ≡ ((get_or us k d).start, get_or columns k 0)
  extents k d h = extent-is us columns k d h (columns-length w 0 us)

  pub sums : All (λ k. columns_of_glyphs (glyphs_of ucd w r.row k) ≡ (extent_of us columns k).1) order
  sums = λ i d h.
      let k = get_or order i d in
      piece-sum ucd w 0 r.row.body r.row.each us r.row.levels k faces levels (below i d h)
      ∙ sym (ap (λ (x : ℕ × ℕ). x.1) (extents k no_unit (below i d h)))

  unit-cell : (s : Slot) (place : ℕ) → Contains (unit_slots w r.row) s → r.start + s.offset ≡ place → IsUnitCell ucd w r place s.column
  unit-cell s place c at =
      let glyphs : ℕ → List Glyph = λ k. glyphs_of ucd w r.row k in
      let b = beside glyphs (extent_of us columns) (left_column w r.row) order s sums c in
      let among : Contains order b.number =
      subst (λ ks. Contains ks b.number) (sym b.order_is) (Contains-append_right b.before (b.number ∷ b.behind) b.number (0, omega arith, refl)) in
      let inside : b.number < length us = All-contains (λ k. k < length us) order b.number below among in
      let split : flat_map glyphs order ≡ flat_map glyphs b.before ++ (glyphs b.number ++ flat_map glyphs b.behind) =
      ap (flat_map glyphs) b.order_is ∙ flat_map-append glyphs b.before (b.number ∷ b.behind)
      ∙ ap (λ gs. flat_map glyphs b.before ++ gs) (flat_map-cons glyphs b.number b.behind) in
      let p = padded (r.row.paragraph % 2) (w - columns_used w us) (flat_map glyphs order) (flat_map glyphs b.before) (glyphs b.number)
      (flat_map glyphs b.behind) split in record {
        number = b.number;
        within = inside;
        place_is = λ d. omega (arith, at, b.offset_is, ap (λ (x : ℕ × ℕ). x.0) (extents b.number d inside));
        before = b.before;
        behind = b.behind;
        order = b.order_is;
        rest = p.rest;
        shown = p.shown;
        column_is = omega (arith, b.column_is, p.columns_are);
      }

  end-cell : (s : Slot) (place : ℕ) → r.row.is_last ≡ true → end_slot w r.row ≡ s → r.start + s.offset ≡ place → IsEndCell w r place s.column
  end-cell s place last e at = record {
    last = last;
    place_is = omega (arith, at, ap (λ (x : Slot). x.offset) e);
    column_is = sym (ap (λ (x : Slot). x.column) e);
  }

  slot-cell : (s : Slot) (place : ℕ) → Contains (row_slots w r.row) s → r.start + s.offset ≡ place
      → IsUnitCell ucd w r place s.column ⊎ IsEndCell w r place s.column
  slot-cell s place c at = ⊎_elim (λ unit. inl (unit-cell s place unit at)) (λ end. inr (end-cell s place end.0 end.1 at))
      (either-slot (r.row.paragraph % 2) r.row.is_last (end_slot w r.row) (unit_slots w r.row) s c)

  -- the cell at an offset of a place of the row
  place-cell : (place : ℕ) → r.start ≤ place → Contains (offsets_of r.row) (place - r.start)
      → IsUnitCell ucd w r place (column_of w r.row (place - r.start)) ⊎ IsEndCell w r place (column_of w r.row (place - r.start))
  place-cell place low c =
      let offset = place - r.start in
      let some : 0 < times offset (slot_offsets w r.row) =
      omega (arith, counted-contains (offsets_of r.row) offset c, once-summed w r.row levels (one-at offset)) in
      let f = found (row_slots w r.row) offset some in
      let at : r.start + f.one.offset ≡ place = omega (arith, f.offset_is, low) in
      subst (λ column. IsUnitCell ucd w r place column ⊎ IsEndCell w r place column) (sym f.column_is) (slot-cell f.one place f.among at)

-- an offset of the text among a body's offsets
pub unmoved : (start : ℕ) (os : List ℕ) (p : ℕ) → Contains (map (λ o. start + o) os) p → (start ≤ p) × Contains os (p - start)
unmoved start os p (k, h, e) =
    let within : k < length os = omega (arith, h, length-map os (λ o. start + o)) in
    let at : start + get_or os k 0 ≡ p = sym (get_or-map (λ o. start + o) os k 0 p within) ∙ e in
    (omega (arith, at), (k, within, get_or_default os k (p - start) 0 within ∙ omega (arith, at)))

-- ---- of a text

module _ (ucd : Data) (base : Base) (w : ℕ) (some : 1 ≤ w) (text : List ℕ) (utf8 : IsUtf8 text) where
  abbrev rows : List TextRow
  rows = text_rows ucd base w text

  pub has-cell : (place : ℕ) → IsPlace rows place → HasCell ucd w rows place
  has-cell place is mirror joining form =
      let n = row_of rows place in
      let r = row_at rows n in
      let one = one-slot ucd base w some text utf8 place is in
      let at = unmoved r.start (offsets_of r.row) place (in-own-row ucd base w some text utf8 place is) in
      place-cell (with_looks ucd mirror joining form) w r (rows-leveled ucd base w text n no_text_row one.row)
      (rows-faced ucd base w text utf8 n no_text_row one.row) place at.0 at.1

  pub has-cells : HasCells ucd w rows
  has-cells = record {
    slots = row-slots ucd base w some text utf8;
    entered = row-entered ucd base w some text utf8;
    one = one-slot ucd base w some text utf8;
    cell = has-cell;
  }
