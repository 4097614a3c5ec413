-- The column of each cell lies in the window.
use Rattle.std.proofs.Common.{◌≡◌, ℕ, zero, suc, ◌+◌, ◌-◌, ◌%◌, ◌<◌, ◌≤◌, ◌==◌, nat_lt, nat_le}
use Rattle.std.proofs.Common.{◌&&◌, min, max, Bool, true, false, List, [], ◌∷◌, ◌++◌, length, map}
use Rattle.std.proofs.Common.{take, drop, get_or, sum_by, find, Option, Some, option_map, unwrap_or}
use Rattle.std.proofs.Common.{cond, chars, IsUtf8, refl, sym, ap, subst, ◌∙◌, arith}
use Rattle.std.specs.Prelude.{⊤, All}
use Rattle.std.proofs.lemmas.Bool.{and_parts}
use Rattle.std.proofs.lemmas.Bool.Decides.{nat_tests}
use Rattle.std.proofs.lemmas.List.Sums.{sum_by-cons}
use Rattle.bx_ucd.specs.Data.{Data}
use Rattle.bx_common.specs.declared.base.Base.{Base}
use Rattle.bx_levels.specs.resolve.Levels.{paragraph_level_under, levels_under}
use Rattle.bx_rows.specs.declared.cells.unit.Face.{Face}
use Rattle.bx_rows.specs.declared.cells.unit.Face.TheVariants.{Tab, Placeholder, Own}
use Rattle.bx_rows.specs.declared.cells.unit.Unit.{Unit}
use Rattle.bx_rows.specs.cells.Units.{unit_text, units}
use Rattle.bx_rows.specs.cells.UnitFacts.{HasFace}
use Rattle.bx_rows.proofs.cells_lemmas.Standing.{faces-units}
use Rattle.bx_rows.specs.declared.wrapping.Row.{Row}
use Rattle.bx_rows.specs.RowPicture.{columns_used, unit_columns}
use Rattle.bx_rows.specs.Shown.{IsRowOf}
use Rattle.bx_rows.specs.RowLevels.{visual}
use Rattle.bx_rows.specs.Wrapping.{columns_at, fit_count_from, is_break, row_len, row_units, rows_from, rows_of, wrap}
use Rattle.bx_rows.proofs.FaceGlyphs.{Tells, tells-face}
use Rattle.bx_rows.proofs.NumbersBelow.{below_if_visual}
use Rattle.bx_rows.proofs.PictureSums.{columns-length}
use Rattle.bx_rows.proofs.Resets.{one_each}
use Rattle.bx_rows.proofs.RowsFit.{fit_if_wrapped, rest-of, row-within}
use Rattle.bx_paragraph.specs.declared.slots.Slot.{Slot}
use Rattle.bx_paragraph.specs.BodyRows.{BodyRow, body_rows, row_with, rows_units}
use Rattle.bx_paragraph.specs.BodyRows.{row_at as row_at_body}
use Rattle.bx_paragraph.specs.Layout.{row_of as row_of_body}
use Rattle.bx_paragraph.specs.OrderedColumns.{ordered_columns}
use Rattle.bx_paragraph.specs.Slots.{column_in, end_slot, extent_of, left_column, row_slots, side_by_side, unit_slots}
use Rattle.bx_paragraph.proofs.LayoutRows.{last-at}
use Rattle.bx_paragraph.proofs.RowSlots.{columns-in-order, extent-is}
use Rattle.bx_text.specs.index.Paragraphs.{lengths, paragraph_of}
use Rattle.bx_view.specs.Numbers.{body_at, start_at}
use Rattle.bx_view.specs.TextRows.{cell_of, text_rows}
use Rattle.bx_view.proofs.Numbers.{body-utf8}
use Rattle.bx_view.proofs.Walking.{cell-is, row-under}
use Rattle.bx_view.proofs.Within.{length-with-last}

-- ---- each unit of a row has a column

abbrev pub AllSome : List ℕ → Type 0
AllSome [] = ⊤
AllSome (n ∷ ns) = (1 ≤ n) × AllSome ns

abbrev pub HasColumn : Face → Type 0
HasColumn (Own n) = 1 ≤ n
HasColumn _ = ⊤

abbrev pub AllHave : List Unit → Type 0
AllHave [] = ⊤
AllHave (u ∷ us) = HasColumn u.face × AllHave us

have-of : (text : List ℕ) (f : Face) → Tells text f → HasColumn f
have-of text Tab h = tt
have-of text (Placeholder letter) h = tt
have-of text (Own n) h = h.2

pub all-have : (ucd : Data) (w : ℕ) (body : List ℕ) (us : List Unit) → All (HasFace ucd w body) us → AllHave us
all-have ucd w body [] h = tt
all-have ucd w body (u ∷ us) h = (
  have-of (chars (unit_text body u)) u.face (tells-face ucd w (unit_text body u) u.face (h 0 u (omega arith))),
  all-have ucd w body us (λ i d inside. h (suc i) d (omega (arith, inside))),
)

one-column : (w c : ℕ) (f : Face) → c < w → HasColumn f → 1 ≤ columns_at w c f
one-column w c Tab h k = omega arith
one-column w c (Placeholder letter) h k = omega arith
one-column w c (Own n) h k = k

some-by : (w c n : ℕ) (u : Unit) (us : List Unit) (b : Bool) → (nat_lt c w && nat_le (c + columns_at w c u.face) w) ≡ b
    → suc n ≤ elim b [ true ↦ suc (fit_count_from w (c + columns_at w c u.face) us) | false ↦ 0 ] → HasColumn u.face
    → (n ≤ fit_count_from w (c + columns_at w c u.face) us → AllSome (unit_columns w (c + columns_at w c u.face) (take n us)))
    → AllSome (unit_columns w c (u ∷ take n us))
some-by w c n u us true e k own rest =
    let p = and_parts (nat_lt c w) (nat_le (c + columns_at w c u.face) w) e in
    let low : nat_lt c w ≡ true = p.0 in
    let inside : c < w = grind (arith, nat_tests) in
    (one-column w c u.face inside own, rest (omega (arith, k)))
some-by w c n u us false e k own rest = absurd (omega (arith, k))

some-columns : (w c n : ℕ) (us : List Unit) → AllHave us → n ≤ fit_count_from w c us → AllSome (unit_columns w c (take n us))
some-columns w c zero us h k = tt
some-columns w c (suc n) [] h k = tt
some-columns w c (suc n) (u ∷ us) h k = some-by w c n u us (nat_lt c w && nat_le (c + columns_at w c u.face) w) refl k h.0
    (λ rest. some-columns w (c + columns_at w c u.face) n us h.1 rest)

abbrev pub EachSome : ℕ → List (List Unit) → Type 0
EachSome w [] = ⊤
EachSome w (us ∷ rest) = AllSome (unit_columns w 0 us) × EachSome w rest

row-some : (p : Unit → Bool) (w i : ℕ) (us all : List Unit) → AllHave us → us ≡ drop i all
    → AllSome (unit_columns w 0 (row_units all (record { start = i; stop = i + row_len p w us })))
row-some p w i us all h e =
    let n = row_len p w us in
    let whole : i + n - i ≡ n = omega arith in
    let units : row_units all (record { start = i; stop = i + n }) ≡ take n us = ap (λ k. take k (drop i all)) whole ∙ ap (take n) (sym e) in
    subst (λ vs. AllSome (unit_columns w 0 vs)) (sym units) (some-columns w 0 n us h (row-within p w us))

rows-some : (p : Unit → Bool) (w i k : ℕ) (us all : List Unit) → AllHave us → us ≡ drop i all → EachSome w (map (row_units all) (rows_from p w i k us))
rows-some p w i k [] all h e = tt
rows-some p w i (suc k) (u ∷ us) all h e = rows-some p w (suc i) k us all h.1 (rest-of i u us all e)
rows-some p w i zero (u ∷ us) all h e =
    (row-some p w i (u ∷ us) all h e, rows-some p w (suc i) (row_len p w (u ∷ us) - 1) us all h.1 (rest-of i u us all e))

pub wrapped-some : (p : Unit → Bool) (w : ℕ) (us : List Unit) → AllHave us → EachSome w (map (row_units us) (rows_of p w us))
wrapped-some p w [] h = (tt, tt)
wrapped-some p w (u ∷ us) h = rows-some p w 0 0 (u ∷ us) (u ∷ us) h refl

some-at : (w : ℕ) (xs : List (List Unit)) (k : ℕ) → EachSome w xs → AllSome (unit_columns w 0 (get_or xs k []))
some-at w [] k h = tt
some-at w (us ∷ xs) zero h = h.0
some-at w (us ∷ xs) (suc k) h = some-at w xs k h.1

-- ---- so each slot of a row lies in the window

abbrev Lie : ℕ → List Slot → Type 0
Lie w [] = ⊤
Lie w (s ∷ ss) = (1 ≤ s.column) × (s.column ≤ w) × Lie w ss

abbrev pub total : List (ℕ × ℕ) → ℕ
total us = sum_by (λ u. u.1) us

abbrev pub Wide : List (ℕ × ℕ) → Type 0
Wide [] = ⊤
Wide (u ∷ us) = (1 ≤ u.1) × Wide us

side-lie : (w at : ℕ) (us : List (ℕ × ℕ)) → Wide us → 1 ≤ at → at + total us ≤ w + 1 → Lie w (side_by_side at us)
side-lie w at [] h low fits = tt
side-lie w at (u ∷ us) h low fits =
    let sum = sum_by-cons (λ (x : ℕ × ℕ). x.1) u us in
    (low, omega (arith, fits, sum, h.0), side-lie w (at + u.1) us h.1 (omega (arith, low)) (omega (arith, fits, sum)))

some-get : (ns : List ℕ) (k : ℕ) → AllSome ns → k < length ns → 1 ≤ get_or ns k 0
some-get [] k h inside = absurd (omega (arith, inside))
some-get (n ∷ ns) zero h inside = h.0
some-get (n ∷ ns) (suc k) h inside = some-get ns k h.1 (omega (arith, inside))

no_unit : Unit
no_unit = record { start = 0; stop = 0; face = Tab }

module _ (w : ℕ) (us : List Unit) where
  abbrev columns : List ℕ
  columns = unit_columns w 0 us

  pub extents-wide : AllSome columns → (order : List ℕ) → All (λ k. k < length us) order → Wide (map (extent_of us columns) order)
  extents-wide some [] below = tt
  extents-wide some (k ∷ ks) below =
      let here : k < length us = below 0 k (omega arith) in
      let is = ap (λ (x : ℕ × ℕ). x.1) (extent-is us columns k no_unit here (columns-length w 0 us)) in (
        omega (arith, is, some-get columns k some (omega (arith, here, columns-length w 0 us))),
        extents-wide some ks (λ i d inside. below (suc i) d (omega (arith, inside))),
      )

  pub extents-total : (order : List ℕ) → All (λ k. k < length us) order → total (map (extent_of us columns) order) ≡ ordered_columns columns order
  extents-total [] below = refl
  extents-total (k ∷ ks) below =
      let is = ap (λ (x : ℕ × ℕ). x.1) (extent-is us columns k no_unit (below 0 k (omega arith)) (columns-length w 0 us)) in
      omega (
        arith,
        is,
        sum_by-cons (λ (x : ℕ × ℕ). x.1) (extent_of us columns k) (map (extent_of us columns) ks),
        sum_by-cons (λ j. get_or columns j 0) k ks,
        extents-total ks (λ i d inside. below (suc i) d (omega (arith, inside))),
      )

lie-append : (w : ℕ) (ss ts : List Slot) → Lie w ss → Lie w ts → Lie w (ss ++ ts)
lie-append w [] ts h k = k
lie-append w (s ∷ ss) ts h k = (h.0, h.1, lie-append w ss ts h.2 k)

abbrev pub left_of : ℕ → ℕ → ℕ → ℕ
left_of n w used = elim n [ zero ↦ 1 | suc _ ↦ w - used + 1 ]

pub left-by : (n w used : ℕ) → used ≤ w → (1 ≤ left_of n w used) × (left_of n w used + used ≤ w + 1)
left-by zero w used h = (omega arith, omega (arith, h))
left-by (suc n) w used h = (omega arith, omega (arith, h))

abbrev pub end_of : ℕ → ℕ → ℕ → ℕ
end_of n w used = elim n [ zero ↦ min (used + 1) w | suc _ ↦ max (w - used) 1 ]

end-by : (n w used : ℕ) → 1 ≤ w → (1 ≤ end_of n w used) × (end_of n w used ≤ w)
end-by zero w used h = (omega (arith, h), omega arith)
end-by (suc n) w used h = (omega arith, omega (arith, h))

with-end-lie : (n w : ℕ) (end : Slot) (ss : List Slot) → (1 ≤ end.column) × (end.column ≤ w) → Lie w ss
    → Lie w (elim n [ zero ↦ ss ++ end ∷ [] | suc _ ↦ end ∷ ss ])
with-end-lie zero w end ss h k = lie-append w ss (end ∷ []) k (h.0, h.1, tt)
with-end-lie (suc n) w end ss h k = (h.0, h.1, k)

slots-by : (b : Bool) (w : ℕ) (ss ts : List Slot) → Lie w ss → Lie w ts → Lie w (elim b [ true ↦ ss | false ↦ ts ])
slots-by true w ss ts h k = h
slots-by false w ss ts h k = k

row-lie : (w : ℕ) (r : BodyRow) → 1 ≤ w → AllSome (unit_columns w 0 r.units) → columns_used w r.units ≤ w → length r.levels ≡ length r.units
    → Lie w (row_slots w r)
row-lie w r some each fits e =
    let us = r.units in
    let order = visual r.levels in
    let below : All (λ k. k < length us) order =
    subst (λ n. All (λ k. k < n) order) e (below_if_visual r.levels order refl) in
    let left = left-by (r.paragraph % 2) w (columns_used w us) fits in
    let sum = extents-total w us order below in
    let used = columns-in-order w us r.levels (unit_columns w 0 us) order e refl refl in
    let extents = map (extent_of us (unit_columns w 0 us)) order in
    let own : Lie w (unit_slots w r) =
    side-lie w (left_column w r) extents (extents-wide w us each order below) left.0 (omega (arith, left.1, sum, used)) in
    slots-by r.is_last w (elim (r.paragraph % 2) [ zero ↦ unit_slots w r ++ end_slot w r ∷ [] | suc _ ↦ end_slot w r ∷ unit_slots w r ]) (unit_slots w r)
    (with-end-lie (r.paragraph % 2) w (end_slot w r) (unit_slots w r) (end-by (r.paragraph % 2) w (columns_used w us) some) own) own

abbrev column_or : Option Slot → ℕ
column_or o = unwrap_or (option_map (λ (x : Slot). x.column) o) 1

found-by : (w : ℕ) (s : Slot) (b : Bool) (o : Option Slot) → (1 ≤ s.column) × (s.column ≤ w) → (1 ≤ column_or o) × (column_or o ≤ w)
    → (1 ≤ column_or (cond b (Some s) o)) × (column_or (cond b (Some s) o) ≤ w)
found-by w s true o h k = h
found-by w s false o h k = k

column-in : (w : ℕ) (ss : List Slot) (offset : ℕ) → 1 ≤ w → Lie w ss → (1 ≤ column_in ss offset) × (column_in ss offset ≤ w)
column-in w [] offset some h = (omega arith, some)
column-in w (s ∷ ss) offset some h =
    found-by w s (s.offset == offset) (find (λ (x : Slot). x.offset == offset) ss) (h.0, h.1) (column-in w ss offset some h.2)

used-at : (w : ℕ) (us : List Unit) (rs : List Row) (k : ℕ) → All (IsRowOf w us) rs → columns_used w (get_or (map (row_units us) rs) k []) ≤ w
used-at w us [] k h = let none : columns_used w [] ≡ 0 = refl in omega (arith, none)
used-at w us (r ∷ rs) zero h = (h 0 r (omega arith)).2
used-at w us (r ∷ rs) (suc k) h = used-at w us rs k (λ i d inside. h (suc i) d (omega (arith, inside)))

-- ---- of a text

-- the columns of each row of a body
module _ (ucd : Data) (base : Base) (w : ℕ) (some : 1 ≤ w) (body : List ℕ) (utf8 : IsUtf8 body) where
  abbrev xs : List (List Unit)
  xs = rows_units ucd w body

  fits-at : (k : ℕ) → columns_used w (get_or xs k []) ≤ w
  fits-at k =
      let us = units ucd w body in
      let rs = wrap ucd w body us in
      used-at w us rs k (fit_if_wrapped ucd w body us rs refl)

  pub body-row-lie : (k : ℕ) → k < length xs → Lie w (row_slots w (row_at_body (body_rows ucd base w body) k))
  body-row-lie k h =
      let each = levels_under ucd base (chars body) in
      let level = paragraph_level_under ucd base (chars body) in
      let make = row_with ucd body level each in
      let us = get_or xs k [] in
      subst (λ r. Lie w (row_slots w r)) (sym (last-at make xs k h))
      (row-lie w (make (k + 1 == length xs) us) some
      (some-at w xs k (wrapped-some (is_break ucd body) w (units ucd w body) (all-have ucd w body (units ucd w body) (faces-units ucd w body utf8))))
      (fits-at k) (one_each ucd body level each us _ refl))

-- the column of the cell of a place
pub cell-inside : (ucd : Data) (base : Base) (w : ℕ) (text : List ℕ) (place : ℕ) → 1 ≤ w → IsUtf8 text
    → (1 ≤ cell_of w (text_rows ucd base w text) place) × (cell_of w (text_rows ucd base w text) place ≤ w)
cell-inside ucd base w text place some utf8 =
    let number = paragraph_of (lengths ucd text) place in
    let body = body_at ucd text number in
    let k = row_of_body (body_rows ucd base w body) (place - start_at ucd text number) in
    let is = row-under ucd base w some text utf8 place number k refl refl in
    let valid = body-utf8 ucd text number is.paragraph utf8 in
    let within = is.row in
    let count = length-with-last (row_with ucd body (paragraph_level_under ucd base (chars body)) (levels_under ucd base (chars body)))
    (rows_units ucd w body) in
    let r = row_at_body (body_rows ucd base w body) k in
    let column = column-in w (row_slots w r) (place - start_at ucd text number) some
    (body-row-lie ucd base w some body valid k (omega (arith, within, count))) in
    subst (λ c. (1 ≤ c) × (c ≤ w)) (sym (cell-is ucd base w some text utf8 place number k refl refl)) column
