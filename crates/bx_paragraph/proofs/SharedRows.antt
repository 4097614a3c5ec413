-- Rows that begin well before an edit stay.
use Rattle.std.proofs.Common.{◌≡◌, ℕ, zero, suc, ◌+◌, ◌-◌, ◌%◌, ◌<◌, ◌≤◌, ◌==◌, ◌&&◌, nat_lt, nat_le, Bool, true, false, List, [], ◌∷◌, ◌++◌, map, length, take, drop}
use Rattle.std.proofs.Common.{get_or, Some, All, refl, sym, ap, ap₂, subst, ◌∙◌, arith, leb-true, ltb-true, ne_eqb, length-append}
use Rattle.std.specs.Prelude.{slice_get}
use Rattle.std.specs.Str.{chars, IsCharBoundary, IsUtf8}
use Rattle.std.proofs.lemmas.Bool.{and_parts}
use Rattle.std.proofs.lemmas.List.{length-take-le, take-append-drop, take-append-le}
use Rattle.std.proofs.lemmas.List.Elements.{All-tail}
use Rattle.std.proofs.Math.Nat.{mod-lt}
use Rattle.std.proofs.Math.Seq.{drop-cons}
use Rattle.bx_ucd.specs.Data.{Data}
use Rattle.bx_rows.specs.declared.cells.unit.Face.{Face}
use Rattle.bx_rows.specs.declared.cells.unit.Face.TheVariants.{Tab, Placeholder, Own}
use Rattle.bx_rows.specs.declared.cells.unit.Unit.{Unit}
use Rattle.bx_rows.specs.cells.Units.{units}
use Rattle.bx_rows.proofs.cells_lemmas.Rest.{unit-behind}
use Rattle.bx_rows.specs.declared.wrapping.Row.{Row}
use Rattle.bx_rows.specs.declared.start_search.RowStart.{RowStart}
use Rattle.bx_rows.specs.RowStarts.{first_offset, row_starts, start_of}
use Rattle.bx_rows.specs.Wrapping.{columns_at, fit_count, fit_count_from, is_break, row_len, rows_from, up_to_break, up_to_last}
use Rattle.bx_rows.specs.UnitPlaces.{FitsWindow}
use Rattle.bx_rows.proofs.EachRow.{found-row, units-fit}
use Rattle.bx_rows.proofs.RowUnits.{starts-of-some}
use Rattle.bx_rows.proofs.RowsFit.{row-within}
use Rattle.bx_rows.proofs.Wraps.{no_unit}
use Rattle.bx_paragraph.proofs.SharedUnits.{Agrees, units-shared}

-- ---- how far a row looks

column-some : (w c : ℕ) (f : Face) → FitsWindow w f → c < w → 1 ≤ columns_at w c f
column-some w c Tab fit h = let low : c % 8 < 8 = mod-lt c (omega arith) in omega (arith, low, h)
column-some w c (Placeholder letter) fit h = omega arith
column-some w c (Own n) fit h = fit.0

few-by : (w c col n : ℕ) (b : Bool) → (nat_lt c w && nat_le (c + col) w) ≡ b → (c < w → c + col ≤ w → (1 ≤ col) × (n ≤ w - (c + col)))
    → elim b [ true ↦ suc n | false ↦ 0 ] ≤ w - c
few-by w c col n true e h =
    let p = and_parts (nat_lt c w) (nat_le (c + col) w) e in
    let less : c < w = ltb-true c w p.0 in
    let end : c + col ≤ w = leb-true (c + col) w p.1 in
    let both = h less end in
    omega (arith, less, end, both.0, both.1)
few-by w c col n false e h = omega arith

fit-few : (w c : ℕ) (us : List Unit) → All (λ u. FitsWindow w u.face) us → fit_count_from w c us ≤ w - c
fit-few w c [] fit = omega arith
fit-few w c (u ∷ us) fit =
    let col = columns_at w c u.face in
    few-by w c col (fit_count_from w (c + col) us) (nat_lt c w && nat_le (c + col) w) refl
    (λ less end. (column-some w c u.face (fit 0 u (omega arith)) less, fit-few w (c + col) us (All-tail (λ u. FitsWindow w u.face) u us fit)))

same-by : (b : Bool) (n m len : ℕ) → (n < len → m ≡ n) → elim b [ true ↦ suc n | false ↦ 0 ] < suc len
    → elim b as (λ z. ℕ) [ true ↦ suc m | false ↦ 0 ] ≡ elim b as (λ z. ℕ) [ true ↦ suc n | false ↦ 0 ]
same-by true n m len h less = ap suc (h (omega (arith, less)))
same-by false n m len h less = refl

fit-same : (w c : ℕ) (front back other : List Unit) → fit_count_from w c (front ++ back) < length front
    → fit_count_from w c (front ++ other) ≡ fit_count_from w c (front ++ back)
fit-same w c [] back other h = absurd (omega (arith, h))
fit-same w c (u ∷ us) back other h =
    let end = c + columns_at w c u.face in
    same-by (nat_lt c w && nat_le end w) (fit_count_from w end (us ++ back)) (fit_count_from w end (us ++ other)) (length us)
    (λ less. fit-same w end us back other less) h

-- ---- the rows of two lists of units that begin alike

module _ (p q : Unit → Bool) (old new : List ℕ) (w : ℕ) where
  last-agree : (n : ℕ) (us : List Unit) → Agrees p q old new us → up_to_last p (take n us) ≡ up_to_last q (take n us)
  last-agree zero us a = refl
  last-agree (suc n) [] a = refl
  last-agree (suc n) (u ∷ us) a =
      ap₂ (λ (n : ℕ) (b : Bool). elim n [ suc m ↦ suc (suc m) | zero ↦ elim b [ true ↦ 1 | false ↦ 0 ] ]) (last-agree n us a.1) a.0.same

  len-is : (r : Unit → Bool) (front back : List Unit) (n : ℕ) → fit_count w (front ++ back) ≡ n → n < length front
      → row_len r w (front ++ back) ≡ elim (up_to_last r (take n front)) [ zero ↦ n | suc k ↦ suc k ]
  len-is r front back n e less =
      let all = front ++ back in
      let more : (n == length all) ≡ false = ne_eqb n (length all) (λ whole. omega (arith, whole, less, length-append front back)) in
      ap (λ m. elim (m == length all) [ true ↦ m | false ↦ up_to_break r m all ]) e
      ∙ ap (λ (b : Bool). elim b [ true ↦ n | false ↦ up_to_break r n all ]) more
      ∙ ap (λ xs. elim (up_to_last r xs) [ zero ↦ n | suc k ↦ suc k ]) (take-append-le n front back (omega (arith, less)))

  len-same : (front back other : List Unit) → Agrees p q old new front → fit_count w (front ++ back) < length front
      → row_len p w (front ++ back) ≡ row_len q w (front ++ other)
  len-same front back other a less =
      let n = fit_count w (front ++ back) in
      len-is p front back n refl less ∙ ap (λ (m : ℕ). elim m [ zero ↦ n | suc k ↦ suc k ]) (last-agree n front a)
      ∙ sym (len-is q front other n (fit-same w 0 front back other less) less)

  start-low : (i taken : ℕ) (us : List Unit) (k : ℕ) (r : Row) → slice_get (rows_from p w i taken us) k ≡ Some r → i ≤ r.start
  start-low i taken [] k r e = cc
  start-low i (suc taken) (u ∷ us) k r e = omega (arith, start-low (suc i) taken us k r e)
  start-low i zero (u ∷ us) zero r e =
      let same : record { start = i; stop = i + row_len p w (u ∷ us) } ≡ r = cc in
      let at : i ≡ r.start = ap (λ x. x.start) same in
      omega (arith, at)
  start-low i zero (u ∷ us) (suc k) r e = omega (arith, start-low (suc i) (row_len p w (u ∷ us) - 1) us k r e)

  start-inside : (i taken : ℕ) (us : List Unit) (k : ℕ) (r : Row) → slice_get (rows_from p w i taken us) k ≡ Some r → r.start < i + length us
  start-inside i taken [] k r e = cc
  start-inside i (suc taken) (u ∷ us) k r e =
      let one : length (u ∷ us) ≡ suc (length us) = refl in omega (arith, one, start-inside (suc i) taken us k r e)
  start-inside i zero (u ∷ us) zero r e =
      let one : length (u ∷ us) ≡ suc (length us) = refl in
      let same : record { start = i; stop = i + row_len p w (u ∷ us) } ≡ r = cc in
      let at : i ≡ r.start = ap (λ x. x.start) same in
      omega (arith, at, one)
  start-inside i zero (u ∷ us) (suc k) r e =
      let one : length (u ∷ us) ≡ suc (length us) = refl in omega (arith, one, start-inside (suc i) (row_len p w (u ∷ us) - 1) us k r e)

  module _ (f g : ℕ → RowStart) (m : ℕ) (fg : (n : ℕ) → n < m → f n ≡ g n) (some : 1 ≤ w) where
    same-starts : (i taken : ℕ) (front back other : List Unit) → All (λ u. FitsWindow w u.face) (front ++ back) → Agrees p q old new front
        → m ≡ i + length front → taken < length front → (k : ℕ) (r : Row) → slice_get (rows_from p w i taken (front ++ back)) k ≡ Some r
        → r.start + w < m
        → take (suc k) (map (λ r. f r.start) (rows_from p w i taken (front ++ back)))
        ≡ take (suc k) (map (λ r. g r.start) (rows_from q w i taken (front ++ other)))
    same-starts i taken [] back other fit a n h k r e less = absurd (omega (arith, h))
    same-starts i (suc taken) (u ∷ us) back other fit a n h k r e less =
        let one : length (u ∷ us) ≡ suc (length us) = refl in
        same-starts (suc i) taken us back other (All-tail (λ u. FitsWindow w u.face) u (us ++ back) fit) a.1 (omega (arith, n, one)) (omega (arith, h, one))
        k r e less
    same-starts i zero (u ∷ us) back other fit a n h zero r e less =
        let one : length (u ∷ us) ≡ suc (length us) = refl in
        ap (λ x. x ∷ []) (fg i (omega (arith, n, one)))
    same-starts i zero (u ∷ us) back other fit a n h (suc k) r e less =
        let one : length (u ∷ us) ≡ suc (length us) = refl in
        let len = row_len p w (u ∷ (us ++ back)) in
        let low : suc i ≤ r.start = start-low (suc i) (len - 1) (us ++ back) k r e in
        let few : fit_count w (u ∷ (us ++ back)) ≤ w - 0 = fit-few w 0 (u ∷ (us ++ back)) fit in
        let within : len ≤ fit_count w (u ∷ (us ++ back)) = row-within p w (u ∷ (us ++ back)) in
        let same : len ≡ row_len q w (u ∷ (us ++ other)) = len-same (u ∷ us) back other a (omega (arith, few, low, less, n, one)) in
        ap₂ (λ x xs. x ∷ xs) (fg i (omega (arith, n, one)))
        (same-starts (suc i) (len - 1) us back other (All-tail (λ u. FitsWindow w u.face) u (us ++ back) fit) a.1 (omega (arith, n, one))
        (omega (arith, few, within, low, less, n, one, some)) k r e less
        ∙ ap (λ t. take (suc k) (map (λ r. g r.start) (rows_from q w (suc i) (t - 1) (us ++ other)))) same)

-- ---- where they begin

record SameBefore (old new : List ℕ) (us vs : List Unit) : Type 0 where
  offset : first_offset us ≡ first_offset vs
  text : take (first_offset us) old ≡ take (first_offset us) new

before-same : (p q : Unit → Bool) (old new : List ℕ) (front back other : List Unit) (n : ℕ) → Agrees p q old new front → n < length front
    → SameBefore old new (drop n (front ++ back)) (drop n (front ++ other))
before-same p q old new [] back other n a h = absurd (omega (arith, h))
before-same p q old new (u ∷ us) back other zero a h = record { offset = refl; text = a.0.before }
before-same p q old new (u ∷ us) back other (suc n) a h =
    let one : length (u ∷ us) ≡ suc (length us) = refl in before-same p q old new us back other n a.1 (omega (arith, h, one))

start-same : (p q : Unit → Bool) (old new : List ℕ) (front back other : List Unit) (n : ℕ) → Agrees p q old new front → n < length front
    → start_of old (front ++ back) (record { start = n; stop = 0 }) ≡ start_of new (front ++ other) (record { start = n; stop = 0 })
start-same p q old new front back other n a h =
    let b = before-same p q old new front back other n a h in
    ap (λ t. record { offset = first_offset (drop n (front ++ back)); units = n; chars = length (chars t) }) b.text
    ∙ ap (λ o. record { offset = o; units = n; chars = length (chars (take o new)) }) b.offset

pub rows-before-stay : (ucd : Data) (w : ℕ) (old new : List ℕ) (offset k q : ℕ) (s e : RowStart) → 1 ≤ w → IsUtf8 old → IsUtf8 new
    → IsCharBoundary old offset → IsCharBoundary new offset → take offset old ≡ take offset new → slice_get (row_starts ucd w old) k ≡ Some s
    → slice_get (row_starts ucd w old) q ≡ Some e → e.offset < offset → s.units + w < e.units
    → take (k + 1) (row_starts ucd w new) ≡ take (k + 1) (row_starts ucd w old)
rows-before-stay ucd w old new offset k q s e some valid also at_old at_new shared has_s has_e behind less =
    let us = units ucd w old in
    let vs = units ucd w new in
    let pu = is_break ucd old in
    let pv = is_break ucd new in
    let within = at_old.0 in
    let inside = at_new.0 in
    let of_old = starts-of-some ucd w old (map (start_of old us) (rows_from pu w 0 0 us)) valid (omega (arith, within, behind)) refl in
    let of_new = starts-of-some ucd w new (map (start_of new vs) (rows_from pv w 0 0 vs)) also (omega (arith, inside, behind)) refl in
    let row_k = found-row (start_of old us) (rows_from pu w 0 0 us) k s (ap (λ x. slice_get x k) of_old ∙ has_s) in
    let row_q = found-row (start_of old us) (rows_from pu w 0 0 us) q e (ap (λ x. slice_get x q) of_old ∙ has_e) in
    let n = row_q.0.start in
    let n_is : n ≡ e.units = ap (λ x. x.units) row_q.2 in
    let k_is : row_k.0.start ≡ s.units = ap (λ x. x.units) row_k.2 in
    let less_us : n < 0 + length us = start-inside pu pv old new w 0 0 us q row_q.0 row_q.1 in
    let u = get_or us n no_unit in
    let rest = drop (suc n) us in
    let d = drop-cons us n no_unit (omega (arith, less_us)) in
    let at = unit-behind ucd w old n u rest valid d in
    let o_is : e.offset ≡ u.start = sym (ap (λ x. x.offset) row_q.2) ∙ ap first_offset d in
    let both = units-shared ucd w old new offset n u rest valid also at_old at_new shared d at.boundary (omega (arith, o_is, behind)) in
    let front = take n us in
    let back = drop n us in
    let other = drop n vs in
    let us_is : us ≡ front ++ back = sym (take-append-drop n us) in
    let vs_is : vs ≡ front ++ other = sym (take-append-drop n vs) ∙ ap (λ x. x ++ other) (sym both.same) in
    let size : length front ≡ n = length-take-le n us (omega (arith, less_us)) in
    let f : ℕ → RowStart = λ i. start_of old (front ++ back) (record { start = i; stop = 0 }) in
    let g : ℕ → RowStart = λ i. start_of new (front ++ other) (record { start = i; stop = 0 }) in
    let one : suc k ≡ k + 1 = omega arith in
    let main = same-starts pu pv old new w f g n (λ i h. start-same pu pv old new front back other i both.agree (omega (arith, h, size))) some 0 0 front back
    other (subst (All (λ u. FitsWindow w u.face)) us_is (units-fit ucd w old valid)) both.agree (omega (arith, size)) (omega (arith, size, n_is, less)) k row_k.0
    (subst (λ x. slice_get (rows_from pu w 0 0 x) k ≡ Some row_k.0) us_is row_k.1) (omega (arith, k_is, n_is, less)) in
    sym (ap (λ x. take x (row_starts ucd w old)) (sym one) ∙ ap (take (suc k)) (sym of_old)
    ∙ ap (λ x. take (suc k) (map (start_of old x) (rows_from pu w 0 0 x))) us_is ∙ main
    ∙ ap (λ x. take (suc k) (map (start_of new x) (rows_from pv w 0 0 x))) (sym vs_is)
    ∙ ap (take (suc k)) of_new ∙ ap (λ x. take x (row_starts ucd w new)) one)
