-- From any row on, the rows of a body are those of its rest.
use Rattle.std.proofs.Common.{◌≡◌, ℕ, zero, suc, ◌+◌, ◌-◌, max, ◌<◌, ◌==◌, nat_lt, nat_le, ◌&&◌, true, false, Bool, List, [], ◌∷◌, length, take, drop, map}
use Rattle.std.proofs.Common.{get_or, Some, inl, inr, refl, sym, ap, ap₂, subst, ◌∙◌, arith, drop-drop, length-drop}
use Rattle.std.specs.Prelude.{slice_get}
use Rattle.std.specs.Str.{chars, IsUtf8, IsCharBoundary}
use Rattle.std.proofs.lemmas.Bool.{cases_lt}
use Rattle.std.proofs.lemmas.List.{take-map, drop-map, length-map}
use Rattle.std.proofs.lemmas.Str.{IsUtf8-drop}
use Rattle.std.proofs.Math.Seq.{drop-cons}
use Rattle.std.proofs.lemmas.Option.{same_Some}
use Rattle.bx_ucd.specs.Data.{Data}
use Rattle.unicode_segmentation.specs.Grapheme.{graphemes}
use Rattle.unicode_segmentation.specs.Segments.{with_offsets}
use Rattle.bx_rows.specs.declared.cells.unit.Unit.{Unit}
use Rattle.bx_rows.specs.cells.Units.{face, only_char, unit_at, unit_text, units}
use Rattle.bx_rows.specs.cells.UnitFacts.{units_from}
use Rattle.bx_rows.proofs.cells_lemmas.Rest.{IsUnitAt, none-behind, unit-behind}
use Rattle.bx_rows.specs.declared.wrapping.Row.{Row}
use Rattle.bx_rows.specs.declared.start_search.RowStart.{RowStart}
use Rattle.bx_rows.specs.LaterRows.{behind, moved}
use Rattle.bx_rows.specs.RowStarts.{first_offset, row_starts, start_of}
use Rattle.bx_rows.specs.Wrapping.{columns_at, fit_count_from, is_break, is_one_blank, row_len, rows_from, up_to_break, up_to_last}
use Rattle.bx_rows.proofs.EachRow.{found-row}
use Rattle.bx_rows.proofs.RowUnits.{chars-behind, starts-of-none, starts-of-some}
use Rattle.bx_rows.proofs.RowsFit.{rest-of}
use Rattle.bx_rows.proofs.Wraps.{no_unit, rows_turn}

-- ---- units moved some bytes further on

abbrev pub shifted : ℕ → Unit → Unit
shifted d u = record { start = d + u.start; stop = d + u.stop; face = u.face }

units-shifted : (ucd : Data) (w d at : ℕ) (gs : List (List ℕ))
    → map (unit_at ucd w) (with_offsets (d + at) gs) ≡ map (shifted d) (map (unit_at ucd w) (with_offsets at gs))
unfolding with_offsets
units-shifted ucd w d at [] = refl
units-shifted ucd w d at (g ∷ gs) =
    let next : d + at + length g ≡ d + (at + length g) = omega arith in
    ap₂ (λ x xs. x ∷ xs) (ap (λ n. record { start = d + at; stop = n; face = face ucd w g }) next)
    (ap (λ n. map (unit_at ucd w) (with_offsets n gs)) next ∙ units-shifted ucd w d (at + length g) gs)

-- the units of the rest
left-units : (ucd : Data) (w d : ℕ) (body : List ℕ) → units_from ucd w body d ≡ map (shifted d) (units ucd w (drop d body))
left-units ucd w d body =
    let gs = graphemes true (drop d body) in
    let front : d ≡ d + 0 = omega arith in
    ap (λ n. map (unit_at ucd w) (with_offsets n gs)) front ∙ units-shifted ucd w d 0 gs

text-shifted : (body : List ℕ) (d : ℕ) (u : Unit) → unit_text body (shifted d u) ≡ unit_text (drop d body) u
text-shifted body d u =
    let count : d + u.stop - (d + u.start) ≡ u.stop - u.start = omega arith in
    ap (λ n. take n (drop (d + u.start) body)) count ∙ ap (take (u.stop - u.start)) (sym (drop-drop u.start d body))

break-shifted : (ucd : Data) (body : List ℕ) (d : ℕ) (u : Unit) → is_break ucd body (shifted d u) ≡ is_break ucd (drop d body) u
break-shifted ucd body d u = ap (λ text. is_one_blank ucd (only_char (chars text))) (text-shifted body d u)

-- ---- their rows

fit-shifted : (w d c : ℕ) (us : List Unit) → fit_count_from w c (map (shifted d) us) ≡ fit_count_from w c us
fit-shifted w d c [] = refl
fit-shifted w d c (u ∷ us) =
    let end = c + columns_at w c u.face in
    ap (λ n. elim (nat_lt c w && nat_le end w) [ true ↦ suc n | false ↦ 0 ]) (fit-shifted w d end us)

last-shifted : (p q : Unit → Bool) (d : ℕ) → ((u : Unit) → p (shifted d u) ≡ q u) → (us : List Unit)
    → up_to_last p (map (shifted d) us) ≡ up_to_last q us
last-shifted p q d same [] = refl
last-shifted p q d same (u ∷ us) =
    ap₂ (λ (n : ℕ) (b : Bool). elim n [ suc m ↦ suc (suc m) | zero ↦ elim b [ true ↦ 1 | false ↦ 0 ] ]) (last-shifted p q d same us) (same u)

len-shifted : (p q : Unit → Bool) (d w : ℕ) → ((u : Unit) → p (shifted d u) ≡ q u) → (us : List Unit)
    → row_len p w (map (shifted d) us) ≡ row_len q w us
len-shifted p q d w same us =
    let n = fit_count_from w 0 us in
    let last : up_to_last p (take n (map (shifted d) us)) ≡ up_to_last q (take n us) =
    ap (up_to_last p) (take-map (shifted d) n us) ∙ last-shifted p q d same (take n us) in
    ap (λ m. elim (m == length (map (shifted d) us)) [ true ↦ m | false ↦ up_to_break p m (map (shifted d) us) ]) (fit-shifted w d 0 us)
    ∙ ap₂ (λ (k : ℕ) (m : ℕ). elim (n == k) [ true ↦ n | false ↦ elim m [ zero ↦ n | suc j ↦ suc j ] ]) (length-map us (shifted d)) last

-- ---- where they begin

-- the units `us` of a body from number `i` on are the units `left`, moved `d` bytes further on
record AreLeft (body : List ℕ) (us left : List Unit) (d i : ℕ) : Type 0 where
  pub valid : IsUtf8 body
  pub boundary : IsCharBoundary body d
  pub units : drop i us ≡ map (shifted d) left

abbrev start_at : List ℕ → ℕ → ℕ → RowStart
start_at body d i = record { offset = d; units = i; chars = length (chars (take d body)) }

abbrev from_parts : ℕ → ℕ → ℕ → RowStart
from_parts offset units chars = record { offset = offset; units = units; chars = chars }

same-start : (i o p n m : ℕ) → o ≡ p → n ≡ m → from_parts o i n ≡ from_parts p i m
same-start i o p n m e f = ap₂ (λ x y. from_parts x i y) e f

start-behind : (body : List ℕ) (us left : List Unit) (d i j : ℕ) (u : Unit) (rest : List Unit) (x y : ℕ) → AreLeft body us left d i
    → u ∷ rest ≡ drop j left
    → start_of body us (record { start = i + j; stop = x }) ≡ behind (start_at body d i) (start_of (drop d body) left (record { start = j; stop = y }))
start-behind body us left d i j u rest x y l e =
    let here : drop (i + j) us ≡ map (shifted d) (u ∷ rest) =
    sym (drop-drop j i us) ∙ ap (drop j) l.units ∙ drop-map (shifted d) j left ∙ ap (map (shifted d)) (sym e) in
    let whole = first_offset (drop (i + j) us) in
    let own = first_offset (drop j left) in
    let offset : whole ≡ d + u.start = ap first_offset here in
    let first : u.start ≡ own = ap first_offset e in
    let before = length (chars (take d body)) in
    let count : d + u.start - d ≡ u.start = omega arith in
    let counted : length (chars (take (d + u.start) body)) ≡ before + length (chars (take u.start (drop d body))) =
    chars-behind body d (d + u.start) l.valid l.boundary (omega arith) ∙ ap (λ n. before + length (chars (take n (drop d body)))) count in
    same-start (i + j) whole (d + own) (length (chars (take whole body))) (before + length (chars (take own (drop d body))))
    (offset ∙ ap (λ n. d + n) first)
    (ap (λ n. length (chars (take n body))) offset ∙ counted ∙ ap (λ n. before + length (chars (take n (drop d body)))) first)

starts-behind : (p q : Unit → Bool) (w : ℕ) (body : List ℕ) (us left : List Unit) (d i : ℕ) → ((u : Unit) → p (shifted d u) ≡ q u)
    → AreLeft body us left d i → (j taken : ℕ) (vs : List Unit) → vs ≡ drop j left
    → map (start_of body us) (rows_from p w (i + j) taken (map (shifted d) vs))
    ≡ map (behind (start_at body d i)) (map (start_of (drop d body) left) (rows_from q w j taken vs))
starts-behind p q w body us left d i same l j taken [] e = refl
starts-behind p q w body us left d i same l j (suc taken) (v ∷ vs) e =
    let next : suc (i + j) ≡ i + suc j = omega arith in
    ap (λ n. map (start_of body us) (rows_from p w n taken (map (shifted d) vs))) next
    ∙ starts-behind p q w body us left d i same l (suc j) taken vs (rest-of j v vs left e)
starts-behind p q w body us left d i same l j zero (v ∷ vs) e =
    let n = row_len q w (v ∷ vs) in
    let m = row_len p w (map (shifted d) (v ∷ vs)) in
    let next : suc (i + j) ≡ i + suc j = omega arith in
    ap₂ (λ x xs. x ∷ xs) (start-behind body us left d i j v vs (i + j + m) (j + n) l e)
    (ap₂ (λ k t. map (start_of body us) (rows_from p w k (t - 1) (map (shifted d) vs))) next (len-shifted p q d w same (v ∷ vs))
    ∙ starts-behind p q w body us left d i same l (suc j) (n - 1) vs (rest-of j v vs left e))

-- ---- the rows from a row on

rows-later : (p : Unit → Bool) (w k i : ℕ) (us all : List Unit) → us ≡ drop i all → (r : Row) → slice_get (rows_from p w i 0 us) k ≡ Some r
    → (drop k (rows_from p w i 0 us) ≡ rows_from p w r.start 0 (drop r.start all)) × (r.start < length all)
rows-later p w k i [] all e r h = cc
rows-later p w zero i (u ∷ us) all e r h =
    let row : Row = record { start = i; stop = i + row_len p w (u ∷ us) } in
    let same : row ≡ r = same_Some row r h in
    let start : i ≡ r.start = ap (λ x. x.start) same in
    let some : length (u ∷ us) ≡ length all - i = ap length e ∙ length-drop i all in
    let one : length (u ∷ us) ≡ suc (length us) = refl in (
      ap (λ n. rows_from p w n 0 (u ∷ us)) start ∙ ap (rows_from p w r.start 0) (e ∙ ap (λ n. drop n all) start),
      omega (arith, some, one, start),
    )
rows-later p w (suc k) i (u ∷ us) all e r h =
    let m = max (row_len p w (u ∷ us)) 1 in
    let turn = rows_turn p w i (u ∷ us) (omega arith) in
    let later = rows-later p w k (i + m) (drop m (u ∷ us)) all (ap (drop m) e ∙ drop-drop m i all) r (sym (ap (λ x. slice_get x (suc k)) turn) ∙ h) in
    (ap (drop (suc k)) turn ∙ later.0, later.1)

-- a body of some bytes, at a row of it
of-some : (ucd : Data) (w : ℕ) (body : List ℕ) (k : ℕ) (r : Row) → IsUtf8 body → 0 < length body
    → slice_get (rows_from (is_break ucd body) w 0 0 (units ucd w body)) k ≡ Some r
    → let s = start_of body (units ucd w body) r in drop k (row_starts ucd w body) ≡ map (behind s) (row_starts ucd w (drop s.offset body))
of-some ucd w body k r valid some h =
    let us = units ucd w body in
    let p = is_break ucd body in
    let starts = starts-of-some ucd w body (map (start_of body us) (rows_from p w 0 0 us)) valid some refl in
    let later = rows-later p w k 0 us us refl r h in
    let u = get_or us r.start no_unit in
    let rest = drop (suc r.start) us in
    let d : drop r.start us ≡ u ∷ rest = drop-cons us r.start no_unit later.1 in
    let at : IsUnitAt ucd w body u rest = unit-behind ucd w body r.start u rest valid d in
    let offset : first_offset (drop r.start us) ≡ u.start = ap first_offset d in
    let left = drop u.start body in
    let own = units ucd w left in
    let here : drop r.start us ≡ map (shifted u.start) own = d ∙ sym at.units ∙ left-units ucd w u.start body in
    let more : 0 < length left = elim (cases_lt u.start (length body)) [
      | inl inside ↦ omega (arith, inside, length-drop u.start body)
      | inr past ↦ absurd (let none = none-behind ucd w body u.start past in let no : [] ≡ u ∷ rest = sym none ∙ at.units in cc no)
    ] in
    let lefts = starts-of-some ucd w left (map (start_of left own) (rows_from (is_break ucd left) w 0 0 own))
    (IsUtf8-drop body u.start valid at.boundary) more refl in
    let l : AreLeft body us own u.start r.start = record { valid = valid; boundary = at.boundary; units = here } in
    let front : r.start ≡ r.start + 0 = omega arith in
    let s = start_of body us r in
    let is : start_at body u.start r.start ≡ s = ap (λ o. start_at body o r.start) (sym offset) in
    ap (drop k) (sym starts) ∙ drop-map (start_of body us) k (rows_from p w 0 0 us) ∙ ap (map (start_of body us)) later.0
    ∙ ap (λ vs. map (start_of body us) (rows_from p w r.start 0 vs)) here
    ∙ ap (λ n. map (start_of body us) (rows_from p w n 0 (map (shifted u.start) own))) front
    ∙ starts-behind p (is_break ucd left) w body us own u.start r.start (break-shifted ucd body u.start) l 0 0 own refl
    ∙ ap (map (behind (start_at body u.start r.start))) lefts
    ∙ ap₂ (λ x o. map (behind x) (row_starts ucd w (drop o body))) is (sym offset)

abbrev origin : RowStart
origin = record { offset = 0; units = 0; chars = 0 }

-- a body of no bytes
of-none : (ucd : Data) (w : ℕ) (body : List ℕ) (k : ℕ) (s : RowStart) → length body ≡ 0 → slice_get (origin ∷ []) k ≡ Some s
    → drop k (row_starts ucd w body) ≡ map (behind s) (row_starts ucd w (drop s.offset body))
of-none ucd w body zero s none h =
    let starts = starts-of-none ucd w body none in
    let is : origin ≡ s = cc in
    subst (λ x. row_starts ucd w body ≡ map (behind x) (row_starts ucd w (drop x.offset body))) is
    (starts ∙ ap (map (behind origin)) (sym starts))
of-none ucd w body (suc k) s none h = cc

pub rows-are-of-rest : (ucd : Data) (w : ℕ) (body : List ℕ) (k : ℕ) (s : RowStart) → IsUtf8 body → slice_get (row_starts ucd w body) k ≡ Some s
    → drop k (row_starts ucd w body) ≡ map (behind s) (row_starts ucd w (drop s.offset body))
rows-are-of-rest ucd w body k s valid h =
    let us = units ucd w body in
    let rows = rows_from (is_break ucd body) w 0 0 us in
    elim (cases_lt 0 (length body)) [
      | inl some ↦ (
          let starts = starts-of-some ucd w body (map (start_of body us) rows) valid some refl in
          let found = found-row (start_of body us) rows k s (ap (λ x. slice_get x k) starts ∙ h) in
          subst (λ x. drop k (row_starts ucd w body) ≡ map (behind x) (row_starts ucd w (drop x.offset body))) found.2
          (of-some ucd w body k found.0 valid some found.1))
      | inr few ↦ (
          let none : length body ≡ 0 = omega (arith, few) in
          of-none ucd w body k s none (ap (λ x. slice_get x k) (sym (starts-of-none ucd w body none)) ∙ h))
    ]

-- ---- two bodies

moved-behind : (s r x : RowStart) → behind r x ≡ moved s r (behind s x)
moved-behind s r x =
    let a : x.offset ≡ s.offset + x.offset - s.offset = omega arith in
    let b : x.units ≡ s.units + x.units - s.units = omega arith in
    let c : x.chars ≡ s.chars + x.chars - s.chars = omega arith in
    ap (λ n. record { offset = r.offset + n; units = r.units + x.units; chars = r.chars + x.chars }) a
    ∙ ap (λ n. record { offset = r.offset + (s.offset + x.offset - s.offset); units = r.units + n; chars = r.chars + x.chars }) b
    ∙ ap (λ n. record {
      offset = r.offset + (s.offset + x.offset - s.offset);
      units = r.units + (s.units + x.units - s.units);
      chars = r.chars + n;
    }) c

all-moved : (s r : RowStart) (xs : List RowStart) → map (behind r) xs ≡ map (moved s r) (map (behind s) xs)
all-moved s r [] = refl
all-moved s r (x ∷ xs) = ap₂ (λ y ys. y ∷ ys) (moved-behind s r x) (all-moved s r xs)

pub rows-meet-again : (ucd : Data) (w : ℕ) (body other : List ℕ) (k j : ℕ) (s r : RowStart) → IsUtf8 body → IsUtf8 other
    → slice_get (row_starts ucd w body) k ≡ Some s → slice_get (row_starts ucd w other) j ≡ Some r → drop s.offset body ≡ drop r.offset other
    → drop j (row_starts ucd w other) ≡ map (moved s r) (drop k (row_starts ucd w body))
rows-meet-again ucd w body other k j s r valid also h g e =
    rows-are-of-rest ucd w other j r also g ∙ ap (λ rest. map (behind r) (row_starts ucd w rest)) (sym e)
    ∙ all-moved s r (row_starts ucd w (drop s.offset body))
    ∙ ap (map (moved s r)) (sym (rows-are-of-rest ucd w body k s valid h))
