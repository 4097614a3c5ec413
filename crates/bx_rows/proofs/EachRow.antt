-- The rows of a body in order: a row's units, from its start and the next one's.
use Rattle.std.proofs.Common.{◌≡◌, ℕ, zero, suc, ◌+◌, ◌-◌, max, ◌<◌, ◌≤◌, ◌==◌, nat_lt, Bool, true, false, Option, Some, None, List, [], ◌∷◌, length, get_or}
use Rattle.std.proofs.Common.{take, drop, map, refl, sym, ap, subst, ◌∙◌, arith, All, length-drop, take_all}
use Rattle.std.specs.Prelude.{option_map, slice_get, IfSome}
use Rattle.std.specs.Str.{chars, IsUtf8, IsCharBoundary}
use Rattle.std.proofs.lemmas.Bool.Decides.{nat_tests}
use Rattle.std.proofs.lemmas.List.Elements.{All-drop, All-weaker}
use Rattle.std.proofs.lemmas.Option.{get_or_from_slice_get, slice_get-get_or, slice_get-map, slice_get_within, same_Some}
use Rattle.std.proofs.lemmas.Str.{IsCharBoundary-start}
use Rattle.std.proofs.Math.Seq.{drop-cons, take-length}
use Rattle.bx_ucd.specs.Data.{Data}
use Rattle.bx_common.specs.Characters.{is_control}
use Rattle.bx_rows.specs.declared.cells.unit.Face.{Face}
use Rattle.bx_rows.specs.declared.cells.unit.Face.TheVariants.{Tab, Placeholder, Own}
use Rattle.bx_rows.specs.declared.cells.unit.Unit.{Unit}
use Rattle.bx_rows.specs.cells.Units.{face_of, format_letter, is_tab, only_char, sized_face, columns_of, units, unit_text}
use Rattle.bx_rows.specs.cells.UnitFacts.{units_from, HasFace}
use Rattle.bx_rows.proofs.cells_lemmas.Rest.{IsUnitAt, unit-behind, few-units}
use Rattle.bx_rows.proofs.cells_lemmas.Standing.{faces-units}
use Rattle.bx_rows.specs.declared.wrapping.Row.{Row}
use Rattle.bx_rows.specs.declared.start_search.RowStart.{RowStart}
use Rattle.bx_rows.specs.RowLevels.{chars_before}
use Rattle.bx_rows.specs.RowStarts.{first_offset, start_of, row_starts, units_in, units_of_row, most_units}
use Rattle.bx_rows.specs.RowPicture.{columns_used}
use Rattle.bx_rows.specs.Shown.{IsRowOf}
use Rattle.bx_rows.specs.Wrapping.{columns_at, fit_count, is_break, row_len, row_units, rows_from, rows_of, up_to_last, wrap}
use Rattle.bx_rows.specs.UnitPlaces.{FitsWindow}
use Rattle.bx_rows.proofs.RowsFit.{fit-length, fit_if_wrapped, row-within}
use Rattle.bx_rows.proofs.Wraps.{fit_cons, fits_full, no_unit, rows_turn}

-- ---- faces fit in the window

sized-fits : (w n : ℕ) (a b : Bool) → (n == 0) ≡ a → nat_lt w n ≡ b
    → FitsWindow w (elim a [ true ↦ Placeholder 126 | false ↦ elim b [ true ↦ Placeholder 35 | false ↦ Own n ] ])
sized-fits w n true b e f = tt
sized-fits w n false true e f = tt
sized-fits w n false false e f = (grind (arith, nat_tests), grind (arith, nat_tests))

face-fits : (w : ℕ) (f : Face) (tab control : Bool) (letter : Option ℕ) → FitsWindow w f
    → FitsWindow w (elim tab [ true ↦ Tab | false ↦ elim control [ true ↦ Placeholder 63 | false ↦ elim letter [ Some l ↦ Placeholder l | None ↦ f ] ] ])
face-fits w f true control letter h = tt
face-fits w f false true letter h = tt
face-fits w f false false (Some l) h = tt
face-fits w f false false None h = h

any-face-fits : (ucd : Data) (w : ℕ) (cs : List ℕ) → FitsWindow w (face_of ucd w cs)
any-face-fits ucd w cs =
    let n = columns_of cs in
    face-fits w (sized_face w n) (is_tab (only_char cs)) (Rattle.std.specs.List.list_any is_control cs) (format_letter ucd (only_char cs))
    (sized-fits w n (n == 0) (nat_lt w n) refl refl)

-- units that show the faces of their texts
pub faces-fit : (ucd : Data) (w : ℕ) (body : List ℕ) (us : List Unit) → All (HasFace ucd w body) us → All (λ u. FitsWindow w u.face) us
faces-fit ucd w body us h =
    All-weaker (HasFace ucd w body) (λ u. FitsWindow w u.face)
    (λ u e. subst (FitsWindow w) (sym e) (any-face-fits ucd w (chars (unit_text body u)))) us h

pub units-fit : (ucd : Data) (w : ℕ) (body : List ℕ) → IsUtf8 body → All (λ u. FitsWindow w u.face) (units ucd w body)
units-fit ucd w body valid = faces-fit ucd w body (units ucd w body) (faces-units ucd w body valid)

-- ---- a row has a unit

first-fits : (w : ℕ) (f : Face) → 0 < w → FitsWindow w f → 0 + columns_at w 0 f ≤ w
first-fits w Tab h k = omega (arith, h)
first-fits w (Placeholder letter) h k = omega (arith, h)
first-fits w (Own n) h k = let most = k.1 in omega (arith, most)

some-len : (b : Bool) (n m : ℕ) → 0 < n → 0 < elim b [ true ↦ n | false ↦ elim m [ zero ↦ n | suc k ↦ suc k ] ]
some-len true n m h = h
some-len false n zero h = h
some-len false n (suc k) h = omega arith

pub row-some : (p : Unit → Bool) (w : ℕ) (u : Unit) (us : List Unit) → 0 < w → FitsWindow w u.face → 0 < row_len p w (u ∷ us)
row-some p w u us h k =
    let n = fit_count w (u ∷ us) in
    let one = fit_cons w 0 u us h (first-fits w u.face h k) in
    some-len (n == length (u ∷ us)) n (up_to_last p (take n (u ∷ us))) (omega (arith, one))

row-none : (p : Unit → Bool) (w : ℕ) (us : List Unit) → w ≡ 0 → row_len p w us ≡ 0
row-none p w us h = omega (arith, row-within p w us, fits_full us w 0 0 (omega (arith, h)))

-- ---- a row and the next one

abbrev next_from : ℕ → Option Row → ℕ
next_from n None = n
next_from n (Some r) = r.start

-- a row of units from number 0 to `total`, with the next one: that begins where the row ends, or after its first unit where
-- it has none; after the last row no unit is left
record IsFollowed (w total : ℕ) (r : Row) (after : Option Row) : Type 0 where
  pub begins : r.start < total
  pub order : r.start ≤ r.stop
  pub within : r.stop ≤ total
  pub next : next_from total after ≡ r.start + max (r.stop - r.start) 1
  pub some : 0 < w → r.start < r.stop
  pub none : w ≡ 0 → r.stop ≡ r.start

first-row : (p : Unit → Bool) (w i : ℕ) (us : List Unit) → next_from (i + length us) (slice_get (rows_from p w i 0 us) 0) ≡ i
first-row p w i [] = omega arith
first-row p w i (u ∷ us) = refl

row-and-next : (p : Unit → Bool) (w : ℕ) (k i : ℕ) (us : List Unit) → All (λ u. FitsWindow w u.face) us → (r : Row)
    → slice_get (rows_from p w i 0 us) k ≡ Some r → IsFollowed w (i + length us) r (slice_get (rows_from p w i 0 us) (suc k))
row-and-next p w k i [] fit r e = cc
row-and-next p w zero i (u ∷ us) fit r e =
    let n = row_len p w (u ∷ us) in
    let row : Row = record { start = i; stop = i + n } in
    let left = drop (max n 1) (u ∷ us) in
    let turn = rows_turn p w i (u ∷ us) (omega arith) in
    let same : row ≡ r = same_Some row r (sym (ap (λ x. slice_get x 0) turn) ∙ e) in
    let one : length (u ∷ us) ≡ suc (length us) = refl in
    let within : n ≤ length (u ∷ us) = omega (arith, row-within p w (u ∷ us), fit-length w 0 (u ∷ us)) in
    let total : i + max n 1 + length left ≡ i + length (u ∷ us) = omega (arith, length-drop (max n 1) (u ∷ us), within, one) in
    let next : slice_get (rows_from p w i 0 (u ∷ us)) 1 ≡ slice_get (rows_from p w (i + max n 1) 0 left) 0 = ap (λ x. slice_get x 1) turn in
    let more : i + max n 1 ≡ i + max (i + n - i) 1 = omega arith in
    subst (λ x. IsFollowed w (i + length (u ∷ us)) x (slice_get (rows_from p w i 0 (u ∷ us)) 1)) same
    (record {
      begins = omega (arith, one);
      order = omega arith;
      within = omega (arith, within);
      next = ap (next_from (i + length (u ∷ us))) next ∙ ap (λ m. next_from m (slice_get (rows_from p w (i + max n 1) 0 left) 0)) (sym total)
          ∙ first-row p w (i + max n 1) left ∙ more;
      some = λ h. let some = row-some p w u us h (fit 0 no_unit (omega (arith, one))) in omega (arith, some);
      none = λ h. let none = row-none p w (u ∷ us) h in omega (arith, none);
    })
row-and-next p w (suc k) i (u ∷ us) fit r e =
    let n = row_len p w (u ∷ us) in
    let left = drop (max n 1) (u ∷ us) in
    let turn = rows_turn p w i (u ∷ us) (omega arith) in
    let one : length (u ∷ us) ≡ suc (length us) = refl in
    let within : n ≤ length (u ∷ us) = omega (arith, row-within p w (u ∷ us), fit-length w 0 (u ∷ us)) in
    let total : i + max n 1 + length left ≡ i + length (u ∷ us) = omega (arith, length-drop (max n 1) (u ∷ us), within, one) in
    subst (λ m. IsFollowed w m r (slice_get (rows_from p w i 0 (u ∷ us)) (suc (suc k)))) total
    (subst (IsFollowed w (i + max n 1 + length left) r) (sym (ap (λ x. slice_get x (suc (suc k))) turn))
    (row-and-next p w k (i + max n 1) left (All-drop (λ u. FitsWindow w u.face) (max n 1) (u ∷ us) fit) r (sym (ap (λ x. slice_get x (suc k)) turn) ∙ e)))

-- ---- the units of a row, from its start and the next one's

pub found-row : (f : Row → RowStart) (rows : List Row) (k : ℕ) (s : RowStart) → slice_get (map f rows) k ≡ Some s
    → (r : Row) × (slice_get rows k ≡ Some r) × (f r ≡ s)
found-row f [] k s e = cc
found-row f (r ∷ rs) zero s e = (r, refl, cc)
found-row f (r ∷ rs) (suc k) s e = found-row f rs k s e

take_none : (n : ℕ) → take {A = Unit} n [] ≡ []
take_none zero = refl
take_none (suc n) = refl

-- a row's units, from its start and the next one's
pub record IsRowPart (ucd : Data) (w : ℕ) (body : List ℕ) (us here : List Unit) (start : RowStart) (next : Option RowStart) : Type 0 where
  pub boundary : IsCharBoundary body start.offset
  pub order : IfSome next (λ n. start.units ≤ n.units)
  pub units : take (most_units w body start next) (units_from ucd w body start.offset) ≡ here
  pub chars : 0 < length here → start.chars ≡ chars_before body here

module _ (ucd : Data) (body : List ℕ) (us : List Unit) where
  order-next : (w : ℕ) (r : Row) (o : Option Row) → IsFollowed w (length us) r o
      → IfSome (option_map (start_of body us) o) (λ n. (start_of body us r).units ≤ n.units)
  order-next w r None f = tt
  order-next w r (Some q) f = let next = f.next in omega (arith, next)

  count-next : (w : ℕ) (r : Row) (o : Option Row) → length us ≤ length body → IsFollowed w (length us) r o
      → take (most_units w body (start_of body us r) (option_map (start_of body us) o)) (drop r.start us) ≡ row_units us r
  count-next zero r o few f =
      let none = f.none refl in
      let n : r.stop - r.start ≡ 0 = omega (arith, none) in
      ap (λ m. take m (drop r.start us)) (sym n)
  count-next (suc w) r (Some q) few f =
      let next = f.next in
      let some = f.some (omega arith) in
      let n : q.start - r.start ≡ r.stop - r.start = omega (arith, next, some) in
      ap (λ m. take m (drop r.start us)) n
  count-next (suc w) r None few f =
      let next = f.next in
      let some = f.some (omega arith) in
      let size = length-drop r.start us in
      take_all (length body) (drop r.start us) (omega (arith, size, few))
      ∙ sym (take_all (r.stop - r.start) (drop r.start us) (omega (arith, size, next, some)))

  chars-first : (u : Unit) (rest : List Unit) (n : ℕ) → 0 < length (take n (u ∷ rest))
      → chars_before body (take n (u ∷ rest)) ≡ length (chars (take u.start body))
  chars-first u rest zero h = absurd (omega (arith, h))
  chars-first u rest (suc n) h = refl

  part-of : (w : ℕ) (r : Row) (o : Option Row) (u : Unit) (rest : List Unit) → length us ≤ length body → IsFollowed w (length us) r o
      → drop r.start us ≡ u ∷ rest → IsUnitAt ucd w body u rest
      → IsRowPart ucd w body us (row_units us r) (start_of body us r) (option_map (start_of body us) o)
  part-of w r o u rest few f d at =
      let offset : (start_of body us r).offset ≡ u.start = ap first_offset d in
      let from = ap (units_from ucd w body) offset ∙ at.units ∙ sym d in
      let here : row_units us r ≡ take (r.stop - r.start) (u ∷ rest) = ap (take (r.stop - r.start)) d in
      record {
        boundary = subst (IsCharBoundary body) (sym offset) at.boundary;
        order = order-next w r o f;
        units = ap (take (most_units w body (start_of body us r) (option_map (start_of body us) o))) from ∙ count-next w r o few f;
        chars = λ h. ap (λ x. length (chars (take x body))) offset ∙ sym (chars-first u rest (r.stop - r.start) (subst (λ x. 0 < length x) here h))
            ∙ ap (chars_before body) (sym here);
      }

  part-none : (w k : ℕ) (s : RowStart) → us ≡ [] → units_from ucd w body 0 ≡ [] → IsCharBoundary body 0
      → slice_get (start_of body us (record { start = 0; stop = 0 }) ∷ []) k ≡ Some s
      → IsRowPart ucd w body us (units_in us (slice_get (record { start = 0; stop = 0 } ∷ []) k)) s
      (slice_get (start_of body us (record { start = 0; stop = 0 }) ∷ []) (suc k))
  part-none w zero s e none first h =
      let row : Row = record { start = 0; stop = 0 } in
      let same : start_of body us row ≡ s = cc in
      let offset : (start_of body us row).offset ≡ 0 = ap first_offset e in
      let m = most_units w body (start_of body us row) None in
      subst (λ x. IsRowPart ucd w body us [] x None) same
      (record {
        boundary = subst (IsCharBoundary body) (sym offset) first;
        order = tt;
        units = ap (take m) (ap (units_from ucd w body) offset ∙ none) ∙ take_none m;
        chars = λ some. absurd (omega (arith, some));
      })
  part-none w (suc k) s e none first h = cc

  -- a list of units; each begins the units from its offset on
  part-by : (p : Unit → Bool) (w k : ℕ) (s : RowStart) → (vs : List Unit) → vs ≡ us → length us ≤ length body → All (λ u. FitsWindow w u.face) us
      → ((j : ℕ) (u : Unit) (rest : List Unit) → drop j us ≡ u ∷ rest → IsUnitAt ucd w body u rest)
      → (us ≡ [] → units_from ucd w body 0 ≡ []) → IsCharBoundary body 0
      → slice_get (map (start_of body us) (rows_of p w vs)) k ≡ Some s
      → IsRowPart ucd w body us (units_in us (slice_get (rows_of p w vs) k)) s (slice_get (map (start_of body us) (rows_of p w vs)) (suc k))
  part-by p w k s [] e few fit at none first h = part-none w k s (sym e) (none (sym e)) first h
  part-by p w k s (v ∷ vs) e few fit at none first h =
      let f = start_of body us in
      let rows = rows_from p w 0 0 (v ∷ vs) in
      let found = found-row f rows k s h in
      let r = found.0 in
      let total : 0 + length (v ∷ vs) ≡ length us = omega (arith, ap length e) in
      let next = subst (λ n. IsFollowed w n r (slice_get rows (suc k))) total
      (row-and-next p w k 0 (v ∷ vs) (subst (All (λ u. FitsWindow w u.face)) (sym e) fit) r found.1) in
      let d = drop-cons us r.start no_unit next.begins in
      let u = get_or us r.start no_unit in
      let rest = drop (suc r.start) us in
      subst (λ o. IsRowPart ucd w body us (units_in us o) s (slice_get (map f rows) (suc k))) (sym found.1)
      (subst (λ o. IsRowPart ucd w body us (row_units us r) s o) (sym (slice_get-map f rows (suc k)))
      (subst (λ x. IsRowPart ucd w body us (row_units us r) x (option_map f (slice_get rows (suc k)))) found.2
      (part-of w r (slice_get rows (suc k)) u rest few next d (at r.start u rest d))))

-- of the units of a body
pub row-part : (ucd : Data) (w : ℕ) (body : List ℕ) (k : ℕ) (s : RowStart) → IsUtf8 body → slice_get (row_starts ucd w body) k ≡ Some s
    → IsRowPart ucd w body (units ucd w body) (units_of_row ucd w body k) s (slice_get (row_starts ucd w body) (suc k))
row-part ucd w body k s valid h =
    part-by ucd body (units ucd w body) (is_break ucd body) w k s (units ucd w body) refl (few-units ucd w body valid)
    (units-fit ucd w body valid) (λ j u rest d. unit-behind ucd w body j u rest valid d) (λ e. e) (IsCharBoundary-start body valid) h

-- of the starts that a caller has
pub part-at : (ucd : Data) (w : ℕ) (body : List ℕ) (starts : List RowStart) (k : ℕ) (d : RowStart) (after : Option RowStart) → IsUtf8 body
    → starts ≡ row_starts ucd w body → k < length starts → after ≡ slice_get starts (k + 1)
    → IsRowPart ucd w body (units ucd w body) (units_of_row ucd w body k) (get_or starts k d) after
part-at ucd w body starts k d after valid e within n =
    let one : suc k ≡ k + 1 = omega arith in
    let start = ap (λ x. slice_get x k) (sym e) ∙ slice_get-get_or starts k d within in
    subst (IsRowPart ucd w body (units ucd w body) (units_of_row ucd w body k) (get_or starts k d))
    (ap (slice_get (row_starts ucd w body)) one ∙ ap (λ x. slice_get x (k + 1)) (sym e) ∙ sym n) (row-part ucd w body k (get_or starts k d) valid start)

-- the units that are read from there on, and the characters before them
pub units-are : (ucd : Data) (w : ℕ) (body : List ℕ) (us here vs : List Unit) (start : RowStart) (after : Option RowStart) (count : ℕ)
    → IsRowPart ucd w body us here start after → count ≡ most_units w body start after → vs ≡ take count (units_from ucd w body start.offset)
    → vs ≡ here
units-are ucd w body us here vs start after count part n e = e ∙ ap (λ m. take m (units_from ucd w body start.offset)) n ∙ part.units

pub chars-are : (ucd : Data) (w : ℕ) (body : List ℕ) (us here vs : List Unit) (starts : List RowStart) (k : ℕ) (d s : RowStart)
    (after : Option RowStart) → IsRowPart ucd w body us here (get_or starts k d) after → vs ≡ here → slice_get starts k ≡ Some s → 0 < length vs
    → s.chars ≡ chars_before body vs
chars-are ucd w body us here vs starts k d s after part e start some =
    sym (ap (λ x. x.chars) (get_or_from_slice_get starts k s d start)) ∙ part.chars (subst (λ x. 0 < length x) e some) ∙ ap (chars_before body) (sym e)

-- ---- the columns of a row's units, taken by themselves

pub whole : (us : List Unit) → row_units us (record { start = 0; stop = length us }) ≡ us
whole us = let n : length us - 0 ≡ length us = omega arith in ap (λ m. take m us) n ∙ take-length us

columns-in : (w : ℕ) (us : List Unit) (rows : List Row) (k : ℕ) (o : Option Row) → All (IsRowOf w us) rows → slice_get rows k ≡ o
    → columns_used w (units_in us o) ≤ w
columns-in w us rows k None fit e = let none : columns_used w [] ≡ 0 = refl in omega (arith, none)
columns-in w us rows k (Some r) fit e =
    let r' = get_or_from_slice_get rows k r r e in
    (subst (IsRowOf w us) r' (fit k r (slice_get_within rows k r e))).2

pub row-alone : (ucd : Data) (w : ℕ) (body : List ℕ) (k : ℕ) (vs : List Unit) → vs ≡ units_of_row ucd w body k
    → IsRowOf w vs (record { start = 0; stop = length vs })
row-alone ucd w body k vs e =
    let us = units ucd w body in
    let rows = wrap ucd w body us in
    let fits = columns-in w us rows k (slice_get rows k) (fit_if_wrapped ucd w body us rows refl) refl in
    (omega arith, omega arith, subst (λ x. columns_used w x ≤ w) (sym (whole vs ∙ e)) fits)
