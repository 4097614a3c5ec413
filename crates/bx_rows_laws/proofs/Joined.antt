-- The units of a body joined are the body, and the rows of units joined are the units.
use Rattle.std.proofs.Common.{◌≡◌, ℕ, zero, suc, ◌+◌, ◌-◌, ◌<◌, ◌≤◌, true, Bool, List, [], ◌∷◌, ◌++◌, length, take, drop, map, slice_range, All}
use Rattle.std.proofs.Common.{refl, sym, ap, ap₂, subst, ◌∙◌, arith, take-append-drop, drop-drop}
use Rattle.std.specs.Prelude.{flat_map}
use Rattle.std.specs.Str.{IsUtf8, IsCharBoundary}
use Rattle.std.proofs.lemmas.List.Elements.{All-tail}
use Rattle.std.proofs.lemmas.Str.{IsCharBoundary-start, IsUtf8-drop}
use Rattle.std.proofs.Math.Seq.{drop-nil}
use Rattle.bx_ucd.specs.Data.{Data}
use Rattle.unicode_segmentation.specs.Grapheme.{graphemes}
use Rattle.unicode_segmentation.specs.Segments.{with_offsets}
use Rattle.bx_rows.specs.declared.cells.unit.Unit.{Unit}
use Rattle.bx_rows.specs.cells.Units.{unit_at, unit_text, units}
use Rattle.bx_rows.proofs.cells_lemmas.Rest.{cluster-grows, next-cluster, no-cluster, past-all}
use Rattle.bx_rows.specs.declared.wrapping.Row.{Row}
use Rattle.bx_rows_laws.specs.Laws.{CutUnits, StandInTurn}
use Rattle.bx_rows.specs.Wrapping.{is_break, row_len, row_units, rows_from, rows_of, wrap}
use Rattle.bx_rows.specs.UnitPlaces.{FitsWindow}
use Rattle.bx_rows.proofs.EachRow.{row-some}
use Rattle.bx_rows.proofs.RowsFit.{fit-length, fit_if_wrapped, rest-of, row-within}

-- ---- units

text-here : (body : List ℕ) (at n : ℕ) → slice_range body at (at + n) ++ drop (at + n) body ≡ drop at body
text-here body at n =
    let count : at + n - at ≡ n = omega arith in
    ap₂ (λ x y. x ++ y) (ap (λ k. take k (drop at body)) count) (sym (drop-drop n at body)) ∙ take-append-drop n (drop at body)

units-joined : (ucd : Data) (w : ℕ) (body : List ℕ) → IsUtf8 body → (ps : List (List ℕ)) (at : ℕ) → IsCharBoundary body at
    → graphemes true (drop at body) ≡ ps → flat_map (unit_text body) (map (unit_at ucd w) (with_offsets at ps)) ≡ drop at body
unfolding with_offsets
units-joined ucd w body valid [] at b e = sym (no-cluster (drop at body) (IsUtf8-drop body at valid b) e)
units-joined ucd w body valid (p ∷ ps) at b e =
    let n = next-cluster ucd w body at p ps valid b e in
    ap (λ x. slice_range body at (at + length p) ++ x) (units-joined ucd w body valid ps (at + length p) n.boundary (sym n.own))
    ∙ text-here body at (length p)

pub units-make-body : (ucd : Data) (w : ℕ) (body : List ℕ) → IsUtf8 body → flat_map (unit_text body) (units ucd w body) ≡ body
units-make-body ucd w body valid = units-joined ucd w body valid (graphemes true body) 0 (IsCharBoundary-start body valid) refl

units-in-turn : (ucd : Data) (w : ℕ) (body : List ℕ) → IsUtf8 body → (ps : List (List ℕ)) (at : ℕ) → IsCharBoundary body at
    → graphemes true (drop at body) ≡ ps
    → StandInTurn at (map (λ u. (u.start, u.stop)) (map (unit_at ucd w) (with_offsets at ps))) (length body)
unfolding with_offsets
units-in-turn ucd w body valid [] at b e =
    let within : at ≤ length body = b.0 in omega (arith, within, past-all body at valid b e)
units-in-turn ucd w body valid (p ∷ ps) at b e =
    let n = next-cluster ucd w body at p ps valid b e in
    (refl, omega (arith, cluster-grows body at p ps e), units-in-turn ucd w body valid ps (at + length p) n.boundary (sym n.own))

pub units-stand-in-turn : (ucd : Data) (w : ℕ) (body : List ℕ) → IsUtf8 body
    → StandInTurn 0 (map (λ u. (u.start, u.stop)) (units ucd w body)) (length body)
units-stand-in-turn ucd w body valid = units-in-turn ucd w body valid (graphemes true body) 0 (IsCharBoundary-start body valid) refl

-- ---- rows

row-here : (us all : List Unit) (i n : ℕ) → us ≡ drop i all → row_units all (record { start = i; stop = i + n }) ≡ take n us
row-here us all i n e = let count : i + n - i ≡ n = omega arith in ap (λ k. take k (drop i all)) count ∙ ap (take n) (sym e)

-- the first `taken` units are in the row before
rows-joined : (p : Unit → Bool) (w i taken : ℕ) (us all : List Unit) → 1 ≤ w → All (λ u. FitsWindow w u.face) us → us ≡ drop i all
    → flat_map (row_units all) (rows_from p w i taken us) ≡ drop taken us
rows-joined p w i taken [] all h fit e = sym (drop-nil taken)
rows-joined p w i (suc taken) (u ∷ us) all h fit e =
    rows-joined p w (suc i) taken us all h (All-tail (λ u. FitsWindow w u.face) u us fit) (rest-of i u us all e)
rows-joined p w i zero (u ∷ us) all h fit e =
    let n = row_len p w (u ∷ us) in
    let some : 0 < n = row-some p w u us h (fit 0 u (omega arith)) in
    let less : suc (n - 1) ≡ n = omega (arith, some) in
    ap₂ (λ x y. x ++ y) (row-here (u ∷ us) all i n e)
    (rows-joined p w (suc i) (n - 1) us all h (All-tail (λ u. FitsWindow w u.face) u us fit) (rest-of i u us all e) ∙ ap (λ k. drop k (u ∷ us)) less)
    ∙ take-append-drop n (u ∷ us)

rows-in-turn : (p : Unit → Bool) (w i taken : ℕ) (us : List Unit) → 1 ≤ w → All (λ u. FitsWindow w u.face) us → taken ≤ length us
    → StandInTurn (i + taken) (map (λ r. (r.start, r.stop)) (rows_from p w i taken us)) (i + length us)
rows-in-turn p w i taken [] h fit k = let none : length {A = Unit} [] ≡ 0 = refl in omega (arith, k, none)
rows-in-turn p w i (suc taken) (u ∷ us) h fit k =
    let more : suc (length us) ≡ length (u ∷ us) = refl in
    let start : suc i + taken ≡ i + suc taken = omega arith in
    let stop : suc i + length us ≡ i + length (u ∷ us) = omega (arith, more) in
    subst (λ n. StandInTurn n (map (λ r. (r.start, r.stop)) (rows_from p w (suc i) taken us)) (i + length (u ∷ us))) start
    (subst (StandInTurn (suc i + taken) (map (λ r. (r.start, r.stop)) (rows_from p w (suc i) taken us))) stop
    (rows-in-turn p w (suc i) taken us h (All-tail (λ u. FitsWindow w u.face) u us fit) (omega (arith, k, more))))
rows-in-turn p w i zero (u ∷ us) h fit k =
    let n = row_len p w (u ∷ us) in
    let more : suc (length us) ≡ length (u ∷ us) = refl in
    let some : 0 < n = row-some p w u us h (fit 0 u (omega arith)) in
    let within : n ≤ length (u ∷ us) = omega (arith, row-within p w (u ∷ us), fit-length w 0 (u ∷ us)) in
    let rows : List (ℕ × ℕ) = map (λ r. (r.start, r.stop)) (rows_from p w (suc i) (n - 1) us) in
    let start : suc i + (n - 1) ≡ i + n = omega (arith, some) in
    let stop : suc i + length us ≡ i + length (u ∷ us) = omega (arith, more) in (
      omega arith,
      omega (arith, some),
      subst (λ m. StandInTurn m rows (i + length (u ∷ us))) start
          (subst (StandInTurn (suc i + (n - 1)) rows) stop
          (rows-in-turn p w (suc i) (n - 1) us h (All-tail (λ u. FitsWindow w u.face) u us fit) (omega (arith, within, more, some)))),
    )

joined-of : (p : Unit → Bool) (w : ℕ) (us : List Unit) → 1 ≤ w → All (λ u. FitsWindow w u.face) us → flat_map (row_units us) (rows_of p w us) ≡ us
joined-of p w [] h fit = refl
joined-of p w (u ∷ us) h fit = rows-joined p w 0 0 (u ∷ us) (u ∷ us) h fit refl

in-turn-of : (p : Unit → Bool) (w : ℕ) (us : List Unit) → 1 ≤ w → All (λ u. FitsWindow w u.face) us → 0 < length us
    → StandInTurn 0 (map (λ r. (r.start, r.stop)) (rows_of p w us)) (length us)
in-turn-of p w [] h fit some = absurd (omega (arith, some))
in-turn-of p w (u ∷ us) h fit some =
    let from : 0 + 0 ≡ 0 = omega arith in
    let to : 0 + length (u ∷ us) ≡ length (u ∷ us) = omega arith in
    subst (λ n. StandInTurn n (map (λ r. (r.start, r.stop)) (rows_of p w (u ∷ us))) (length (u ∷ us))) from
    (subst (StandInTurn (0 + 0) (map (λ r. (r.start, r.stop)) (rows_of p w (u ∷ us)))) to (rows-in-turn p w 0 0 (u ∷ us) h fit (omega arith)))

one-of : (p : Unit → Bool) (w : ℕ) (us : List Unit) → length us ≡ 0 → length (rows_of p w us) ≡ 1
one-of p w [] none = refl
one-of p w (u ∷ us) none = absurd (omega (arith, none))

pub rows-cut : (ucd : Data) (w : ℕ) (body : List ℕ) (us : List Unit) → 1 ≤ w → All (λ u. FitsWindow w u.face) us
    → CutUnits w us (wrap ucd w body us)
rows-cut ucd w body us h fit = record {
  joined = joined-of (is_break ucd body) w us h fit;
  in_turn = in-turn-of (is_break ucd body) w us h fit;
  fit = fit_if_wrapped ucd w body us (wrap ucd w body us) refl;
  one = one-of (is_break ucd body) w us;
}

pub cut_if_wrapped : (ucd : Data) (w : ℕ) (body : List ℕ) (us : List Unit) (rows : List Row) → 1 ≤ w → All (λ u. FitsWindow w u.face) us
    → rows ≡ wrap ucd w body us → CutUnits w us rows
cut_if_wrapped ucd w body us rows h fit e = subst (CutUnits w us) (sym e) (rows-cut ucd w body us h fit)
