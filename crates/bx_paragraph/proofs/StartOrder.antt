-- Row starts increase and lie in the body, so bisection finds the number of them at or before an offset.
use Rattle.std.proofs.Common.{◌≡◌, ℕ, zero, suc, ◌+◌, ◌-◌, ◌<◌, ◌≤◌, Bool, true, false, cond, List, [], ◌∷◌, length, map, take, drop, get_or, count_by}
use Rattle.std.proofs.Common.{All, refl, sym, ap, subst, ◌∙◌, arith, length-drop, take_all}
use Rattle.std.specs.List.Sorted.{IsNonDecreasingBy, IsPartitionPoint}
use Rattle.std.specs.Str.{chars, IsCharBoundary, IsUtf8}
use Rattle.std.proofs.lemmas.List.{get_or-drop, get_or-map, length-map, length-take-le}
use Rattle.std.proofs.lemmas.List.Sums.{count_by_more_no, count_by_more_yes, sum_by-cons}
use Rattle.std.proofs.lemmas.Option.{slice_get-get_or}
use Rattle.std.proofs.lemmas.Str.{IsUtf8-take}
use Rattle.bx_ucd.specs.Data.{Data}
use Rattle.bx_levels.proofs.resolve_lemmas.Small.{few_chars}
use Rattle.bx_rows.specs.cells.Units.{units}
use Rattle.bx_rows.proofs.cells_lemmas.Rest.{few-units}
use Rattle.bx_rows.specs.declared.wrapping.Row.{Row}
use Rattle.bx_rows.specs.declared.start_search.RowStart.{RowStart}
use Rattle.bx_rows.specs.LaterRows.{behind}
use Rattle.bx_rows.specs.RowStarts.{row_starts, start_of}
use Rattle.bx_rows.specs.Wrapping.{wrap}
use Rattle.bx_rows.proofs.EachRow.{row-part}
use Rattle.bx_rows.proofs.RowsFit.{fit_if_wrapped}
use Rattle.bx_rows.proofs.RowsLeft.{rows-are-of-rest}

-- ---- a count by bisection

module _ {X : Type 0} (p : X → Bool) (xs : List X) (i : ℕ) (d : X) (within : i ≤ length xs)
    (point : IsPartitionPoint (λ y. p y ≡ true) (λ y. p y ≡ false) xs i) where
  all-before : (k : ℕ) → k ≤ i → count_by p (take k xs) ≡ k
  all-before zero h = refl
  all-before (suc k) h =
      let next : suc k ≡ k + 1 = omega arith in
      let more = count_by_more_yes p xs k d (omega (arith, h, within)) (point.0 k d (omega arith) (omega (arith, h))) in
      omega (arith, ap (λ n. count_by p (take n xs)) next, more, all-before k (omega (arith, h)))

  none-behind : (k : ℕ) → i + k ≤ length xs → count_by p (take (i + k) xs) ≡ i
  none-behind zero h = let n : i + 0 ≡ i = omega arith in ap (λ n. count_by p (take n xs)) n ∙ all-before i (omega arith)
  none-behind (suc k) h =
      let next : i + suc k ≡ i + k + 1 = omega arith in
      let more = count_by_more_no p xs (i + k) d (omega (arith, h)) (point.1 (i + k) d (omega arith) (omega (arith, h))) in
      omega (arith, ap (λ n. count_by p (take n xs)) next, more, none-behind k (omega (arith, h)))

  -- the place between those that pass and those that do not counts those that pass
  pub count-passed : count_by p xs ≡ i
  count-passed =
      let n : i + (length xs - i) ≡ length xs = omega (arith, within) in
      ap (count_by p) (sym (take_all (length xs) xs (omega arith))) ∙ ap (λ k. count_by p (take k xs)) (sym n)
      ∙ none-behind (length xs - i) (omega (arith, n))

pub count-map : {X Y : Type 0} (p : Y → Bool) (f : X → Y) (xs : List X) → count_by p (map f xs) ≡ count_by (λ x. p (f x)) xs
count-map p f [] = refl
count-map p f (x ∷ xs) =
    omega (
      arith,
      sum_by-cons (λ y. cond (p y) 1 0) (f x) (map f xs),
      sum_by-cons (λ y. cond (p (f y)) 1 0) x xs,
      count-map p f xs,
    )

-- ---- row starts

-- each begins after the ones before
pub starts-rise : (ucd : Data) (w : ℕ) (body : List ℕ) → IsUtf8 body → IsNonDecreasingBy (λ (s : RowStart). s.offset) (row_starts ucd w body)
starts-rise ucd w body valid i j d le h =
    let xs = row_starts ucd w body in
    let s = get_or xs i d in
    let rest = row_starts ucd w (drop s.offset body) in
    let inside : i < length xs = omega (arith, le, h) in
    let tail : drop i xs ≡ map (behind s) rest = rows-are-of-rest ucd w body i s valid (slice_get-get_or xs i d inside) in
    let n : i + (j - i) ≡ j = omega (arith, le) in
    let size : length xs - i ≡ length rest = sym (length-drop i xs) ∙ ap length tail ∙ length-map rest (behind s) in
    let at : get_or xs j d ≡ behind s (get_or rest (j - i) d) =
    ap (λ k. get_or xs k d) (sym n) ∙ sym (get_or-drop i xs (j - i) d) ∙ ap (λ ys. get_or ys (j - i) d) tail
    ∙ get_or-map (behind s) rest (j - i) d d (omega (arith, size, h, le)) in
    omega (arith, ap (λ x. x.offset) at)

-- a row's start is a character boundary of the body, with no more units or characters before it than the body has bytes
pub record IsInBody (body : List ℕ) (s : RowStart) : Type 0 where
  pub boundary : IsCharBoundary body s.offset
  pub units_few : s.units ≤ length body
  pub chars_few : s.chars ≤ length body

pub starts-in-body : (ucd : Data) (w : ℕ) (body : List ℕ) → IsUtf8 body → All (IsInBody body) (row_starts ucd w body)
starts-in-body ucd w body valid k d h =
    let us = units ucd w body in
    let rows = wrap ucd w body us in
    let none : Row = record { start = 0; stop = 0 } in
    let starts = row_starts ucd w body in
    let s = get_or starts k d in
    let inside : k < length rows = omega (arith, h, length-map rows (start_of body us)) in
    let at : s ≡ start_of body us (get_or rows k none) = get_or-map (start_of body us) rows k none d inside in
    let b = (row-part ucd w body k s valid (slice_get-get_or starts k d h)).boundary in
    let fit = fit_if_wrapped ucd w body us rows refl k none inside in
    let counted : s.chars ≡ length (chars (take s.offset body)) = subst (λ x. x.chars ≡ length (chars (take x.offset body))) (sym at) refl in
    record {
      boundary = b;
      units_few = omega (arith, ap (λ x. x.units) at, fit.0, fit.1, few-units ucd w body valid);
      chars_few = omega (arith, counted, few_chars (take s.offset body) (IsUtf8-take body s.offset valid b), length-take-le s.offset body b.0, b.0);
    }
