-- Rows read unit by unit: the starts so far, the current row, and the units left.
use Rattle.std.proofs.Common.{◌≡◌, ℕ, zero, suc, ◌+◌, ◌<◌, ◌≤◌, ◌⊎◌, ◌&&◌, Bool, nat_lt, nat_le, true, false, true≢false, leb-true, ltb-true, inl, inr, ⊎_elim, List, []}
use Rattle.std.proofs.Common.{◌∷◌, ◌++◌, map, length, take, drop, refl, sym, ap, subst, ◌∙◌, arith, append_assoc, append-nil}
use Rattle.std.specs.Str.{chars, IsUtf8}
use Rattle.std.proofs.lemmas.Bool.{and_parts, and_from, cases_lt, lt-ltb, le-leb}
use Rattle.std.proofs.lemmas.List.{drop-drop}
use Rattle.std.proofs.lemmas.Str.{chars-nil, IsCharBoundary-start}
use Rattle.bx_ucd.specs.Data.{Data}
use Rattle.unicode_segmentation.specs.Segments.{with_offsets}
use Rattle.bx_rows.specs.declared.cells.unit.Unit.{Unit}
use Rattle.bx_rows.specs.cells.Units.{unit_at, units}
use Rattle.bx_rows.specs.cells.UnitFacts.{units_from}
use Rattle.bx_rows.specs.declared.start_search.RowStart.{RowStart}
use Rattle.bx_rows.specs.declared.row_scan.Extent.{Extent}
use Rattle.bx_rows.specs.declared.row_scan.Scan.{Scan}
use Rattle.bx_rows.specs.RowStarts.{first_offset, start_of}
use Rattle.bx_rows.specs.Wrapping.{columns_at, fit_count_from, is_break, rows_from}
use Rattle.bx_rows.specs.RowScan.{HasExtent, IsInOrder, IsRead, IsScan, Takes, new_scan}
use Rattle.bx_rows.proofs.Scans.{Fits, none_fits, scan-new, scan-more, scan-break, drop-break, drop-read, scan-length, row-at-break}
use Rattle.bx_rows.proofs.Scans.{scan-at-break, row-full, row-none, row-last, row-empty}

first_from : (ucd : Data) (w : ℕ) (at : ℕ) (gs : List (List ℕ)) → 0 < length (map (unit_at ucd w) (with_offsets at gs))
    → first_offset (map (unit_at ucd w) (with_offsets at gs)) ≡ at
unfolding with_offsets
first_from ucd w at [] h = absurd (omega (arith, h))
first_from ucd w at (g ∷ gs) h = refl

-- a count that is not 0
pub some-if : (n : ℕ) → (n ≡ 0 → ⊥) → 0 < n
some-if zero h = absurd (h refl)
some-if (suc n) h = omega arith

pub read-new : (ucd : Data) (w : ℕ) (body : List ℕ)
    → IsRead ucd w body [] (new_scan (record { offset = 0; units = 0; chars = 0 })) (units_from ucd w body 0)
read-new ucd w body = record {
  scan = scan-new (is_break ucd body) w (units_from ucd w body 0);
  number = refl;
  chars = sym (ap length chars-nil);
  done = refl;
}

pub in_turn-new : (w : ℕ) (body : List ℕ) → IsUtf8 body → IsInOrder w body (new_scan (record { offset = 0; units = 0; chars = 0 })) 0
in_turn-new w body u = record {
  start = IsCharBoundary-start body u;
  next = IsCharBoundary-start body u;
  order = omega arith;
  behind = omega arith;
  bound = omega arith;
  within = omega arith;
  less = omega arith;
  chars = sym (ap length chars-nil);
}

module _ (ucd : Data) (w : ℕ) (body : List ℕ) (starts : List RowStart) (s : Scan) where
  abbrev all_units : List Unit
  all_units = units ucd w body

  abbrev passes : Unit → Bool
  passes = is_break ucd body

  abbrev here : List Unit
  here = units_from ucd w body s.start.offset

  abbrev behind : List Unit
  behind = units_from ucd w body s.next

  pub read-more : (u : Unit) (rest : List Unit) → IsRead ucd w body starts s (u ∷ rest) → Fits w s.columns u → is_break ucd body u ≡ false
      → IsRead ucd w body starts (record {
        start = s.start;
        next = s.next;
        columns = s.columns + columns_at w s.columns u.face;
        last = s.last;
        count = s.count + 1;
        since = s.since + columns_at w s.since u.face;
      }) rest
  read-more u rest r f no_break = record {
    scan = scan-more passes w here behind u rest s.columns s.last s.count s.since r.scan f no_break;
    number = r.number;
    chars = r.chars;
    done = r.done;
  }

  pub read-break : (u : Unit) (rest : List Unit) (stop : ℕ) → units_from ucd w body stop ≡ rest → IsRead ucd w body starts s (u ∷ rest) → Fits w s.columns u
      → is_break ucd body u ≡ true
      → IsRead ucd w body starts (record {
        start = s.start;
        next = stop;
        columns = s.columns + columns_at w s.columns u.face;
        last = s.last + s.count + 1;
        count = 0;
        since = 0;
      }) rest
  read-break u rest stop e r f may_end = record {
    scan = subst (λ x. IsScan passes w here x rest (s.columns + columns_at w s.columns u.face) (s.last + s.count + 1) 0 0) (sym e)
        (scan-break passes w here behind u rest s.columns s.last s.count s.since r.scan f may_end);
    number = r.number;
    chars = r.chars;
    done = r.done;
  }

  -- the start of a row is the one kept for it
  start-is : (rest : List Unit) (stop : ℕ) → IsRead ucd w body starts s rest → 0 < length here
      → start_of body all_units (record { start = s.start.units; stop = stop }) ≡ s.start
  start-is rest stop r some =
      let at : first_offset (drop s.start.units all_units) ≡ s.start.offset = ap first_offset r.number ∙ first_from ucd w s.start.offset _ some in
      ap (λ o. record { offset = o; units = s.start.units; chars = length (chars (take o body)) }) at
      ∙ ap (λ n. record { offset = s.start.offset; units = s.start.units; chars = n }) (sym r.chars)

  -- one more row is done
  row-done : (rest : List Unit) (stop i : ℕ) (left : List Unit) (new : List RowStart) → IsRead ucd w body starts s rest → 0 < length here
      → rows_from passes w s.start.units 0 here ≡ record { start = s.start.units; stop = stop } ∷ rows_from passes w i 0 left → new ≡ starts ++ s.start ∷ []
      → new ++ map (start_of body all_units) (rows_from passes w i 0 left) ≡ map (start_of body all_units) (rows_from passes w 0 0 all_units)
  row-done rest stop i left new r some row pushed =
      let later = map (start_of body all_units) (rows_from passes w i 0 left) in
      ap (λ x. x ++ later) pushed ∙ append_assoc starts (s.start ∷ []) later
      ∙ ap (λ x. starts ++ x ∷ later) (sym (start-is rest stop r some))
      ∙ ap (λ x. starts ++ map (start_of body all_units) x) (sym row) ∙ r.done

  some-left : (u : Unit) (rest : List Unit) → IsRead ucd w body starts s (u ∷ rest) → 0 < length here
  some-left u rest r = let size = scan-length passes w here behind (u ∷ rest) s.columns s.last s.count s.since r.scan in omega (arith, size)

  further : (n : ℕ) (rest left : List Unit) → IsRead ucd w body starts s rest → drop n here ≡ left → drop (s.start.units + n) all_units ≡ left
  further n rest left r e = sym (drop-drop n s.start.units all_units) ∙ ap (drop n) r.number ∙ e

  pub read-at-break : (u : Unit) (rest : List Unit) (n : ℕ) (new : List RowStart) → IsRead ucd w body starts s (u ∷ rest)
      → fit_count_from w s.columns (u ∷ rest) ≡ 0 → 0 < s.last → n ≡ length (chars (take s.next body)) → new ≡ starts ++ s.start ∷ []
      → IsRead ucd w body new (record {
        start = record { offset = s.next; units = s.start.units + s.last; chars = n };
        next = s.next;
        columns = s.since;
        last = 0;
        count = s.count;
        since = s.since;
      }) (u ∷ rest)
  read-at-break u rest n new r full some counted pushed = record {
    scan = scan-at-break passes w here behind u rest s.columns s.last s.count s.since r.scan;
    number = further s.last (u ∷ rest) behind r (drop-break passes w here behind (u ∷ rest) s.columns s.last s.count s.since r.scan);
    chars = counted;
    done = row-done (u ∷ rest) (s.start.units + s.last) (s.start.units + s.last) behind new r (some-left u rest r)
        (row-at-break passes w here behind u rest s.columns s.last s.count s.since r.scan full s.start.units some) pushed;
  }

  pub read-full : (u : Unit) (rest : List Unit) (at n : ℕ) (new : List RowStart) → units_from ucd w body at ≡ u ∷ rest
      → IsRead ucd w body starts s (u ∷ rest) → fit_count_from w s.columns (u ∷ rest) ≡ 0 → s.last ≡ 0 → 0 < s.count → n ≡ length (chars (take at body))
      → new ≡ starts ++ s.start ∷ [] → IsRead ucd w body new (new_scan (record { offset = at; units = s.start.units + s.count; chars = n })) (u ∷ rest)
  read-full u rest at n new e r full none some counted pushed =
      let read = drop-read passes w here behind (u ∷ rest) s.columns s.last s.count s.since r.scan in
      let sum : s.last + s.count ≡ s.count = omega (arith, none) in
      record {
        scan = subst (λ x. IsScan passes w x x (u ∷ rest) 0 0 0 0) (sym e) (scan-new passes w (u ∷ rest));
        number = further s.count (u ∷ rest) (u ∷ rest) r (ap (λ m. drop m here) (sym sum) ∙ read) ∙ sym e;
        chars = counted;
        done = row-done (u ∷ rest) (s.start.units + s.count) (s.start.units + s.count) (units_from ucd w body at) new r (some-left u rest r)
            (row-full passes w here behind u rest s.columns s.last s.count s.since r.scan full s.start.units none some
            ∙ ap (λ x. record { start = s.start.units; stop = s.start.units + s.count } ∷ rows_from passes w (s.start.units + s.count) 0 x) (sym e)) pushed;
      }

  pub read-none : (u : Unit) (rest : List Unit) (stop n : ℕ) (new : List RowStart) → units_from ucd w body stop ≡ rest
      → IsRead ucd w body starts s (u ∷ rest) → fit_count_from w s.columns (u ∷ rest) ≡ 0 → s.last ≡ 0 → s.count ≡ 0 → n ≡ length (chars (take stop body))
      → new ≡ starts ++ s.start ∷ [] → IsRead ucd w body new (new_scan (record { offset = stop; units = s.start.units + 1; chars = n })) rest
  read-none u rest stop n new e r full none empty counted pushed =
      let read = drop-read passes w here behind (u ∷ rest) s.columns s.last s.count s.since r.scan in
      let sum : s.last + s.count ≡ 0 = omega (arith, none, empty) in
      let whole : here ≡ u ∷ rest = ap (λ m. drop m here) (sym sum) ∙ read in
      record {
        scan = subst (λ x. IsScan passes w x x rest 0 0 0 0) (sym e) (scan-new passes w rest);
        number = further 1 (u ∷ rest) rest r (ap (drop 1) whole) ∙ sym e;
        chars = counted;
        done = row-done (u ∷ rest) (s.start.units + 0) (s.start.units + 1) (units_from ucd w body stop) new r (some-left u rest r)
            (row-none passes w here behind u rest s.columns s.last s.count s.since r.scan full s.start.units none empty
            ∙ ap (λ x. record { start = s.start.units; stop = s.start.units + 0 } ∷ rows_from passes w (s.start.units + 1) 0 x) (sym e)) pushed;
      }

  pub read-last : (new : List RowStart) → IsRead ucd w body starts s [] → 0 < s.last + s.count → new ≡ starts ++ s.start ∷ []
      → new ≡ map (start_of body (units ucd w body)) (rows_from (is_break ucd body) w 0 0 (units ucd w body))
  read-last new r some pushed =
      let size = scan-length passes w here behind [] s.columns s.last s.count s.since r.scan in
      sym (append-nil new)
      ∙ row-done [] (s.start.units + (s.last + s.count)) 0 [] new r (omega (arith, size, some))
      (row-last passes w here behind s.columns s.last s.count s.since s.start.units r.scan some) pushed

  pub read-empty : IsRead ucd w body starts s [] → s.last ≡ 0 → s.count ≡ 0
      → starts ≡ map (start_of body (units ucd w body)) (rows_from (is_break ucd body) w 0 0 (units ucd w body))
  read-empty r none empty =
      let no_unit = row-empty passes w here behind s.columns s.last s.count s.since s.start.units r.scan none empty in
      sym (append-nil starts)
      ∙ ap (λ x. starts ++ map (start_of body all_units) (rows_from passes w s.start.units 0 x)) (sym no_unit) ∙ r.done

-- ---- a unit of an extent

fits_of : (w c d : ℕ) → (nat_lt c w && nat_le d w) ≡ true → (c < w) × (d ≤ w)
fits_of w c d h =
    let p = and_parts (nat_lt c w) (nat_le d w) h in
    let less : c < w = ltb-true c w p.0 in
    (less, leb-true d w p.1)

fits_not : (w c d : ℕ) → (nat_lt c w && nat_le d w) ≡ false → (w ≤ c) ⊎ (w < d)
fits_not w c d h = ⊎_elim (λ less. ⊎_elim (λ past. inr past)
    (λ within. absurd (true≢false (sym (and_from (nat_lt c w) (nat_le d w) (lt-ltb c w less) (le-leb d w within)) ∙ h))) (cases_lt w d)) (λ full. inl full)
    (cases_lt c w)

module _ (w : ℕ) (body : List ℕ) (e : Extent) (starts : List RowStart) (s : Scan) where
  fits_extent : (ucd : Data) (u : Unit) (rest : List Unit) → HasExtent ucd w body e u rest
      → (nat_lt s.columns w && nat_le (s.columns + columns_at w s.columns e.face) w) ≡ true → Fits w s.columns u
  fits_extent ucd u rest x h = subst (λ n. (s.columns < w) × (s.columns + n ≤ w)) (sym (x.columns s.columns))
      (fits_of w s.columns (s.columns + columns_at w s.columns e.face) h)

  none_extent : (ucd : Data) (u : Unit) (rest : List Unit) → HasExtent ucd w body e u rest
      → (nat_lt s.columns w && nat_le (s.columns + columns_at w s.columns e.face) w) ≡ false → fit_count_from w s.columns (u ∷ rest) ≡ 0
  none_extent ucd u rest x h = none_fits w s.columns u rest
      (subst (λ n. (w ≤ s.columns) ⊎ (w < s.columns + n)) (sym (x.columns s.columns)) (fits_not w s.columns (s.columns + columns_at w s.columns e.face) h))

  pub takes-more : (nat_lt s.columns w && nat_le (s.columns + columns_at w s.columns e.face) w) ≡ true → e.is_break ≡ false
      → Takes w body e starts s starts
      (record {
        start = s.start;
        next = s.next;
        columns = s.columns + columns_at w s.columns e.face;
        last = s.last;
        count = s.count + 1;
        since = s.since + columns_at w s.since e.face;
      })
  takes-more h no_break = λ ucd u rest x r.
      subst (λ n. IsRead ucd w body starts
      (record {
        start = s.start;
        next = s.next;
        columns = s.columns + n;
        last = s.last;
        count = s.count + 1;
        since = s.since + columns_at w s.since e.face;
      }) rest) (x.columns s.columns)
      (subst (λ n. IsRead ucd w body starts
      (record {
        start = s.start;
        next = s.next;
        columns = s.columns + columns_at w s.columns u.face;
        last = s.last;
        count = s.count + 1;
        since = s.since + n;
      }) rest) (x.columns s.since)
      (read-more ucd w body starts s u rest r (fits_extent ucd u rest x h) (x.breaks ∙ no_break)))

  pub takes-break : (nat_lt s.columns w && nat_le (s.columns + columns_at w s.columns e.face) w) ≡ true → e.is_break ≡ true
      → Takes w body e starts s starts
      (record { start = s.start; next = e.stop; columns = s.columns + columns_at w s.columns e.face; last = s.last + s.count + 1; count = 0; since = 0 })
  takes-break h may_end = λ ucd u rest x r.
      subst (λ n. IsRead ucd w body starts
      (record { start = s.start; next = e.stop; columns = s.columns + n; last = s.last + s.count + 1; count = 0; since = 0 }) rest) (x.columns s.columns)
      (read-break ucd w body starts s u rest e.stop x.behind r (fits_extent ucd u rest x h) (x.breaks ∙ may_end))

  pub takes-none : (new : List RowStart) (n : ℕ) → (nat_lt s.columns w && nat_le (s.columns + columns_at w s.columns e.face) w) ≡ false → s.last ≡ 0
      → s.count ≡ 0 → n ≡ length (chars (take e.stop body)) → new ≡ starts ++ s.start ∷ []
      → Takes w body e starts s new (new_scan (record { offset = e.stop; units = s.start.units + 1; chars = n }))
  takes-none new n h none empty counted pushed = λ ucd u rest x r.
      read-none ucd w body starts s u rest e.stop n new x.behind r (none_extent ucd u rest x h) none empty counted pushed

  pub takes-full : (new last : List RowStart) (n : ℕ) (t : Scan) → (nat_lt s.columns w && nat_le (s.columns + columns_at w s.columns e.face) w) ≡ false
      → s.last ≡ 0 → 0 < s.count → n ≡ length (chars (take e.start body)) → new ≡ starts ++ s.start ∷ []
      → Takes w body e new (new_scan (record { offset = e.start; units = s.start.units + s.count; chars = n })) last t → Takes w body e starts s last t
  takes-full new last n t h none some counted pushed later = λ ucd u rest x r.
      later ucd u rest x (read-full ucd w body starts s u rest e.start n new x.here r (none_extent ucd u rest x h) none some counted pushed)

  pub takes-at-break : (new last : List RowStart) (n : ℕ) (t : Scan) → (nat_lt s.columns w && nat_le (s.columns + columns_at w s.columns e.face) w) ≡ false
      → 0 < s.last → n ≡ length (chars (take s.next body)) → new ≡ starts ++ s.start ∷ []
      → Takes w body e new (record {
        start = record { offset = s.next; units = s.start.units + s.last; chars = n };
        next = s.next;
        columns = s.since;
        last = 0;
        count = s.count;
        since = s.since;
      }) last t → Takes w body e starts s last t
  takes-at-break new last n t h some counted pushed later = λ ucd u rest x r.
      later ucd u rest x (read-at-break ucd w body starts s u rest n new r (none_extent ucd u rest x h) some counted pushed)
