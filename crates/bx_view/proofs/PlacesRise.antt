-- The places of a text strictly increase, from row to row and from paragraph to paragraph, and each row's first place is
-- its first offset.
use Rattle.std.proofs.Common.{◌≡◌, ℕ, zero, suc, ◌+◌, ◌-◌, ◌<◌, ◌≤◌, Bool, true, false, List, [], ◌∷◌, ◌++◌, map, length, take, drop, Option, IsUtf8}
use Rattle.std.proofs.Common.{refl, sym, ap, subst, ◌∙◌, arith, append-nil, append_assoc}
use Rattle.std.specs.Prelude.{chars, flat_map}
use Rattle.std.proofs.lemmas.Grind.{flat_map-append}
use Rattle.std.proofs.lemmas.List.{map-append, take-append-drop}
use Rattle.std.proofs.lemmas.List.Concat.{flat_map-cons}
use Rattle.bx_ucd.specs.Data.{Data}
use Rattle.bx_common.specs.declared.base.Base.{Base}
use Rattle.bx_levels.specs.resolve.Levels.{paragraph_level_under, levels_under}
use Rattle.bx_rows.specs.declared.cells.unit.Unit.{Unit}
use Rattle.bx_rows.specs.cells.Units.{units}
use Rattle.bx_rows.specs.Wrapping.{is_break, row_len, row_units, rows_from as wrap_from, rows_of}
use Rattle.bx_text.specs.index.Paragraphs.{Paragraph, lengths_of, paragraphs, bytes_of, total}
use Rattle.bx_paragraph.specs.BodyRows.{BodyRow, body_rows, first_of, offsets_of, row_with, rows_units, with_last}
use Rattle.bx_paragraph.proofs.Starts.{AllFit, some-unit, units-fit}
use Rattle.bx_view.specs.TextRows.{TextRow, first, places, places_of, text_row, text_rows}
use Rattle.bx_view.proofs.RowsAround.{from, own}
use Rattle.bx_view.proofs.BodyFirsts.{next-units, none-in, starts_of, units-before}
use Rattle.bx_view.proofs.Numbers.{bytes-length}
use Rattle.bx_view.proofs.Parts.{AreEnded, AreUtf8, text-bytes, text-parts}
use Rattle.bx_view.proofs.Rising.{Rises, rises-append, rises-behind, rises-further, rises-moved}

-- ---- the rows of a body have all its units, and each has some

-- the units of some rows
abbrev joined : List (List Unit) → List Unit
joined [] = []
joined (us ∷ xs) = us ++ joined xs

one-and-more : (n : ℕ) (u : Unit) (us : List Unit) → 1 ≤ n → take n (u ∷ us) ++ drop (n - 1) us ≡ u ∷ us
one-and-more zero u us h = absurd (omega (arith, h))
one-and-more (suc n) u us h =
    let same : suc n - 1 ≡ n = omega arith in ap (λ k. (u ∷ take n us) ++ drop k us) same ∙ ap (λ vs. u ∷ vs) (take-append-drop n us)

some-taken : (n : ℕ) (u : Unit) (us : List Unit) → 1 ≤ n → 0 < length (take n (u ∷ us))
some-taken zero u us h = absurd (omega (arith, h))
some-taken (suc n) u us h = omega arith

-- each of some rows has a unit
abbrev AllSome : List (List Unit) → Type 0
AllSome [] = Prim.Unit {0}
AllSome (us ∷ xs) = (0 < length us) × AllSome xs

module _ (p : Unit → Bool) (w : ℕ) (h : 1 ≤ w) where
  row-from : (i n : ℕ) (us all : List Unit) → drop i all ≡ us → take (i + n - i) (drop i all) ≡ take n us
  row-from i n us all e = let size : i + n - i ≡ n = omega arith in ap (λ k. take k (drop i all)) size ∙ ap (take n) e

  units-from : (i k : ℕ) (us all : List Unit) → AllFit w us → drop i all ≡ us → joined (map (row_units all) (wrap_from p w i k us)) ≡ drop k us
  units-from i zero [] all fit e = refl
  units-from i (suc k) [] all fit e = refl
  units-from i (suc k) (u ∷ us) all fit e = units-from (suc i) k us all fit.1 (next-units i u us all e)
  units-from i zero (u ∷ us) all fit e =
      let n = row_len p w (u ∷ us) in
      let rest = joined (map (row_units all) (wrap_from p w (suc i) (n - 1) us)) in
      ap (λ vs. vs ++ rest) (row-from i n (u ∷ us) all e)
      ∙ ap (λ vs. take n (u ∷ us) ++ vs) (units-from (suc i) (n - 1) us all fit.1 (next-units i u us all e))
      ∙ one-and-more n u us (some-unit p w u us h fit.0)

  some-from : (i k : ℕ) (us all : List Unit) → AllFit w us → drop i all ≡ us → AllSome (map (row_units all) (wrap_from p w i k us))
  some-from i k [] all fit e = tt
  some-from i (suc k) (u ∷ us) all fit e = some-from (suc i) k us all fit.1 (next-units i u us all e)
  some-from i zero (u ∷ us) all fit e =
      let n = row_len p w (u ∷ us) in (
        subst (λ vs. 0 < length vs) (sym (row-from i n (u ∷ us) all e)) (some-taken n u us (some-unit p w u us h fit.0)),
        some-from (suc i) (n - 1) us all fit.1 (next-units i u us all e),
      )

  units-all : (us : List Unit) → AllFit w us → joined (map (row_units us) (rows_of p w us)) ≡ us
  units-all [] fit = refl
  units-all (u ∷ us) fit = units-from 0 0 (u ∷ us) (u ∷ us) fit refl

  some-row : (us : List Unit) → 0 < length (map (row_units us) (rows_of p w us))
  some-row [] = omega arith
  some-row (u ∷ us) = omega arith

-- ---- the places of a body

-- a row's first place is its first offset
abbrev pub IsHeaded : BodyRow → Type 0
IsHeaded r = (os : List ℕ) × (offsets_of r ≡ first_of r ∷ os)

abbrev pub AllHeaded : List BodyRow → Type 0
AllHeaded [] = Prim.Unit {0}
AllHeaded (r ∷ rs) = IsHeaded r × AllHeaded rs

module _ (ucd : Data) (body : List ℕ) (paragraph : ℕ) (each : List (Option ℕ)) where
  abbrev row : Bool → List Unit → BodyRow
  row is_last us = row_with ucd body paragraph each is_last us

  places-last : (xs : List (List Unit)) → 0 < length xs → flat_map offsets_of (with_last row xs) ≡ starts_of (joined xs) ++ length body ∷ []
  places-last [] h = absurd (omega (arith, h))
  places-last (us ∷ []) h =
      flat_map-cons offsets_of (row true us) [] ∙ append-nil (offsets_of (row true us))
      ∙ ap (λ vs. starts_of vs ++ length body ∷ []) (sym (append-nil us))
  places-last (us ∷ vs ∷ rest) h =
      let more = with_last row (vs ∷ rest) in
      flat_map-cons offsets_of (row false us) more ∙ ap (λ os. os ++ flat_map offsets_of more) (append-nil (starts_of us))
      ∙ ap (λ os. starts_of us ++ os) (places-last (vs ∷ rest) (omega arith))
      ∙ sym (append_assoc (starts_of us) (starts_of (joined (vs ∷ rest))) (length body ∷ []))
      ∙ ap (λ os. os ++ length body ∷ []) (sym (map-append (λ u. u.start) us (joined (vs ∷ rest))))

  row-headed : (is_last : Bool) (us : List Unit) → 0 < length us → IsHeaded (row is_last us)
  row-headed is_last [] h = absurd (omega (arith, h))
  row-headed is_last (u ∷ us) h = (starts_of us ++ elim is_last [ true ↦ length body ∷ [] | false ↦ [] ], refl)

  last-headed : (xs : List (List Unit)) → AllSome xs → AllHeaded (with_last row xs)
  last-headed [] some = tt
  last-headed (us ∷ []) some = (row-headed true us some.0, tt)
  last-headed (us ∷ vs ∷ rest) some = (row-headed false us some.0, last-headed (vs ∷ rest) some.1)

  rows-headed : (p : Unit → Bool) (w : ℕ) (us : List Unit) → 1 ≤ w → AllFit w us → (length us ≡ 0 → length body ≡ 0)
      → AllHeaded (with_last row (map (row_units us) (rows_of p w us)))
  rows-headed p w [] h fit none = (([], ap (λ n. n ∷ []) (none refl)), tt)
  rows-headed p w (u ∷ us) h fit none = last-headed (map (row_units (u ∷ us)) (rows_of p w (u ∷ us))) (some-from p w h 0 0 (u ∷ us) (u ∷ us) fit refl)

module _ (ucd : Data) (base : Base) (w : ℕ) (h : 1 ≤ w) where
  abbrev offsets : List ℕ → List ℕ
  offsets body = flat_map offsets_of (body_rows ucd base w body)

  -- the units' starts and the end
  pub body-places : (body : List ℕ) → offsets body ≡ starts_of (units ucd w body) ++ length body ∷ []
  body-places body =
      let us = units ucd w body in
      places-last ucd body (paragraph_level_under ucd base (chars body)) (levels_under ucd base (chars body)) (rows_units ucd w body)
      (some-row (is_break ucd body) w h us)
      ∙ ap (λ vs. starts_of vs ++ length body ∷ []) (units-all (is_break ucd body) w h us (units-fit ucd w body h))

  pub body-rise : (body : List ℕ) → IsUtf8 body → Rises 0 (offsets body) (length body + 1)
  body-rise body utf8 =
      subst (λ os. Rises 0 os (length body + 1)) (sym (body-places body))
      (rises-append 0 (starts_of (units ucd w body)) (length body) (length body ∷ []) (length body + 1) (units-before ucd w body utf8)
      (omega arith, omega arith))

  pub body-headed : (body : List ℕ) → IsUtf8 body → AllHeaded (body_rows ucd base w body)
  body-headed body utf8 =
      rows-headed ucd body (paragraph_level_under ucd base (chars body)) (levels_under ucd base (chars body)) (is_break ucd body) w
      (units ucd w body) h (units-fit ucd w body h) (none-in ucd w body utf8)

-- ---- the places of a text

-- a row's first place is its first offset
abbrev pub IsHead : TextRow → Type 0
IsHead r = (os : List ℕ) × (places_of r ≡ first r ∷ os)

abbrev pub AllHeads : List TextRow → Type 0
AllHeads [] = Prim.Unit {0}
AllHeads (r ∷ rs) = IsHead r × AllHeads rs

heads-append : (rs ss : List TextRow) → AllHeads rs → AllHeads ss → AllHeads (rs ++ ss)
heads-append [] ss a b = b
heads-append (r ∷ rs) ss a b = (a.0, heads-append rs ss a.1 b)

pub heads-moved : (start : ℕ) (rs : List BodyRow) → AllHeaded rs → AllHeads (map (text_row start) rs)
heads-moved start [] a = tt
heads-moved start (r ∷ rs) a = ((map (λ o. start + o) a.0.0, ap (map (λ o. start + o)) a.0.1), heads-moved start rs a.1)

pub places-moved : (start : ℕ) (rs : List BodyRow) → places (map (text_row start) rs) ≡ map (λ o. start + o) (flat_map offsets_of rs)
places-moved start [] = refl
places-moved start (r ∷ rs) =
    flat_map-cons places_of (text_row start r) (map (text_row start) rs) ∙ ap (λ os. places_of (text_row start r) ++ os) (places-moved start rs)
    ∙ sym (map-append (λ o. start + o) (offsets_of r) (flat_map offsets_of rs)) ∙ ap (map (λ o. start + o)) (sym (flat_map-cons offsets_of r rs))

module _ (ucd : Data) (base : Base) (w : ℕ) (h : 1 ≤ w) where
  abbrev mine : ℕ → Paragraph → List TextRow
  mine start p = map (text_row start) (own ucd base w p)

  abbrev rest : ℕ → List Paragraph → List TextRow
  rest start ps = from ucd base w start ps

  own-rise : (start : ℕ) (p : Paragraph) → IsUtf8 p.body → Rises start (places (mine start p)) (start + length p.body + 1)
  own-rise start p u =
      let same : start + (length p.body + 1) ≡ start + length p.body + 1 = omega arith in
      let low : start + 0 ≡ start = omega arith in
      let os = flat_map offsets_of (own ucd base w p) in
      subst (λ ps. Rises start ps (start + length p.body + 1)) (sym (places-moved start (own ucd base w p)))
      (subst (λ s. Rises s (map (λ o. start + o) os) (start + length p.body + 1)) low
      (subst (Rises (start + 0) (map (λ o. start + o) os)) same (rises-moved start 0 os (length p.body + 1) (body-rise ucd base w h p.body u))))

  pub places-from : (start : ℕ) (p : Paragraph) (ps : List Paragraph)
      → places (rest start (p ∷ ps)) ≡ places (mine start p) ++ places (rest (start + bytes_of (lengths_of p)) ps)
  places-from start p ps = flat_map-append places_of (mine start p) (rest (start + bytes_of (lengths_of p)) ps)

  from-rise : (start : ℕ) (ps : List Paragraph) → AreUtf8 ps → AreEnded ps → Rises start (places (rest start ps)) (start + total (map lengths_of ps) + 1)
  from-rise start [] u e = omega arith
  from-rise start (p ∷ []) u e =
      let high = start + total (map lengths_of (p ∷ [])) + 1 in
      subst (λ os. Rises start os high) (sym (places-from start p []))
      (rises-append start (places (mine start p)) (start + length p.body + 1) [] high (own-rise start p u.0.body) (omega arith))
  from-rise start (p ∷ q ∷ ps) u e =
      let next = start + bytes_of (lengths_of p) in
      let high = start + total (map lengths_of (p ∷ q ∷ ps)) + 1 in
      let same : next + total (map lengths_of (q ∷ ps)) + 1 ≡ high = omega arith in
      subst (λ os. Rises start os high) (sym (places-from start p (q ∷ ps)))
      (rises-append start (places (mine start p)) next (places (rest next (q ∷ ps))) high
      (rises-further start (places (mine start p)) (start + length p.body + 1) next (omega (arith, e.0)) (own-rise start p u.0.body))
      (subst (Rises next (places (rest next (q ∷ ps)))) same (from-rise next (q ∷ ps) u.1 e.1)))

  from-heads : (start : ℕ) (ps : List Paragraph) → AreUtf8 ps → AllHeads (rest start ps)
  from-heads start [] u = tt
  from-heads start (p ∷ ps) u =
      heads-append (mine start p) (rest (start + bytes_of (lengths_of p)) ps)
      (heads-moved start (own ucd base w p) (body-headed ucd base w h p.body u.0.body))
      (from-heads (start + bytes_of (lengths_of p)) ps u.1)

  -- the places of a text rise strictly
  pub places-rise : (text : List ℕ) → IsUtf8 text → Rises 0 (places (text_rows ucd base w text)) (length text + 1)
  places-rise text utf8 =
      let all = paragraphs ucd text in
      let parts = text-parts ucd text utf8 in
      let size : 0 + total (map lengths_of all) + 1 ≡ length text + 1 = omega (arith, bytes-length all, ap length (text-bytes ucd text utf8)) in
      subst (Rises 0 (places (text_rows ucd base w text))) size (from-rise 0 all parts.utf8 parts.ended)

  -- and each row has its first offset as its first place
  pub rows-headed-in : (text : List ℕ) → IsUtf8 text → AllHeads (text_rows ucd base w text)
  rows-headed-in text utf8 = from-heads 0 (paragraphs ucd text) (text-parts ucd text utf8).utf8

-- the first places of rows rise as all do
pub firsts-of : (low : ℕ) (rows : List TextRow) (high : ℕ) → AllHeads rows → Rises low (places rows) high → Rises low (map first rows) high
firsts-of low [] high a r = r
firsts-of low (s ∷ ss) high a r =
    let opened : places (s ∷ ss) ≡ first s ∷ (a.0.0 ++ places ss) = flat_map-cons places_of s ss ∙ ap (λ os. os ++ places ss) a.0.1 in
    let rise : Rises low (first s ∷ (a.0.0 ++ places ss)) high = subst (λ os. Rises low os high) opened r in
    (rise.0, firsts-of (first s + 1) ss high a.1 (rises-behind (first s + 1) a.0.0 (places ss) high rise.1))

pub firsts-rise-in : (ucd : Data) (base : Base) (w : ℕ) → 1 ≤ w → (text : List ℕ) → IsUtf8 text
    → Rises 0 (map first (text_rows ucd base w text)) (length text + 1)
firsts-rise-in ucd base w h text utf8 =
    firsts-of 0 (text_rows ucd base w text) (length text + 1) (rows-headed-in ucd base w h text utf8)
    (places-rise ucd base w h text utf8)
