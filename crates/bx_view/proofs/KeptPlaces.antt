-- Each move leads from a place to a place.
use Rattle.std.proofs.Common.{◌≡◌, ℕ, zero, suc, ◌+◌, ◌<◌, ◌≤◌, ◌==◌, Bool, true, false, List, [], ◌∷◌, map, length, get_or}
use Rattle.std.proofs.Common.{cond, IsUtf8, chars, refl, sym, ap, subst, ◌∙◌}
use Rattle.std.proofs.Common.{arith, eq-eqb}
use Rattle.std.specs.Prelude.{All, Contains}
use Rattle.std.proofs.lemmas.Bool.{eqb-true}
use Rattle.std.proofs.lemmas.List.{get_or-map, length-map}
use Rattle.std.proofs.lemmas.List.Concat.{flat_map-cons}
use Rattle.std.proofs.lemmas.List.Elements.{All-append, All-cons, All-contains_itself, All-head, All-map, All-nil, All-tail, All-weaker}
use Rattle.std.proofs.lemmas.List.Elements.{Contains-append_left, Contains-append_right}
use Rattle.std.proofs.lemmas.List.Sums.{get_or-le-sum_by, sum_by-cons}
use Rattle.bx_ucd.specs.Data.{Data}
use Rattle.bx_common.specs.Characters.{is_side}
use Rattle.bx_common.specs.declared.base.Base.{Base}
use Rattle.bx_levels.specs.resolve.Levels.{paragraph_level_under, levels_under}
use Rattle.bx_rows.specs.declared.cells.unit.Unit.{Unit}
use Rattle.bx_rows.proofs.Resets.{one_each}
use Rattle.bx_text.specs.index.Paragraphs.{Paragraph, lengths_of, paragraphs, bytes_of}
use Rattle.bx_paragraph.specs.BodyRows.{BodyRow, body_rows, offsets_of, row_with, rows_units, with_last}
use Rattle.bx_paragraph.specs.Slots.{slot_offsets}
use Rattle.bx_paragraph.proofs.OnceEach.{once-contains}
use Rattle.bx_view.specs.Cells.{times}
use Rattle.bx_view.specs.FoundRow.{rows_by}
use Rattle.bx_view.specs.Caching.{ViewState}
use Rattle.bx_view.specs.Laws.{MovesKeep}
use Rattle.bx_view.specs.Moves.{place_at, place_from}
use Rattle.bx_view.specs.Places.{IsTextPlace}
use Rattle.bx_view.specs.TextRows.{TextRow, IsPlace, first, places, places_of, text_row, text_rows}
use Rattle.bx_paragraph.proofs.Starts.{side-some}
use Rattle.bx_view.proofs.RowsAround.{from, own}
use Rattle.bx_view.proofs.KeptMoves.{moves-keep}
use Rattle.bx_view.proofs.Rising.{rank-few}
use Rattle.bx_view.proofs.StopPlaces.{ends-lie}
use Rattle.bx_view.proofs.TextPlaces.{begin-is-place, end-is-place, places-are, starts-are-places}
use Rattle.bx_view.proofs.Walking.{text-rank}
use Rattle.bx_view.proofs.Within.{LiesIn, Within}

-- ---- the members of some offsets

within-of-all : (P : ℕ → Type 0) (os : List ℕ) → All P os → Within P os
within-of-all P [] a = tt
within-of-all P (o ∷ os) a = (All-head P o os a, within-of-all P os (All-tail P o os a))

-- a property of each of some offsets
pub within-of : (P : ℕ → Type 0) (os : List ℕ) → ((o : ℕ) → Contains os o → P o) → Within P os
within-of P os each = within-of-all P os (All-weaker (Contains os) P each os (All-contains_itself os))

pub contains-moved : (start : ℕ) (os : List ℕ) (o : ℕ) → Contains os o → Contains (map (λ k. start + k) os) (start + o)
contains-moved start os o c =
    (c.0, omega (arith, c.1, length-map os (λ k. start + k)), get_or-map (λ k. start + k) os c.0 o (start + o) c.1 ∙ ap (λ k. start + k) c.2)

-- one for an offset itself, and nothing for others
abbrev pub one-at : ℕ → ℕ → ℕ
one-at o p = cond (p == o) 1 0

counted-at : (p : ℕ) (os : List ℕ) (o : ℕ) (b : Bool) → (p == o) ≡ b → 0 < times o (p ∷ os) → (0 < times o os → Contains os o) → Contains (p ∷ os) o
counted-at p os o true e h rest = (0, omega arith, eqb-true p o e)
counted-at p os o false e h rest =
    let sum = sum_by-cons (one-at o) p os in
    let none : one-at o p ≡ 0 = ap (λ b. cond b 1 0) e in
    Contains-append_right (p ∷ []) os o (rest (omega (arith, h, sum, none)))

pub contains-counted : (os : List ℕ) (o : ℕ) → 0 < times o os → Contains os o
contains-counted [] o h = absurd (omega (arith, h))
contains-counted (p ∷ os) o h = counted-at p os o (p == o) refl h (λ more. contains-counted os o more)

pub counted-contains : (os : List ℕ) (o : ℕ) → Contains os o → 0 < times o os
counted-contains os o c =
    let here : one-at o (get_or os c.0 o) ≡ 1 = ap (λ b. cond b 1 0) (eq-eqb (get_or os c.0 o) o c.2) in
    omega (arith, here, get_or-le-sum_by (one-at o) os c.0 o c.1)

-- ---- each row has its places in its slots

abbrev pub HasLevels : BodyRow → Type 0
HasLevels r = length r.levels ≡ length r.units

leveled-last : (row : Bool → List Unit → BodyRow) → ((b : Bool) (us : List Unit) → HasLevels (row b us)) → (xs : List (List Unit))
    → All HasLevels (with_last row xs)
leveled-last row each [] = All-nil HasLevels
leveled-last row each (us ∷ []) = All-cons HasLevels (row true us) [] (each true us) (All-nil HasLevels)
leveled-last row each (us ∷ vs ∷ rest) =
    All-cons HasLevels (row false us) (with_last row (vs ∷ rest)) (each false us) (leveled-last row each (vs ∷ rest))

module _ (ucd : Data) (base : Base) (w : ℕ) where
  leveled-body : (body : List ℕ) → All HasLevels (body_rows ucd base w body)
  leveled-body body =
      let paragraph = paragraph_level_under ucd base (chars body) in
      let each = levels_under ucd base (chars body) in
      leveled-last (row_with ucd body paragraph each) (λ b us. one_each ucd body paragraph each us _ refl) (rows_units ucd w body)

  leveled-from : (start : ℕ) (ps : List Paragraph) → All (λ r. HasLevels r.row) (from ucd base w start ps)
  leveled-from start [] = All-nil (λ (r : TextRow). HasLevels r.row)
  leveled-from start (p ∷ ps) =
      let next = start + bytes_of (lengths_of p) in
      All-append (λ (r : TextRow). HasLevels r.row) (map (text_row start) (own ucd base w p)) (from ucd base w next ps)
      (All-map (λ (r : TextRow). HasLevels r.row) (text_row start) (own ucd base w p) (leveled-body p.body)) (leveled-from next ps)

  -- each unit of a row has a level
  pub rows-leveled : (text : List ℕ) → All (λ r. HasLevels r.row) (text_rows ucd base w text)
  rows-leveled text = leveled-from 0 (paragraphs ucd text)

-- ---- properties of the places of rows hold for their slots

pub in-places : (rows : List TextRow) (k : ℕ) (d : TextRow) → k < length rows → (o : ℕ) → Contains (places_of (get_or rows k d)) o → Contains (places rows) o
in-places [] k d h o c = absurd (omega (arith, h))
in-places (r ∷ rs) zero d h o c =
    subst (λ os. Contains os o) (sym (flat_map-cons places_of r rs)) (Contains-append_left (places_of r) (places rs) o c)
in-places (r ∷ rs) (suc k) d h o c =
    subst (λ os. Contains os o) (sym (flat_map-cons places_of r rs))
    (Contains-append_right (places_of r) (places rs) o (in-places rs k d (omega (arith, h)) o c))

-- the offsets of a row's slots and units are places of the text
abbrev pub IsOfPlaces : List TextRow → ℕ → TextRow → Type 0
IsOfPlaces rows w r = LiesIn (λ o. IsPlace rows (r.start + o)) w r.row

row-of-places : (rows : List TextRow) (w : ℕ) (r : TextRow) → ((o : ℕ) → Contains (places_of r) o → IsPlace rows o) → HasLevels r.row → IsPlace rows r.start
    → IsOfPlaces rows w r
row-of-places rows w r all levels start =
    let P : ℕ → Type 0 = λ o. IsPlace rows (r.start + o) in
    let own-places : (o : ℕ) → Contains (offsets_of r.row) o → P o = λ o c. all (r.start + o) (contains-moved r.start (offsets_of r.row) o c) in
    let none : r.start ≡ r.start + 0 = omega arith in record {
      start = subst (IsPlace rows) none start;
      slots = within-of P (slot_offsets w r.row)
          (λ o c. own-places o (once-contains w r.row levels o c));
      units = within-of P (map (λ u. u.start) r.row.units) (λ o c. own-places o (Contains-append_left (map (λ u. u.start) r.row.units) _ o c));
      places = within-of P (offsets_of r.row) own-places;
    }

-- ---- of a text

module _ (ucd : Data) (base : Base) (w : ℕ) (some : 1 ≤ w) (text : List ℕ) (utf8 : IsUtf8 text) where
  abbrev rows : List TextRow
  rows = text_rows ucd base w text

  some-row : 0 < length rows
  some-row = omega (arith, text-rank ucd base w some text utf8 0, rank-few 0 (map first rows), length-map rows first)

  rows-of-places : All (IsOfPlaces rows w) rows
  rows-of-places = λ k d h.
      row-of-places rows w (get_or rows k d) (in-places rows k d h) (rows-leveled ucd base w text k d h)
      (starts-are-places ucd base w some text utf8 k d h)

  -- each move leads from a place of the rows to a place
  pub places-kept : MovesKeep ucd text w rows (IsPlace rows)
  places-kept =
      let each : Within (IsPlace rows) (places rows) = within-of (IsPlace rows) (places rows) (λ o c. c) in
      moves-keep ucd text w rows (IsPlace rows) rows-of-places each some-row
      (ends-lie ucd base w some (IsPlace rows) text utf8 each (begin-is-place ucd base w some text utf8) (end-is-place ucd base w some text utf8))

  -- and so from a place of the text to a place
  pub text-places-kept : MovesKeep ucd text w rows (IsTextPlace ucd text)
  text-places-kept = subst (λ os. MovesKeep ucd text w rows (λ p. Contains os p)) (places-are ucd base w some text utf8) places-kept

-- ---- as a layout answers it

module _ (ucd : Data) (v : ViewState) (text : List ℕ) (side : is_side v.w ≡ true) (utf8 : IsUtf8 text) where
  kept : MovesKeep ucd text v.w (rows_by ucd v text) (IsTextPlace ucd text)
  kept = text-places-kept ucd v.base v.w (side-some v.w side) text utf8

  pub place-from-kept : (offset o : ℕ) → o ≡ place_from (rows_by ucd v text) offset → IsTextPlace ucd text o
  place-from-kept offset o e = subst (IsTextPlace ucd text) (sym e) (kept.from offset)

  pub place-at-kept : (offset o : ℕ) → o ≡ place_at (rows_by ucd v text) offset → IsTextPlace ucd text o
  place-at-kept offset o e = subst (IsTextPlace ucd text) (sym e) (kept.at offset)
