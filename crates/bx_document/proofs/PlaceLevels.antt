-- The level of a place's unit, from the body of its paragraph, and back from a unit of a paragraph.
use Rattle.std.proofs.Common.{◌≡◌, ℕ, zero, suc, ◌+◌, ◌-◌, ◌<◌, ◌≤◌, true, List, [], ◌∷◌, ◌++◌, length, take, drop, chars, Option, Some}
use Rattle.std.proofs.Common.{IsUtf8, IsCharBoundary, refl, sym, ap, subst, ◌∙◌, ⊎_elim, arith, append_assoc, length-append}
use Rattle.std.specs.Prelude.{Contains}
use Rattle.std.specs.List.{concat}
use Rattle.std.proofs.lemmas.Bool.{cases_lt}
use Rattle.std.proofs.lemmas.List.{get_or-map, take_at}
use Rattle.std.proofs.lemmas.Str.{chars-nil}
use Rattle.bx_ucd.specs.Data.{Data}
use Rattle.bx_common.specs.declared.base.Base.{Base}
use Rattle.unicode_segmentation.specs.Grapheme.{graphemes, is_grapheme_break}
use Rattle.unicode_segmentation.proofs.SegmentsLemmas.{concat-segments}
use Rattle.bx_text.specs.declared.index.lengths.Lengths.{Lengths}
use Rattle.bx_text.specs.index.Paragraphs.{bare, lengths, lengths_of, paragraphs, bytes_of, paragraph_of, total}
use Rattle.bx_text.proofs.index_lemmas.Totals.{total_more}
use Rattle.bx_levels.specs.resolve.Levels.{levels_under}
use Rattle.bx_rows.specs.RowLevels.{first_level}
use Rattle.bx_view.specs.Places.{IsTextPlace}
use Rattle.bx_view.specs.Numbers.{boundaries, body_at, count, paragraph_at, start_at}
use Rattle.bx_view.proofs.Numbered.{place-in-body}
use Rattle.bx_view.proofs.Numbers.{body-utf8, falls-at, holds-of, lengths-count}
use Rattle.bx_document.specs.PlaceLevel.{place_level, unit_level}
use Rattle.bx_document.specs.UnitLevels.{IsFirstLevel, UnitsHaveLevels}
use Rattle.bx_document.proofs.UnitLevels.{bound-at, bounds-in-body, first-in, unit-behind}

module _ (ucd : Data) (text : List ℕ) (utf8 : IsUtf8 text) (place n a : ℕ) (body : List ℕ)
    (number : n ≡ paragraph_of (lengths ucd text) place) (start : a ≡ start_at ucd text n) (body_is : body ≡ body_at ucd text n) where
  pub level-is : (base : Base) (each : List (Option ℕ)) → each ≡ levels_under ucd base (chars body)
      → unit_level body each (place - a) ≡ place_level ucd base text place
  level-is base each levels =
      let by : List ℕ → List (Option ℕ) = λ b. levels_under ucd base (chars b) in
      ap (λ ls. unit_level body ls (place - a)) levels ∙ ap (λ k. unit_level body (by body) (place - k)) start
      ∙ ap (λ b. unit_level b (by b) (place - start_at ucd text n)) body_is
      ∙ ap (λ k. unit_level (body_at ucd text k) (by (body_at ucd text k)) (place - start_at ucd text k)) number

  pub place-of-body : IsTextPlace ucd text place → Contains (boundaries 0 (graphemes true body)) (place - a)
  place-of-body c =
      let falls = falls-at ucd text place n utf8 number in
      let inside = place-in-body ucd text utf8 n falls.within place c falls.order falls.ended in
      let gs = graphemes true (body_at ucd text n) in
      let none : start_at ucd text n ≡ a + 0 = omega (arith, start) in
      subst (λ b. Contains (boundaries 0 (graphemes true b)) (place - a)) (sym body_is)
      (bounds-in-body a 0 place gs (subst (λ k. Contains (boundaries k gs) place) none inside))

  pub bound-of-body : IsTextPlace ucd text place → IsCharBoundary body (place - a)
  bound-of-body c =
      let falls = falls-at ucd text place n utf8 number in
      bound-at body (subst IsUtf8 (sym body_is) (body-utf8 ucd text n falls.within utf8)) [] (place - a) (place-of-body c)

-- ---- a unit of a paragraph

some-bytes : (unit : List ℕ) → 0 < length (chars unit) → 0 < length unit
some-bytes [] h = absurd (omega (arith, h, ap length chars-nil))
some-bytes (b ∷ bs) h = omega arith

concat-append : (xs ys : List (List ℕ)) → concat (xs ++ ys) ≡ concat xs ++ concat ys
concat-append [] ys = refl
concat-append (x ∷ xs) ys = ap (λ z. x ++ z) (concat-append xs ys) ∙ sym (append_assoc x (concat xs) (concat ys))

begins-later : (ls : List Lengths) (a b : ℕ) → a ≤ b → total (take a ls) ≤ total (take b ls)
begins-later ls zero b h = omega arith
begins-later [] (suc a) b h = omega arith
begins-later (l ∷ ls) (suc a) zero h = absurd (omega (arith, h))
begins-later (l ∷ ls) (suc a) (suc b) h = let more = begins-later ls a b (omega (arith, h)) in omega (arith, more)

module _ (ucd : Data) (text : List ℕ) (utf8 : IsUtf8 text) (n : ℕ) (within : n < count ucd text) where
  next-start : start_at ucd text (n + 1) ≡ start_at ucd text n + bytes_of (lengths_of (paragraph_at ucd text n))
  next-start =
      total_more (lengths ucd text) n (lengths_of (bare [])) (omega (arith, within, lengths-count ucd text))
      ∙ ap (λ (l : Lengths). start_at ucd text n + bytes_of l)
      (get_or-map lengths_of (paragraphs ucd text) n (bare []) (lengths_of (bare [])) within)

  paragraph-in : (at : ℕ) → at < length (body_at ucd text n) → n ≡ paragraph_of (lengths ucd text) (start_at ucd text n + at)
  paragraph-in at inside =
      let ls = lengths ucd text in
      let offset = start_at ucd text n + at in
      let m = paragraph_of ls offset in
      let few = lengths-count ucd text in
      let h = holds-of offset ls m (omega (arith, few, within)) refl in
      ⊎_elim
      (λ sooner.
      let past = h.ended (omega (arith, few, within, sooner)) in
      absurd (omega (arith, past, begins-later ls (m + 1) n (omega (arith, sooner)))))
      (λ same_or_later. ⊎_elim
      (λ later. absurd (omega (arith, h.order, inside, next-start, begins-later ls (n + 1) m (omega (arith, later)))))
      (λ same. omega (arith, same_or_later, same)) (cases_lt n m))
      (cases_lt m n)

  pub units-have : (base : Base) (front rest : List (List ℕ)) (unit : List ℕ)
      → graphemes true (body_at ucd text n) ≡ front ++ unit ∷ rest → (i level : ℕ) → i < length (chars unit)
      → IsFirstLevel (levels_under ucd base (chars (body_at ucd text n))) (length (chars (concat front))) i level
      → place_level ucd base text (start_at ucd text n + length (concat front)) ≡ Some level
  units-have base front rest unit parts i level few first =
      let body = body_at ucd text n in
      let each = levels_under ucd base (chars body) in
      let valid = body-utf8 ucd text n within utf8 in
      let at = length (concat front) in
      let start = start_at ucd text n in
      let whole : body ≡ concat front ++ (unit ++ concat rest) =
      sym (concat-segments (is_grapheme_break true) body valid) ∙ ap concat parts ∙ concat-append front (unit ∷ rest) in
      let some : 0 < length unit = some-bytes unit (omega (arith, few)) in
      let inside : at < length body =
      omega (arith, ap length whole, length-append (concat front) (unit ++ concat rest), length-append unit (concat rest), some) in
      let place : start + at - start ≡ at = omega arith in
      let ahead : take at body ≡ concat front = ap (take at) whole ∙ take_at (concat front) (unit ++ concat rest) at refl in
      sym (level-is ucd text utf8 (start + at) n start body (paragraph-in at inside) refl refl base each refl)
      ∙ ap (unit_level body each) place ∙ unit-behind body valid each front rest unit parts
      ∙ ap (λ cs. first_level (take (length (chars unit)) (drop (length (chars cs)) each))) ahead
      ∙ first-in each (length (chars (concat front))) i (length (chars unit)) level few first

pub units_have : (ucd : Data) (base : Base) (text : List ℕ) → IsUtf8 text → UnitsHaveLevels ucd base text
units_have ucd base text utf8 number within front rest unit = units-have ucd text utf8 number within base front rest unit
