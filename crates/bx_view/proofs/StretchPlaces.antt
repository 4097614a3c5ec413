-- The unit and the word at a place of a text, by those of the place's paragraph; their ends are places of the text.
use Rattle.std.proofs.Common.{◌≡◌, ℕ, ◌+◌, ◌-◌, ◌≤◌, true, List, [], ◌∷◌, length, IsUtf8, IsCharBoundary, refl, sym, ap, subst, ◌∙◌, arith}
use Rattle.std.specs.Prelude.{Contains}
use Rattle.unicode_segmentation.specs.Grapheme.{graphemes}
use Rattle.bx_ucd.specs.Data.{Data}
use Rattle.bx_text.specs.index.Paragraphs.{lengths, paragraph_of}
use Rattle.bx_view.specs.Numbers.{body_at, boundaries, start_at}
use Rattle.bx_view.specs.Places.{IsTextPlace}
use Rattle.bx_text.specs.Changes.{IsRange}
use Rattle.bx_view.specs.Words.{stretch_at, unit_at, unit_start, unit_stop, word_around}
use Rattle.bx_view.proofs.NextStops.{in-rest}
use Rattle.bx_view.proofs.Numbered.{body-place}
use Rattle.bx_view.proofs.Numbers.{body-range, body-utf8, falls-at}
use Rattle.bx_view.proofs.Within.{Within}
use Rattle.bx_view.proofs.WordsAround.{past-stop, start-lies, stop-lies, stop-order, word-lies, word-order}

within-all : (P : ℕ → Type 0) (os : List ℕ) → ((x : ℕ) → Contains os x → P x) → Within P os
within-all P [] each = tt
within-all P (o ∷ os) each = (each o (0, omega arith, refl), within-all P os (λ x c. each x (in-rest o os x c)))

within-body : (P : ℕ → Type 0) (start at : ℕ) (us : List (List ℕ)) → Within P (boundaries (start + at) us) → Within (λ o. P (start + o)) (boundaries at us)
within-body P start at [] a = a
within-body P start at (u ∷ us) a =
    let next : start + at + length u ≡ start + (at + length u) = omega arith in
    (a.0, within-body P start (at + length u) us (subst (λ n. Within P (boundaries n us)) next a.1))

module _ (ucd : Data) (text : List ℕ) (utf8 : IsUtf8 text) (place : ℕ) where
  abbrev number : ℕ
  number = paragraph_of (lengths ucd text) place

  abbrev start : ℕ
  start = start_at ucd text number

  abbrev body : List ℕ
  body = body_at ucd text number

  abbrev InText : ℕ → Type 0
  InText o = IsTextPlace ucd text (start + o)

  all-places : Within InText (boundaries 0 (graphemes true body))
  all-places =
      let here : start ≡ start + 0 = omega arith in
      let gs = graphemes true body in
      within-body (IsTextPlace ucd text) start 0 gs
      (subst (λ n. Within (IsTextPlace ucd text) (boundaries n gs)) here
      (within-all (IsTextPlace ucd text) (boundaries start gs) (body-place ucd text utf8 number (falls-at ucd text place number utf8 refl).within)))

  pub unit-stands : IsTextPlace ucd text place → IsTextPlace ucd text (unit_at ucd text place).1
  unit-stands is =
      let order = (falls-at ucd text place number utf8 refl).order in
      let same : place ≡ start + (place - start) = omega (arith, order) in
      stop-lies InText ucd body all-places (place - start) (subst (IsTextPlace ucd text) same is)

  pub stretch-stands : IsTextPlace ucd text (stretch_at ucd text place).0 × IsTextPlace ucd text (stretch_at ucd text place).1
  stretch-stands = word-lies InText ucd body all-places _ (start-lies InText ucd body all-places (place - start))

  -- as the place's paragraph tells them, number `n` that begins at `first`
  module _ (n first : ℕ) (is : n ≡ paragraph_of (lengths ucd text) place) (begins : first ≡ start_at ucd text n) (own : List ℕ)
      (own-is : own ≡ body_at ucd text n) where
    first-is : first ≡ start
    first-is = begins ∙ ap (start_at ucd text) is

    body-is : own ≡ body
    body-is = own-is ∙ ap (body_at ucd text) is

    pub unit-is : (stop : ℕ) → stop ≡ unit_stop own (place - first) → (place, first + stop) ≡ unit_at ucd text place
    unit-is stop e =
        ap (λ m. (place, first + m)) (e ∙ ap (λ b. unit_stop b (place - first)) body-is)
        ∙ ap (λ m. (place, m + unit_stop body (place - m))) first-is

    -- at the body's end, and behind it
    pub unit-past : first ≤ place → length own ≤ place - first → (place, place) ≡ unit_at ucd text place
    unit-past order past =
        let utf8-own = subst IsUtf8 (sym body-is) (body-utf8 ucd text number (falls-at ucd text place number utf8 refl).within utf8) in
        let whole : place ≡ first + (place - first) = omega (arith, order) in
        ap (λ m. (place, m)) whole ∙ unit-is (place - first) (sym (past-stop own utf8-own (place - first) past))

    pub stretch-is : (w : ℕ × ℕ) → w ≡ word_around ucd own (unit_start own (place - first)) → (first + w.0, first + w.1) ≡ stretch_at ucd text place
    stretch-is w e =
        ap (λ (v : ℕ × ℕ). (first + v.0, first + v.1)) (e ∙ ap (λ b. word_around ucd b (unit_start b (place - first))) body-is)
        ∙ ap (λ m. (m + (word_around ucd body (unit_start body (place - m))).0, m + (word_around ucd body (unit_start body (place - m))).1)) first-is

    pub own-short : first + length own ≤ length text
    own-short =
        let stop = start + length body in
        let range : IsRange text start stop = body-range ucd text number (falls-at ucd text place number utf8 refl).within utf8 in
        let bounds : IsCharBoundary text stop = range.stop_bounds in
        let short : stop ≤ length text = bounds.0 in
        omega (arith, short, first-is, ap length body-is)

  pub stretch-order : (stretch_at ucd text place).0 ≤ (stretch_at ucd text place).1
  stretch-order = let order = word-order ucd body (unit_start body (place - start)) in omega (arith, order)

  pub unit-order : place ≤ (unit_at ucd text place).1
  unit-order =
      let falls = falls-at ucd text place number utf8 refl in
      let order = stop-order body (place - start) in
      let low = falls.order in
      omega (arith, order, low)
