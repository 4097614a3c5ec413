-- The stops of a text, as a layout finds them in cached paragraphs.
use Rattle.std.proofs.Common.{◌≡◌, ℕ, ◌+◌, ◌-◌, ◌<◌, ◌≤◌, nat_le, nat_lt, cond, Bool, true, false, List, [], ◌∷◌, length, reverse, find, Option, Some, None}
use Rattle.std.proofs.Common.{unwrap_or, IsUtf8, IsCharBoundary, sym, ap, subst, ◌∙◌, arith}
use Rattle.std.specs.Prelude.{MatchOption}
use Rattle.bx_ucd.specs.Data.{Data}
use Rattle.bx_text.specs.Changes.{IsRange}
use Rattle.bx_text.specs.index.Paragraphs.{lengths, paragraph_of}
use Rattle.bx_view.specs.declared.moves.Logical.TheVariants.{Back, Forward}
use Rattle.bx_view.specs.Numbers.{body_at, count, start_at}
use Rattle.bx_view.specs.Words.{body_words, step_word}
use Rattle.bx_view.proofs.Numbers.{body-range, body-utf8, falls-at}
use Rattle.bx_view.proofs.Within.{Within, within-reverse}
use Rattle.bx_view.proofs.WordStops.{back-above, back-first, back-here, forward-here, forward-last, forward-next, next-begins, words-within}

found-at : (p : ℕ → Bool) (o d n : ℕ) (os : List ℕ) (b : Bool) → o ≤ n → unwrap_or (find p os) d ≤ n → unwrap_or (cond b (Some o) (find p os)) d ≤ n
found-at p o d n os true h rest = h
found-at p o d n os false h rest = rest

found-within : (p : ℕ → Bool) (d n : ℕ) → d ≤ n → (os : List ℕ) → Within (λ o. o ≤ n) os → unwrap_or (find p os) d ≤ n
found-within p d n h [] a = h
found-within p d n h (o ∷ os) a = found-at p o d n os (p o) a.0 (found-within p d n h os a.1)

abbrev pub first-stop : Data → (ℕ → Bool) → List ℕ → ℕ
first-stop ucd p body = unwrap_or (find p (body_words ucd body)) (length body)

abbrev pub last-start : Data → ℕ → List ℕ → ℕ
last-start ucd offset body = unwrap_or (find (λ o. nat_lt o offset) (reverse (body_words ucd body))) 0

-- a paragraph begins before the next one
pub start-order : (ucd : Data) (text : List ℕ) (n m place : ℕ) → n ≡ m + 1 → n < count ucd text → start_at ucd text n ≤ place
    → start_at ucd text m ≤ place
start-order ucd text n m place more within h =
    omega (arith, h, ap (start_at ucd text) more, next-begins ucd text m (omega (arith, more, within)))

-- a paragraph `n` that begins at the offset `start`
module _ (ucd : Data) (text : List ℕ) (utf8 : IsUtf8 text) (n start : ℕ) (begins : start ≡ start_at ucd text n) (body : List ℕ)
    (same : body ≡ body_at ucd text n) where
  inside : n < count ucd text → start + length body ≤ length text
  inside within =
      let stop = start_at ucd text n + length (body_at ucd text n) in
      let range : IsRange text (start_at ucd text n) stop = body-range ucd text n within utf8 in
      let bounds : IsCharBoundary text stop = range.stop_bounds in
      let short : stop ≤ length text = bounds.0 in
      omega (arith, short, begins, ap length same)

  own-utf8 : n < count ucd text → IsUtf8 body
  own-utf8 within = subst IsUtf8 (sym same) (body-utf8 ucd text n within utf8)

  pub stop-short : (p : ℕ → Bool) (stop : ℕ) → n < count ucd text → stop ≡ first-stop ucd p body → start + stop ≤ length text
  stop-short p stop within e =
      let few = found-within p (length body) (length body) (omega arith) (body_words ucd body) (words-within ucd body (own-utf8 within)) in
      omega (arith, few, e, inside within)

  pub start-short : (offset stop : ℕ) → n < count ucd text → stop ≡ last-start ucd offset body → start + stop ≤ length text
  start-short offset stop within e =
      let os = body_words ucd body in
      let few = found-within (λ o. nat_lt o offset) 0 (length body) (omega arith) (reverse os)
      (within-reverse (λ o. o ≤ length body) os (words-within ucd body (own-utf8 within))) in
      omega (arith, few, e, inside within)

  -- its first stop by a test, and its last start before an offset
  pub stop-there : (p : ℕ → Bool) (stop : ℕ) → stop ≡ first-stop ucd p body → start + stop ≡ start_at ucd text n + first-stop ucd p (body_at ucd text n)
  stop-there p stop e =
      ap (λ s. s + stop) begins ∙ ap (λ k. start_at ucd text n + k) (e ∙ ap (first-stop ucd p) same)

  pub start-there : (place stop : ℕ) → stop ≡ last-start ucd (place - start) body
      → start + stop ≡ start_at ucd text n + last-start ucd (place - start_at ucd text n) (body_at ucd text n)
  start-there place stop e =
      ap (λ s. s + stop) begins
      ∙ ap (λ k. start_at ucd text n + k) (e ∙ ap (λ s. last-start ucd (place - s) body) begins
      ∙ ap (last-start ucd (place - start_at ucd text n)) same)

  -- the paragraph that an offset falls in
  module _ (place : ℕ) (e : n ≡ paragraph_of (lengths ucd text) place) where
    pub under : n < count ucd text
    under = (falls-at ucd text place n utf8 e).within

    pub forward-stop : (stop : ℕ) → place - start < length body → stop ≡ first-stop ucd (nat_lt (place - start)) body
        → start + stop ≡ step_word ucd text Forward place
    forward-stop stop h is =
        stop-there (nat_lt (place - start)) stop is
        ∙ ap (λ s. start_at ucd text n + first-stop ucd (nat_lt (place - s)) (body_at ucd text n)) begins
        ∙ forward-here ucd text utf8 place n e (omega (arith, h, begins, ap length same))

    pub back-stop : (stop : ℕ) → start < place → stop ≡ last-start ucd (place - start) body → start + stop ≡ step_word ucd text Back place
    back-stop stop h is = start-there place stop is ∙ back-here ucd text utf8 place n e (omega (arith, h, begins))

    -- none in the paragraph: the answer for the next one, or for the previous one
    pub stop-below : length body ≤ place - start → (found : Option ℕ)
        → MatchOption found (n + 1 ≡ count ucd text)
        (λ o. (n + 1 < count ucd text) × (o ≡ start_at ucd text (n + 1) + first-stop ucd (nat_le 0) (body_at ucd text (n + 1))))
        → unwrap_or found place ≡ step_word ucd text Forward place
    stop-below h None is = forward-last ucd text utf8 place n e (omega (arith, h, begins, ap length same)) is
    stop-below h (Some o) is = is.1 ∙ forward-next ucd text utf8 place n e (omega (arith, h, begins, ap length same)) is.0

    pub stop-above : place ≤ start → (found : Option ℕ)
        → MatchOption found (n ≡ 0)
        (λ o. (0 < n) × (o ≡ start_at ucd text (n - 1) + last-start ucd (place - start_at ucd text (n - 1)) (body_at ucd text (n - 1))))
        → unwrap_or found place ≡ step_word ucd text Back place
    stop-above h None is = back-first ucd text utf8 place n e (omega (arith, h, begins)) is
    stop-above h (Some o) is =
        let more : n ≡ n - 1 + 1 = omega (arith, is.0) in
        is.1 ∙ back-above ucd text utf8 place n e (omega (arith, h, begins)) (n - 1) more
