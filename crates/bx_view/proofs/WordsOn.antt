-- A step by a word leads to the next stop, and stays only at the text's end, or at its start.
use Rattle.std.proofs.Common.{◌≡◌, ℕ, zero, suc, ◌+◌, ◌-◌, ◌<◌, ◌≤◌, nat_lt, cond, Bool, true, false, List, [], ◌∷◌, ◌++◌, map, length, take, drop, reverse, find}
use Rattle.std.proofs.Common.{Option, Some, None, unwrap_or, IsUtf8, refl, sym, ap, subst, ◌∙◌, arith, ⊎_elim, length-append, chars}
use Rattle.std.proofs.lemmas.Bool.{cases_lt}
use Rattle.std.proofs.lemmas.Bool.Decides.{nat_tests}
use Rattle.std.proofs.lemmas.List.{drop_all}
use Rattle.bx_ucd.specs.Data.{Data}
use Rattle.bx_text.specs.index.Paragraphs.{Paragraph, lengths, lengths_of, paragraphs, paragraph_of, total}
use Rattle.bx_view.specs.declared.moves.Logical.{Logical}
use Rattle.bx_view.specs.declared.moves.Logical.TheVariants.{Back, Forward}
use Rattle.bx_view.specs.Laws.{IsGreatestBefore, IsLeastBehind, WordsGoOn}
use Rattle.bx_view.specs.Numbers.{body_at, count, paragraph_at, start_at}
use Rattle.bx_view.specs.Words.{body_words, step_word, text_stops}
use Rattle.bx_view.proofs.Numbers.{bytes-append, bytes-length, falls-at, parts-at, start-is}
use Rattle.bx_view.proofs.Parts.{bytes, text-bytes, text-parts}
use Rattle.bx_view.proofs.TextPlaces.{LastIsBare, last-bare}
use Rattle.bx_view.proofs.NextStops.{Ascends, first-is-least, last-is-greatest, stops-ascend}
use Rattle.bx_view.proofs.WordParts.{none-found, within-weaker}
use Rattle.bx_view.proofs.WordStops.{back-above, back-here, begins-before, forward-here, forward-next, from-upto, next-past}

-- ---- what a search finds

past-at : (offset o len : ℕ) (os : List ℕ) (b : Bool) → nat_lt offset o ≡ b → offset < unwrap_or (find (nat_lt offset) os) len
    → offset < unwrap_or (cond b (Some o) (find (nat_lt offset) os)) len
past-at offset o len os true e rest = let past : offset < o = grind (arith, nat_tests) in past
past-at offset o len os false e rest = rest

found-past : (offset len : ℕ) → offset < len → (os : List ℕ) → offset < unwrap_or (find (nat_lt offset) os) len
found-past offset len h [] = h
found-past offset len h (o ∷ os) = past-at offset o len os (nat_lt offset o) refl (found-past offset len h os)

before-at : (offset o : ℕ) (os : List ℕ) (b : Bool) → nat_lt o offset ≡ b → unwrap_or (find (λ o. nat_lt o offset) os) 0 < offset
    → unwrap_or (cond b (Some o) (find (λ o. nat_lt o offset) os)) 0 < offset
before-at offset o os true e rest = let before : o < offset = grind (arith, nat_tests) in before
before-at offset o os false e rest = rest

found-before : (offset : ℕ) → 0 < offset → (os : List ℕ) → unwrap_or (find (λ o. nat_lt o offset) os) 0 < offset
found-before offset h [] = h
found-before offset h (o ∷ os) = before-at offset o os (nat_lt o offset) refl (found-before offset h os)

pub found-if-past : (place : ℕ) (x : Option ℕ) → place < unwrap_or x place → (n : ℕ) × (x ≡ Some n)
found-if-past place None h = absurd (omega (arith, h))
found-if-past place (Some n) h = (n, refl)

pub found-if-ahead : (place : ℕ) (x : Option ℕ) → unwrap_or x place < place → (n : ℕ) × (x ≡ Some n)
found-if-ahead place None h = absurd (omega (arith, h))
found-if-ahead place (Some n) h = (n, refl)

pub none-below-0 : (os : List ℕ) → unwrap_or (find (λ p. nat_lt p 0) os) 0 ≡ 0
none-below-0 [] = refl
none-below-0 (o ∷ os) =
    let no : nat_lt o 0 ≡ false = grind (arith, nat_tests) in
    ap (λ b. unwrap_or (cond b (Some o) (find (λ p. nat_lt p 0) os)) 0) no ∙ none-below-0 os

-- ---- the last paragraph ends with the text

bare-last : (ps : List Paragraph) (p : Paragraph) → LastIsBare (ps ++ p ∷ []) → p.separator ≡ []
bare-last [] p h = h
bare-last (q ∷ []) p h = h
bare-last (q ∷ r ∷ ps) p h = bare-last (r ∷ ps) p h

module _ (ucd : Data) (text : List ℕ) (utf8 : IsUtf8 text) where
  last-ends : (n : ℕ) → n < count ucd text → n + 1 ≡ count ucd text → start_at ucd text n + length (body_at ucd text n) ≡ length text
  last-ends n within last =
      let all = paragraphs ucd text in
      let p = paragraph_at ucd text n in
      let none : drop (n + 1) all ≡ [] = drop_all (n + 1) all (omega (arith, last)) in
      let parts : all ≡ take n all ++ p ∷ [] = parts-at ucd text n within ∙ ap (λ ps. take n all ++ p ∷ ps) none in
      let bare = bare-last (take n all) p (subst LastIsBare parts (last-bare ucd (chars text))) in
      let whole : text ≡ bytes (take n all) ++ ((p.body ++ p.separator) ++ []) =
      sym (text-bytes ucd text utf8) ∙ ap bytes parts ∙ bytes-append (take n all) (p ∷ []) in
      omega (
        arith,
        ap length whole,
        length-append (bytes (take n all)) ((p.body ++ p.separator) ++ []),
        length-append (p.body ++ p.separator) [],
        length-append p.body p.separator,
        ap length bare,
        bytes-length (take n all),
        start-is ucd text n,
      )

  module _ (place : ℕ) where
    abbrev n : ℕ
    n = paragraph_of (lengths ucd text) place

    abbrev start : ℕ
    start = start_at ucd text n

    abbrev body : List ℕ
    body = body_at ucd text n

    order : start ≤ place
    order = (falls-at ucd text place n utf8 refl).order

    within : n < count ucd text
    within = (falls-at ucd text place n utf8 refl).within

    on-here : place - start < length body → place < step_word ucd text Forward place
    on-here h =
        let far = found-past (place - start) (length body) h (body_words ucd body) in
        omega (arith, far, order, forward-here ucd text utf8 place n refl h)

    on-next : length body ≤ place - start → n + 1 < count ucd text → place < step_word ucd text Forward place
    on-next h more =
        let past = next-past ucd text utf8 place n refl more in omega (arith, past, forward-next ucd text utf8 place n refl h more)

    forward : place < length text → place < step_word ucd text Forward place
    forward h = ⊎_elim (λ here. on-here here)
        (λ past. ⊎_elim (λ more. on-next past more)
        (λ last. let close : n + 1 ≡ count ucd text = omega (arith, last, within) in absurd (omega (arith, last-ends n within close, past, h, order)))
        (cases_lt (n + 1) (count ucd text))) (cases_lt (place - start) (length body))

    back-at : (k : ℕ) → n ≡ k → 0 < place → place ≤ start → step_word ucd text Back place < place
    back-at zero e h first = let none : start ≡ 0 = ap (start_at ucd text) e in absurd (omega (arith, none, h, first))
    back-at (suc m) e h first =
        let more : n ≡ m + 1 = omega (arith, e) in
        let below = begins-before ucd text utf8 place n refl first m more in
        let near = found-before (place - start_at ucd text m) (omega (arith, below)) (reverse (body_words ucd (body_at ucd text m))) in
        omega (arith, near, below, back-above ucd text utf8 place n refl first m more)

    back : 0 < place → step_word ucd text Back place < place
    back h = ⊎_elim
        (λ past.
        let near = found-before (place - start) (omega (arith, past)) (reverse (body_words ucd body)) in
        omega (arith, near, order, back-here ucd text utf8 place n refl past))
        (λ first. back-at n refl h first) (cases_lt start place)

  stops : (way : Logical) → Ascends (text_stops ucd way text)
  stops way = stops-ascend ucd way 0 (paragraphs ucd text) (text-parts ucd text utf8).utf8

  next-stop : (place : ℕ) → place < length text → IsLeastBehind (text_stops ucd Forward text) place (step_word ucd text Forward place)
  next-stop place h =
      let os = text_stops ucd Forward text in
      let (n, found) = found-if-past place (find (nat_lt place) os) (forward place h) in
      subst (IsLeastBehind os place) (sym (ap (λ x. unwrap_or x place) found)) (first-is-least place os (stops Forward) n found)

  previous-stop : (place : ℕ) → 0 < place → IsGreatestBefore (text_stops ucd Back text) place (step_word ucd text Back place)
  previous-stop place h =
      let os = text_stops ucd Back text in
      let (n, found) = found-if-ahead place (find (λ p. nat_lt p place) (reverse os)) (back place h) in
      subst (IsGreatestBefore os place) (sym (ap (λ x. unwrap_or x place) found)) (last-is-greatest place os (stops Back) n found)

  stays-at-end : (place : ℕ) → length text ≤ place → step_word ucd text Forward place ≡ place
  stays-at-end place h =
      let ps = paragraphs ucd text in
      let all : total (map lengths_of ps) ≡ length text = sym (bytes-length ps) ∙ ap length (text-bytes ucd text utf8) in
      let upto = from-upto ucd Forward 0 ps (text-parts ucd text utf8).utf8 in
      let none = within-weaker (λ o. o ≤ 0 + total (map lengths_of ps)) (λ o. nat_lt place o ≡ false)
      (λ o below. let upper : o ≤ place = omega (arith, below, all, h) in grind (arith, nat_tests)) (text_stops ucd Forward text) upto in
      ap (λ x. unwrap_or x place) (none-found (nat_lt place) (text_stops ucd Forward text) none)

  stays-at-start : step_word ucd text Back 0 ≡ 0
  stays-at-start = none-below-0 (reverse (text_stops ucd Back text))

  pub words-go-on : WordsGoOn ucd text (step_word ucd text)
  words-go-on = record { forward = next-stop; back = previous-stop; at_end = stays-at-end; at_start = stays-at-start }
