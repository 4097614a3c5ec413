-- The place with given numbers, and back from the numbers of a place.
use Rattle.std.proofs.Common.{◌≡◌, ◌⊎◌, ℕ, zero, suc, ◌+◌, ◌-◌, ◌<◌, ◌≤◌, min, nat_lt, cond, true, false, List, [], ◌∷◌, ◌++◌, map, length, get_or}
use Rattle.std.proofs.Common.{append_assoc, chars, count_by, IsUtf8, refl, sym, ap, ap₂, subst, ◌∙◌, ⊎_elim, inl, inr, arith, length-append}
use Rattle.std.specs.Prelude.{flat_map, Contains}
use Rattle.std.specs.List.{concat}
use Rattle.std.proofs.lemmas.Bool.{cases_lt}
use Rattle.std.proofs.lemmas.Bool.Decides.{nat_tests}
use Rattle.std.proofs.lemmas.Grind.{flat_map-append}
use Rattle.std.proofs.lemmas.List.{get_or_past, get_or-map}
use Rattle.std.proofs.lemmas.List.Concat.{flat_map-cons}
use Rattle.std.proofs.lemmas.List.Elements.{Contains-append_cases, Contains-append_left, Contains-append_right, Contains-get_or}
use Rattle.std.proofs.lemmas.List.Sums.{sum_by-cons}
use Rattle.std.proofs.lemmas.Option.{get_or_from_slice_get}
use Rattle.bx_ucd.specs.Data.{Data}
use Rattle.unicode_segmentation.specs.Grapheme.{graphemes, is_grapheme_break}
use Rattle.unicode_segmentation.specs.Segments.{with_offsets}
use Rattle.unicode_segmentation.proofs.SegmentsLemmas.{AllPieces, concat-segments, segments_nonempty}
use Rattle.bx_common.specs.declared.base.Base.{Base}
use Rattle.bx_text.specs.index.Paragraphs.{Paragraph, bare, lengths, lengths_of, paragraphs, bytes_of, paragraph_of, spans}
use Rattle.bx_text.proofs.index_lemmas.Asked.{span_at}
use Rattle.bx_view.specs.Laws.{LeadBack, LeadToPlaces}
use Rattle.bx_view.specs.Numbers.{unit_place, unit_number, units_before, body_at, count, start_at, boundaries}
use Rattle.bx_view.specs.Places.{IsTextPlace, one_piece, pieces_of, text_places}
use Rattle.bx_view.specs.TextRows.{text_rows}
use Rattle.bx_view.proofs.Numbers.{ahead, behind, bytes-length, body-utf8, falls-at, here, lengths-count, parts-at, some-paragraph, start-is}
use Rattle.bx_view.proofs.Parts.{AreUtf8, text-parts}
use Rattle.bx_view.proofs.RowsAround.{EndsBefore, ahead-utf8}
use Rattle.bx_view.proofs.TextPlaces.{LastIsBare, end-in, last-bare, pieces-bytes, start-in}

-- ---- boundaries of pieces, and of more pieces after them

one-at : (x v k : ℕ) → k < 1 → get_or (x ∷ []) k v ≡ v → x ≡ v
one-at x v zero h e = e
one-at x v (suc k) h e = absurd (omega (arith, h))

the-one : (x v : ℕ) → Contains (x ∷ []) v → x ≡ v
the-one x v c = one-at x v c.0 c.1 c.2

bounds-front : (start : ℕ) (gs hs : List (List ℕ)) (x : ℕ) → Contains (boundaries start gs) x → Contains (boundaries start (gs ++ hs)) x
bounds-front start [] hs x c = subst (Contains (boundaries start hs)) (the-one start x c) (start-in start hs)
bounds-front start (g ∷ gs) hs x c =
    let next = start + length g in ⊎_elim (λ first. Contains-append_left (start ∷ []) (boundaries next (gs ++ hs)) x first)
    (λ later. Contains-append_right (start ∷ []) (boundaries next (gs ++ hs)) x (bounds-front next gs hs x later))
    (Contains-append_cases (start ∷ []) (boundaries next gs) x c)

bounds-back : (start : ℕ) (gs hs : List (List ℕ)) (x : ℕ) → Contains (boundaries (start + length (concat gs)) hs) x
    → Contains (boundaries start (gs ++ hs)) x
bounds-back start [] hs x c = let none : start + 0 ≡ start = omega arith in subst (λ n. Contains (boundaries n hs) x) none c
bounds-back start (g ∷ gs) hs x c =
    let next = start + length g in
    let size : start + length (concat (g ∷ gs)) ≡ next + length (concat gs) = omega (arith, length-append g (concat gs)) in
    Contains-append_right (start ∷ []) (boundaries next (gs ++ hs)) x (bounds-back next gs hs x (subst (λ n. Contains (boundaries n hs) x) size c))

bounds-cases : (start : ℕ) (gs hs : List (List ℕ)) (x : ℕ) → Contains (boundaries start (gs ++ hs)) x
    → Contains (boundaries start gs) x ⊎ Contains (boundaries (start + length (concat gs)) hs) x
bounds-cases start [] hs x c = let none : start ≡ start + 0 = omega arith in inr (subst (λ n. Contains (boundaries n hs) x) none c)
bounds-cases start (g ∷ gs) hs x c =
    let next = start + length g in
    let size : next + length (concat gs) ≡ start + length (concat (g ∷ gs)) = omega (arith, length-append g (concat gs)) in
    ⊎_elim (λ first. inl (Contains-append_left (start ∷ []) (boundaries next gs) x first))
    (λ later. ⊎_elim (λ mine. inl (Contains-append_right (start ∷ []) (boundaries next gs) x mine))
    (λ other. inr (subst (λ n. Contains (boundaries n hs) x) size other)) (bounds-cases next gs hs x later))
    (Contains-append_cases (start ∷ []) (boundaries next (gs ++ hs)) x c)

bounds-from : (start : ℕ) (gs : List (List ℕ)) (x : ℕ) → Contains (boundaries start gs) x → start ≤ x
bounds-from start [] x c = omega (arith, the-one start x c)
bounds-from start (g ∷ gs) x c =
    let next = start + length g in ⊎_elim (λ first. omega (arith, the-one start x first)) (λ later. omega (arith, bounds-from next gs x later))
    (Contains-append_cases (start ∷ []) (boundaries next gs) x c)

bounds-upto : (start : ℕ) (gs : List (List ℕ)) (x : ℕ) → Contains (boundaries start gs) x → x ≤ start + length (concat gs)
bounds-upto start [] x c = omega (arith, the-one start x c)
bounds-upto start (g ∷ gs) x c =
    let next = start + length g in
    let size = length-append g (concat gs) in
    ⊎_elim (λ first. omega (arith, the-one start x first)) (λ later. omega (arith, bounds-upto next gs x later, size))
    (Contains-append_cases (start ∷ []) (boundaries next gs) x c)

-- ---- the number of a place among the units

lt-true : (a b : ℕ) → a < b → nat_lt a b ≡ true
lt-true a b h = grind (arith, nat_tests)

lt-false : (a b : ℕ) → b ≤ a → nat_lt a b ≡ false
lt-false a b h = grind (arith, nat_tests)

module _ (base place : ℕ) where
  abbrev sooner : List (ℕ × List ℕ) → ℕ
  sooner us = count_by (λ (at, _). nat_lt (base + at) place) us

  abbrev from : ℕ → List (List ℕ) → List (ℕ × List ℕ)
  from at gs = with_offsets at gs

  sooner-cons : (at : ℕ) (g : List ℕ) (us : List (ℕ × List ℕ)) → sooner ((at, g) ∷ us) ≡ cond (nat_lt (base + at) place) 1 0 + sooner us
  sooner-cons at g us = sum_by-cons (λ (v, _). cond (nat_lt (base + v) place) 1 0) (at, g) us

  none-sooner : (at : ℕ) (gs : List (List ℕ)) → place ≤ base + at → sooner (from at gs) ≡ 0
  unfolding with_offsets
  none-sooner at [] h = refl
  none-sooner at (g ∷ gs) h =
      let rest : sooner (from (at + length g) gs) ≡ 0 = none-sooner (at + length g) gs (omega (arith, h)) in
      sooner-cons at g (from (at + length g) gs)
      ∙ ap (λ b. cond b 1 0 + sooner (from (at + length g) gs)) (lt-false (base + at) place h) ∙ omega (arith, rest)

  one-sooner : (at : ℕ) (g : List ℕ) (gs : List (List ℕ)) → base + at < place → sooner (from at (g ∷ gs)) ≡ suc (sooner (from (at + length g) gs))
  unfolding with_offsets
  one-sooner at g gs h =
      let more = sooner (from (at + length g) gs) in
      let sum : 1 + more ≡ suc more = omega arith in
      sooner-cons at g (from (at + length g) gs) ∙ ap (λ b. cond b 1 0 + more) (lt-true (base + at) place h) ∙ sum

  -- a boundary stands among them at the number of units before it
  at-number : (at d : ℕ) (gs : List (List ℕ)) → AllPieces (λ p. 0 < length p) gs → Contains (boundaries (base + at) gs) place
      → get_or (boundaries (base + at) gs) (sooner (from at gs)) d ≡ place
  unfolding with_offsets
  at-number at d [] all c = the-one (base + at) place c
  at-number at d (g ∷ gs) all c =
      let next : base + at + length g ≡ base + (at + length g) = omega arith in
      let os = boundaries (base + at + length g) gs in
      ⊎_elim
      (λ first.
      let same = the-one (base + at) place first in
      ap (λ k. get_or ((base + at) ∷ os) k d) (none-sooner at (g ∷ gs) (omega (arith, same))) ∙ same)
      (λ later.
      let there : Contains (boundaries (base + (at + length g)) gs) place = subst (λ n. Contains (boundaries n gs) place) next later in
      let low = bounds-from (base + (at + length g)) gs place there in
      ap (λ k. get_or ((base + at) ∷ os) k d) (one-sooner at g gs (omega (arith, low, all.0)))
      ∙ ap (λ n. get_or (boundaries n gs) (sooner (from (at + length g) gs)) d) next
      ∙ at-number (at + length g) d gs all.1 there)
      (Contains-append_cases ((base + at) ∷ []) os place c)

-- ---- a paragraph among the others

bare-later : (xs : List Paragraph) (p : Paragraph) (ps : List Paragraph) → LastIsBare (xs ++ p ∷ ps) → LastIsBare (p ∷ ps)
bare-later [] p ps h = h
bare-later (x ∷ []) p ps h = h
bare-later (x ∷ y ∷ xs) p ps h = bare-later (y ∷ xs) p ps h

-- no place before the next paragraph lies after the body's end
tail-place : (stop place : ℕ) (body separator : List ℕ) (ps : List Paragraph) → LastIsBare (record { body = body; separator = separator } ∷ ps)
    → EndsBefore ps place (stop + length separator) → Contains (boundaries stop (one_piece separator ++ flat_map pieces_of ps)) place → place ≡ stop
tail-place stop place body [] [] bare ended c = sym (the-one stop place c)
tail-place stop place body (b ∷ bs) [] bare ended c = absurd (cc)
tail-place stop place body [] (q ∷ qs) bare ended c = absurd (omega (arith, ended, bounds-from stop (flat_map pieces_of (q ∷ qs)) place c))
tail-place stop place body (b ∷ bs) (q ∷ qs) bare ended c =
    let next = stop + length (b ∷ bs) in
    let more = flat_map pieces_of (q ∷ qs) in
    ⊎_elim (λ first. sym (the-one stop place first)) (λ later. absurd (omega (arith, ended, bounds-from next more place later)))
    (Contains-append_cases (stop ∷ []) (boundaries next more) place c)

module _ (ucd : Data) (text : List ℕ) (utf8 : IsUtf8 text) (n : ℕ) (within : n < count ucd text) where
  abbrev start : ℕ
  start = start_at ucd text n

  abbrev body : List ℕ
  body = body_at ucd text n

  abbrev gs : List (List ℕ)
  gs = graphemes true body

  abbrev front : List (List ℕ)
  front = flat_map pieces_of (ahead ucd text n within)

  abbrev rest : List (List ℕ)
  rest = one_piece (here ucd text n within).separator ++ flat_map pieces_of (behind ucd text n within)

  split : text_places ucd text ≡ boundaries 0 (front ++ (gs ++ rest))
  split =
      let p = here ucd text n within in
      let ps = behind ucd text n within in
      ap (λ qs. boundaries 0 (flat_map pieces_of qs)) (parts-at ucd text n within)
      ∙ ap (boundaries 0) (flat_map-append pieces_of (ahead ucd text n within) (p ∷ ps)
      ∙ ap (λ xs. front ++ xs) (flat_map-cons pieces_of p ps ∙ append_assoc gs (one_piece p.separator) (flat_map pieces_of ps)))

  front-size : 0 + length (concat front) ≡ start
  front-size =
      let u = ahead-utf8 (ahead ucd text n within) (here ucd text n within ∷ behind ucd text n within)
      (subst AreUtf8 (parts-at ucd text n within) (text-parts ucd text utf8).utf8) in
      omega (arith, ap length (pieces-bytes (ahead ucd text n within) u), bytes-length (ahead ucd text n within), start-is ucd text n)

  body-size : length (concat gs) ≡ length body
  body-size = ap length (concat-segments (is_grapheme_break true) body (body-utf8 ucd text n within utf8))

  -- a boundary of the body's clusters is a place of the text
  pub body-place : (x : ℕ) → Contains (boundaries start gs) x → IsTextPlace ucd text x
  body-place x c =
      subst (λ os. Contains os x) (sym split) (bounds-back 0 front (gs ++ rest) x
      (subst (λ s. Contains (boundaries s (gs ++ rest)) x) (sym front-size) (bounds-front start gs rest x c)))

  pub unit-place : (unit : ℕ) → IsTextPlace ucd text (unit_place start body unit)
  unit-place unit =
      let os = boundaries start gs in
      let last : Contains os (start + length body) = subst (λ k. Contains os (start + k)) body-size (end-in start gs) in
      body-place (unit_place start body unit) (⊎_elim (λ few. Contains-get_or os unit (start + length body) few)
      (λ past. subst (Contains os) (sym (get_or_past os unit (start + length body) past)) last) (cases_lt unit (length os)))

  -- and each place that falls in the paragraph is such a boundary
  pub place-in-body : (place : ℕ) → IsTextPlace ucd text place → start ≤ place
      → EndsBefore (behind ucd text n within) place (start + bytes_of (lengths_of (here ucd text n within))) → Contains (boundaries start gs) place
  place-in-body place c low high =
      let p = here ucd text n within in
      let ps = behind ucd text n within in
      let last : LastIsBare (p ∷ ps) = bare-later (ahead ucd text n within) p ps (subst LastIsBare (parts-at ucd text n within) (last-bare ucd (chars text))) in
      let size : start + bytes_of (lengths_of p) ≡ start + length body + length p.separator = omega arith in
      ⊎_elim
      (λ sooner. subst (Contains (boundaries start gs)) (let upto = bounds-upto 0 front place sooner in omega (arith, low, upto, front-size)) (start-in start gs))
      (λ mine. ⊎_elim (λ inside. inside)
      (λ tail.
      let behind-body : Contains (boundaries (start + length body) rest) place = subst (λ k. Contains (boundaries (start + k) rest) place) body-size tail in
      let stop = tail-place (start + length body) place p.body p.separator ps last (subst (EndsBefore ps place) size high) behind-body in
      subst (Contains (boundaries start gs)) (sym stop) (subst (λ k. Contains (boundaries start gs) (start + k)) body-size (end-in start gs)))
      (bounds-cases start gs rest place (subst (λ s. Contains (boundaries s (gs ++ rest)) place) front-size mine)))
      (bounds-cases 0 front (gs ++ rest) place (subst (λ os. Contains os place) split c))

-- ---- the laws

pub lead-to-places : (ucd : Data) (text : List ℕ) → IsUtf8 text → LeadToPlaces ucd text
lead-to-places ucd text utf8 paragraph unit =
    let some = some-paragraph ucd text utf8 in
    let n = min (paragraph - 1) (count ucd text - 1) in unit-place ucd text utf8 n (omega (arith, some)) (unit - 1)

-- the units before a place in its paragraph
units-ahead : (ucd : Data) (text : List ℕ) (place n : ℕ) → n < count ucd text → n ≡ paragraph_of (lengths ucd text) place
    → unit_number ucd text place ≡ units_before (start_at ucd text n) place (body_at ucd text n) + 1
units-ahead ucd text place n within e =
    let ls = lengths ucd text in
    let found = span_at 0 n ls (lengths_of (bare [])) (omega (arith, within, lengths-count ucd text)) in
    let begins : (get_or (spans ls) n (0, 0)).0 ≡ start_at ucd text n =
    ap (λ (x : ℕ × ℕ). x.0) (get_or_from_slice_get (spans ls) n _ (0, 0) found) ∙ omega arith in
    let body : get_or (map (λ p. p.body) (paragraphs ucd text)) n [] ≡ body_at ucd text n =
    get_or-map (λ p. p.body) (paragraphs ucd text) n (bare []) [] within in
    ap (λ k. units_before (get_or (spans ls) k (0, 0)).0 place (get_or (map (λ p. p.body) (paragraphs ucd text)) k []) + 1) (sym e)
    ∙ ap₂ (λ a b. units_before a place b + 1) begins body

pub lead-back : (ucd : Data) (base : Base) (w : ℕ) (text : List ℕ) → IsUtf8 text → LeadBack ucd text w (text_rows ucd base w text)
lead-back ucd base w text utf8 place p c is =
    let n = paragraph_of (lengths ucd text) place in
    let falls = falls-at ucd text place n utf8 refl in
    let within = falls.within in
    let start = start_at ucd text n in
    let body = body_at ucd text n in
    let gs = graphemes true body in
    let here : start ≡ start + 0 = omega arith in
    let inside = place-in-body ucd text utf8 n within place c falls.order falls.ended in
    let number : min (p.paragraph - 1) (count ucd text - 1) ≡ n = omega (arith, is.paragraph, within) in
    let ahead : p.unit - 1 ≡ units_before start place body = omega (arith, is.unit, units-ahead ucd text place n within refl) in
    ap₂ (λ k u. unit_place (start_at ucd text k) (body_at ucd text k) u) number ahead
    ∙ ap (λ s. get_or (boundaries s gs) (units_before start place body) (start + length body)) here
    ∙ at-number start place 0 (start + length body) gs (segments_nonempty (is_grapheme_break true) body)
    (subst (λ s. Contains (boundaries s gs) place) here inside)
