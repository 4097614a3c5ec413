-- The nearest stop of a text is in the paragraph of an offset, or in the next or the previous one.
use Rattle.std.proofs.Common.{◌≡◌, ℕ, ◌+◌, ◌-◌, ◌<◌, ◌≤◌, nat_le, nat_lt, cond, Bool, true, false, List, [], ◌∷◌, ◌++◌, map, length, take, drop, reverse, find}
use Rattle.std.proofs.Common.{Option, Some, None, option_map, unwrap_or, IsUtf8, refl, sym, ap, subst, ◌∙◌, arith, append-nil, append_assoc, length-append}
use Rattle.std.specs.List.{concat}
use Rattle.std.specs.Option.{option_or}
use Rattle.std.proofs.lemmas.Bool.Decides.{nat_tests}
use Rattle.std.proofs.lemmas.List.{drop_all, drop_more, get_or-map, reverse-append, take_more}
use Rattle.std.proofs.lemmas.List.Folds.{find-append}
use Rattle.unicode_segmentation.specs.Grapheme.{graphemes, is_grapheme_break}
use Rattle.unicode_segmentation.proofs.SegmentsLemmas.{concat-segments}
use Rattle.bx_ucd.specs.Data.{Data}
use Rattle.bx_text.specs.declared.index.lengths.Lengths.{Lengths}
use Rattle.bx_text.specs.index.Paragraphs.{Paragraph, bare, lengths, lengths_of, paragraphs, bytes_of, paragraph_of, total}
use Rattle.bx_text.proofs.index_lemmas.Totals.{total_more}
use Rattle.bx_view.specs.declared.moves.Logical.{Logical}
use Rattle.bx_view.specs.declared.moves.Logical.TheVariants.{Back, Forward}
use Rattle.bx_view.specs.Numbers.{body_at, count, paragraph_at, start_at}
use Rattle.bx_view.specs.declared.moves.unit_kind.UnitKind.TheVariants.{Other}
use Rattle.bx_view.specs.Words.{body_stops, body_words, step_word, stops_from, text_stops}
use Rattle.bx_view.proofs.RowsAround.{AllEnded, EndsBefore, ahead-ended, ahead-utf8}
use Rattle.bx_view.proofs.FindPlaces.{moved-before, moved-behind}
use Rattle.bx_view.proofs.Numbers.{body-utf8, falls-at, lengths-count, parts-at, start-is}
use Rattle.bx_view.proofs.Parts.{AreEnded, AreUtf8, text-parts}
use Rattle.bx_view.proofs.Within.{Within, within-append, within-reverse}
use Rattle.bx_view.proofs.WordParts.{none-found, size, within-weaker, words-upto}

-- ---- offsets moved

pub moved-within : (P : ℕ → Type 0) (start : ℕ) (os : List ℕ) → Within (λ o. P (start + o)) os → Within P (map (λ o. start + o) os)
moved-within P start [] a = tt
moved-within P start (o ∷ os) a = (a.0, moved-within P start os a.1)

any-within : (P : ℕ → Type 0) → ((o : ℕ) → P o) → (os : List ℕ) → Within P os
any-within P each [] = tt
any-within P each (o ∷ os) = (each o, any-within P each os)

or-some : (x : Option ℕ) (o : ℕ) → option_or x (Some o) ≡ Some (unwrap_or x o)
or-some None o = refl
or-some (Some p) o = refl

-- ---- the stops of a body

size-concat : (us : List (List ℕ)) → size us ≡ length (concat us)
size-concat [] = refl
size-concat (u ∷ us) = omega (arith, size-concat us, length-append u (concat us))

pub words-within : (ucd : Data) (body : List ℕ) → IsUtf8 body → Within (λ o. o ≤ length body) (body_words ucd body)
words-within ucd body utf8 =
    let us = graphemes true body in
    let all : 0 + size us ≡ length body = omega (arith, size-concat us, ap length (concat-segments (is_grapheme_break true) body utf8)) in
    subst (λ n. Within (λ o. o ≤ n) (body_words ucd body)) all (words-upto ucd Other Other 0 us)

pub stops-within : (ucd : Data) (way : Logical) (body : List ℕ) → IsUtf8 body → Within (λ o. o ≤ length body) (body_stops ucd way body)
stops-within ucd Forward body utf8 =
    within-append (λ o. o ≤ length body) (body_words ucd body) (length body ∷ []) (words-within ucd body utf8) (omega arith, tt)
stops-within ucd Back body utf8 = (omega arith, words-within ucd body utf8)

-- ---- the stops of paragraphs

module _ (ucd : Data) (way : Logical) where
  abbrev from : ℕ → List Paragraph → List ℕ
  from start ps = stops_from ucd way start ps

  abbrev own : ℕ → List ℕ → List ℕ
  own start body = map (λ o. start + o) (body_stops ucd way body)

  from-append : (start : ℕ) (ps qs : List Paragraph) → from start (ps ++ qs) ≡ from start ps ++ from (start + total (map lengths_of ps)) qs
  from-append start [] qs = let none : start ≡ start + 0 = omega arith in ap (λ s. from s qs) none
  from-append start (p ∷ ps) qs =
      let here = own start p.body in
      let next = start + bytes_of (lengths_of p) in
      let sum : next + total (map lengths_of ps) ≡ start + total (map lengths_of (p ∷ ps)) = omega arith in
      ap (λ os. here ++ os) (from-append next ps qs) ∙ sym (append_assoc here (from next ps) (from (next + total (map lengths_of ps)) qs))
      ∙ ap (λ s. here ++ from next ps ++ from s qs) sum

  own-on : (start : ℕ) (body : List ℕ) → Within (λ o. start ≤ o) (own start body)
  own-on start body =
      moved-within (λ o. start ≤ o) start (body_stops ucd way body) (any-within (λ o. start ≤ start + o) (λ o. omega arith) (body_stops ucd way body))

  pub from-on : (start : ℕ) (ps : List Paragraph) → Within (λ o. start ≤ o) (from start ps)
  from-on start [] = tt
  from-on start (p ∷ ps) =
      within-append (λ o. start ≤ o) (own start p.body) (from (start + bytes_of (lengths_of p)) ps) (own-on start p.body)
      (within-weaker (λ o. start + bytes_of (lengths_of p) ≤ o) (λ o. start ≤ o) (λ o h. omega (arith, h)) (from (start + bytes_of (lengths_of p)) ps)
      (from-on (start + bytes_of (lengths_of p)) ps))

  pub own-upto : (start : ℕ) (body : List ℕ) → IsUtf8 body → Within (λ o. o ≤ start + length body) (own start body)
  own-upto start body utf8 =
      moved-within (λ o. o ≤ start + length body) start (body_stops ucd way body)
      (within-weaker (λ o. o ≤ length body) (λ o. start + o ≤ start + length body) (λ o h. omega (arith, h)) (body_stops ucd way body)
      (stops-within ucd way body utf8))

  pub from-upto : (start : ℕ) (ps : List Paragraph) → AreUtf8 ps → Within (λ o. o ≤ start + total (map lengths_of ps)) (from start ps)
  from-upto start [] u = tt
  from-upto start (p ∷ ps) u =
      let next = start + bytes_of (lengths_of p) in
      let all = start + total (map lengths_of (p ∷ ps)) in
      within-append (λ o. o ≤ all) (own start p.body) (from next ps)
      (within-weaker (λ o. o ≤ start + length p.body) (λ o. o ≤ all) (λ o h. omega (arith, h)) (own start p.body) (own-upto start p.body u.0.body))
      (within-weaker (λ o. o ≤ next + total (map lengths_of ps)) (λ o. o ≤ all) (λ o h. omega (arith, h)) (from next ps) (from-upto next ps u.1))

-- ---- searches in one body

module _ (offset : ℕ) (words : List ℕ) (len : ℕ) where
  -- before its end
  first-or-end : offset < len → find (nat_lt offset) (words ++ len ∷ []) ≡ Some (unwrap_or (find (nat_lt offset) words) len)
  first-or-end h =
      let end : nat_lt offset len ≡ true = grind (arith, nat_tests) in
      find-append (nat_lt offset) words (len ∷ []) ∙ ap (λ b. option_or (find (nat_lt offset) words) (cond b (Some len) None)) end
      ∙ or-some (find (nat_lt offset) words) len

  abbrev earlier : ℕ → Bool
  earlier o = nat_lt o offset

  -- past its start
  last-or-start : 0 < offset → find earlier (reverse (0 ∷ words)) ≡ Some (unwrap_or (find earlier (reverse words)) 0)
  last-or-start h =
      let start : nat_lt 0 offset ≡ true = grind (arith, nat_tests) in
      ap (find earlier) (reverse-append (0 ∷ []) words) ∙ find-append earlier (reverse words) (0 ∷ [])
      ∙ ap (λ b. option_or (find earlier (reverse words)) (cond b (Some 0) None)) start
      ∙ or-some (find earlier (reverse words)) 0

-- an offset before the body
first-of-body : (place start len : ℕ) → place < start → (words : List ℕ)
    → find (nat_lt place) (map (λ o. start + o) (words ++ len ∷ [])) ≡ Some (start + unwrap_or (find (nat_le 0) words) len)
first-of-body place start len h [] =
    let past : nat_lt place (start + len) ≡ true = grind (arith, nat_tests) in ap (λ b. cond b (Some (start + len)) None) past
first-of-body place start len h (o ∷ os) =
    let past : nat_lt place (start + o) ≡ true = grind (arith, nat_tests) in
    let some : nat_le 0 o ≡ true = grind (arith, nat_tests) in
    ap (λ b. cond b (Some (start + o)) (find (nat_lt place) (map (λ o. start + o) (os ++ len ∷ [])))) past
    ∙ sym (ap (λ b. Some (start + unwrap_or (cond b (Some o) (find (nat_le 0) os)) len)) some)

ended-last : (ps : List Paragraph) (p : Paragraph) → AllEnded (ps ++ p ∷ []) → 0 < length p.separator
ended-last [] p h = h.0
ended-last (q ∷ ps) p h = ended-last ps p h.1

pub next-begins : (ucd : Data) (text : List ℕ) (n : ℕ) → n < count ucd text
    → start_at ucd text (n + 1) ≡ start_at ucd text n + bytes_of (lengths_of (paragraph_at ucd text n))
next-begins ucd text n within =
    total_more (lengths ucd text) n (lengths_of (bare [])) (omega (arith, within, lengths-count ucd text))
    ∙ ap (λ (l : Lengths). start_at ucd text n + bytes_of l)
    (get_or-map lengths_of (paragraphs ucd text) n (bare []) (lengths_of (bare [])) within)

-- ---- of an offset in a text

module _ (ucd : Data) (text : List ℕ) (utf8 : IsUtf8 text) (place n : ℕ) (e : n ≡ paragraph_of (lengths ucd text) place) where
  abbrev all : List Paragraph
  all = paragraphs ucd text

  abbrev start : ℕ
  start = start_at ucd text n

  abbrev body : List ℕ
  body = body_at ucd text n

  abbrev offset : ℕ
  offset = place - start

  abbrev words : List ℕ
  words = body_words ucd body

  abbrev next : ℕ
  next = start + bytes_of (lengths_of (paragraph_at ucd text n))

  abbrev ahead : List Paragraph
  ahead = take n all

  abbrev behind : List Paragraph
  behind = drop (n + 1) all

  within : n < count ucd text
  within = (falls-at ucd text place n utf8 e).within

  order : start ≤ place
  order = (falls-at ucd text place n utf8 e).order

  ended : EndsBefore behind place next
  ended = (falls-at ucd text place n utf8 e).ended

  parts : all ≡ ahead ++ paragraph_at ucd text n ∷ behind
  parts = parts-at ucd text n within

  are-utf8 : AreUtf8 (ahead ++ paragraph_at ucd text n ∷ behind)
  are-utf8 = subst AreUtf8 parts (text-parts ucd text utf8).utf8

  begins : 0 + total (map lengths_of ahead) ≡ start
  begins = omega (arith, start-is ucd text n)

  abbrev mine : Logical → List ℕ
  mine way = map (λ o. start + o) (body_stops ucd way body)

  stops-are : (way : Logical) → text_stops ucd way text ≡ stops_from ucd way 0 ahead ++ (mine way ++ stops_from ucd way next behind)
  stops-are way =
      ap (stops_from ucd way 0) parts ∙ from-append ucd way 0 ahead (paragraph_at ucd text n ∷ behind)
      ∙ ap (λ s. stops_from ucd way 0 ahead ++ stops_from ucd way s (paragraph_at ucd text n ∷ behind)) begins

  ahead-upto : (way : Logical) → Within (λ o. o ≤ place) (stops_from ucd way 0 ahead)
  ahead-upto way =
      within-weaker (λ o. o ≤ 0 + total (map lengths_of ahead)) (λ o. o ≤ place) (λ o h. omega (arith, h, begins, order)) (stops_from ucd way 0 ahead)
      (from-upto ucd way 0 ahead (ahead-utf8 ahead (paragraph_at ucd text n ∷ behind) are-utf8))

  -- the next paragraph begins past it
  pub next-past : n + 1 < count ucd text → place < start_at ucd text (n + 1)
  next-past more =
      let there : behind ≡ paragraph_at ucd text (n + 1) ∷ drop (n + 1 + 1) all = drop_more all (n + 1) (bare []) more in
      let above : place < next = subst (λ ps. EndsBefore ps place next) there ended in
      omega (arith, above, next-begins ucd text n within)

  -- ---- forward

  abbrev after : ℕ → Bool
  after o = nat_lt place o

  forward-is : find after (text_stops ucd Forward text) ≡ option_or (find after (mine Forward)) (find after (stops_from ucd Forward next behind))
  forward-is =
      let front = stops_from ucd Forward 0 ahead in
      let rest = mine Forward ++ stops_from ucd Forward next behind in
      ap (find after) (stops-are Forward) ∙ find-append after front rest
      ∙ ap (λ x. option_or x (find after rest)) (none-found after front
      (within-weaker (λ o. o ≤ place) (λ o. after o ≡ false) (λ o h. grind (arith, nat_tests)) front (ahead-upto Forward)))
      ∙ find-append after (mine Forward) (stops_from ucd Forward next behind)

  pub forward-here : offset < length body → start + unwrap_or (find (nat_lt offset) words) (length body) ≡ step_word ucd text Forward place
  forward-here h =
      let own : find after (mine Forward) ≡ Some (start + unwrap_or (find (nat_lt offset) words) (length body)) =
      sym (moved-behind start place order (body_stops ucd Forward body) (find (nat_lt offset) (body_stops ucd Forward body)) refl)
      ∙ ap (option_map (λ k. start + k)) (first-or-end offset words (length body) h) in
      sym (ap (λ x. unwrap_or x place) (forward-is ∙ ap (λ x. option_or x (find after (stops_from ucd Forward next behind))) own))

  -- after its body
  module _ (past : length body ≤ offset) where
    mine-none : find after (mine Forward) ≡ None
    mine-none =
        none-found after (mine Forward)
        (within-weaker (λ o. o ≤ start + length body) (λ o. after o ≡ false) (λ o h. let far : o ≤ place = omega (arith, h, past, order) in grind (arith, nat_tests))
        (mine Forward) (own-upto ucd Forward start body (body-utf8 ucd text n within utf8)))

    forward-rest : find after (text_stops ucd Forward text) ≡ find after (stops_from ucd Forward next behind)
    forward-rest = forward-is ∙ ap (λ x. option_or x (find after (stops_from ucd Forward next behind))) mine-none

    pub forward-next : n + 1 < count ucd text
        → start_at ucd text (n + 1)
        + unwrap_or (find (nat_le 0) (body_words ucd (body_at ucd text (n + 1)))) (length (body_at ucd text (n + 1)))
        ≡ step_word ucd text Forward place
    forward-next more =
        let q = paragraph_at ucd text (n + 1) in
        let qs = drop (n + 1 + 1) all in
        let further = stops_from ucd Forward (next + bytes_of (lengths_of q)) qs in
        let first = start_at ucd text (n + 1) in
        let there : behind ≡ q ∷ qs = drop_more all (n + 1) (bare []) more in
        let above : place < next = subst (λ ps. EndsBefore ps place next) there ended in
        let same : first ≡ next = next-begins ucd text n within in
        let found : Option ℕ = find (nat_le 0) (body_words ucd q.body) in
        let own : find after (map (λ o. next + o) (body_words ucd q.body ++ length q.body ∷ [])) ≡ Some (next + unwrap_or found (length q.body)) =
        first-of-body place next (length q.body) above (body_words ucd q.body) in
        ap (λ k. k + unwrap_or found (length q.body)) same
        ∙ sym (ap (λ x. unwrap_or x place) (forward-rest ∙ ap (λ ps. find after (stops_from ucd Forward next ps)) there
        ∙ find-append after (map (λ o. next + o) (body_words ucd q.body ++ length q.body ∷ [])) further
        ∙ ap (λ x. option_or x (find after further)) own))

    pub forward-last : n + 1 ≡ count ucd text → place ≡ step_word ucd text Forward place
    forward-last last =
        let none : behind ≡ [] = drop_all (n + 1) all (omega (arith, last)) in
        sym (ap (λ x. unwrap_or x place) (forward-rest ∙ ap (λ ps. find after (stops_from ucd Forward next ps)) none))

  -- ---- back

  abbrev before : ℕ → Bool
  before o = nat_lt o place

  behind-fails : (ps : List Paragraph) → EndsBefore ps place next → Within (λ o. before o ≡ false) (stops_from ucd Back next ps)
  behind-fails [] h = tt
  behind-fails (q ∷ qs) h =
      within-weaker (λ o. next ≤ o) (λ o. before o ≡ false) (λ o l. let far : place ≤ o = omega (arith, l, h) in grind (arith, nat_tests))
      (stops_from ucd Back next (q ∷ qs)) (from-on ucd Back next (q ∷ qs))

  back-is : find before (reverse (text_stops ucd Back text))
      ≡ option_or (find before (reverse (mine Back))) (find before (reverse (stops_from ucd Back 0 ahead)))
  back-is =
      let front = stops_from ucd Back 0 ahead in
      let rest = stops_from ucd Back next behind in
      let none : find before (reverse rest) ≡ None =
      none-found before (reverse rest) (within-reverse (λ o. before o ≡ false) rest (behind-fails behind ended)) in
      ap (λ os. find before (reverse os)) (stops-are Back) ∙ ap (find before) (reverse-append front (mine Back ++ rest))
      ∙ find-append before (reverse (mine Back ++ rest)) (reverse front)
      ∙ ap (λ x. option_or x (find before (reverse front))) (ap (find before) (reverse-append (mine Back) rest)
      ∙ find-append before (reverse rest) (reverse (mine Back)) ∙ ap (λ x. option_or x (find before (reverse (mine Back)))) none)

  pub back-here : start < place → start + unwrap_or (find (λ o. nat_lt o offset) (reverse words)) 0 ≡ step_word ucd text Back place
  back-here h =
      let own : find before (reverse (mine Back)) ≡ Some (start + unwrap_or (find (λ o. nat_lt o offset) (reverse words)) 0) =
      sym (moved-before start place order (body_stops ucd Back body) (find (λ o. nat_lt o offset) (reverse (body_stops ucd Back body))) refl)
      ∙ ap (option_map (λ k. start + k)) (last-or-start offset words 0 (omega (arith, h))) in
      sym (ap (λ x. unwrap_or x place) (back-is ∙ ap (λ x. option_or x (find before (reverse (stops_from ucd Back 0 ahead)))) own))

  -- at its start
  module _ (first : place ≤ start) where
    back-rest : find before (reverse (text_stops ucd Back text)) ≡ find before (reverse (stops_from ucd Back 0 ahead))
    back-rest =
        let none : find before (reverse (mine Back)) ≡ None =
        none-found before (reverse (mine Back))
        (within-reverse (λ o. before o ≡ false) (mine Back)
        (within-weaker (λ o. start ≤ o) (λ o. before o ≡ false) (λ o l. let far : place ≤ o = omega (arith, l, first) in grind (arith, nat_tests))
        (mine Back) (own-on ucd Back start body))) in
        back-is ∙ ap (λ x. option_or x (find before (reverse (stops_from ucd Back 0 ahead)))) none

    pub back-first : n ≡ 0 → place ≡ step_word ucd text Back place
    back-first none =
        sym (ap (λ x. unwrap_or x place) (back-rest ∙ ap (λ k. find before (reverse (stops_from ucd Back 0 (take k all)))) none))

    module _ (m : ℕ) (more : n ≡ m + 1) where
      abbrev above : Paragraph
      above = paragraph_at ucd text m

      m-within : m < count ucd text
      m-within = omega (arith, more, within)

      ahead-is : ahead ≡ take m all ++ above ∷ []
      ahead-is = ap (λ k. take k all) more ∙ take_more all m (bare []) m-within

      all-ended : AllEnded (take m all ++ above ∷ [])
      all-ended = subst AllEnded ahead-is (ahead-ended ahead (paragraph_at ucd text n) behind (subst AreEnded parts (text-parts ucd text utf8).ended))

      -- the previous paragraph begins before the offset
      pub begins-before : start_at ucd text m < place
      begins-before =
          omega (arith, ended-last (take m all) above all-ended, next-begins ucd text m m-within, ap (start_at ucd text) more, order)

      pub back-above : start_at ucd text m
          + unwrap_or (find (λ o. nat_lt o (place - start_at ucd text m)) (reverse (body_words ucd (body_at ucd text m)))) 0
          ≡ step_word ucd text Back place
      back-above =
          let s = start_at ucd text m in
          let far = place - s in
          let found = unwrap_or (find (λ o. nat_lt o far) (reverse (body_words ucd above.body))) 0 in
          let front = stops_from ucd Back 0 (take m all) in
          let last = map (λ o. s + o) (body_stops ucd Back above.body) in
          let sum : 0 + total (map lengths_of (take m all)) ≡ s = omega (arith, start-is ucd text m) in
          let whole : stops_from ucd Back 0 ahead ≡ front ++ last =
          ap (stops_from ucd Back 0) ahead-is ∙ from-append ucd Back 0 (take m all) (above ∷ [])
          ∙ ap (λ k. front ++ stops_from ucd Back k (above ∷ [])) sum ∙ ap (λ os. front ++ os) (append-nil last) in
          let below = begins-before in
          let own : find before (reverse last) ≡ Some (s + found) =
          sym (moved-before s place (omega (arith, below)) (body_stops ucd Back above.body) (find (λ o. nat_lt o far) (reverse (body_stops ucd Back above.body))) refl)
          ∙ ap (option_map (λ k. s + k)) (last-or-start far (body_words ucd above.body) 0 (omega (arith, below))) in
          sym (ap (λ x. unwrap_or x place) (back-rest ∙ ap (λ os. find before (reverse os)) whole ∙ ap (find before) (reverse-append front last)
          ∙ find-append before (reverse last) (reverse front) ∙ ap (λ x. option_or x (find before (reverse front))) own))
