-- A paragraph by its number, from the index: its start, its body, and the offsets that fall in it.
use Rattle.std.proofs.Common.{◌≡◌, ℕ, zero, suc, ◌+◌, ◌-◌, ◌<◌, ◌≤◌, nat_le, cond, true, false, List, [], ◌∷◌, ◌++◌, map, length, take, drop, get_or}
use Rattle.std.proofs.Common.{slice_get, slice_range, count_by, Option, Some, IsUtf8, IsCharBoundary, refl, sym, ap, subst, ◌∙◌, arith, ⊎_elim}
use Rattle.std.proofs.Common.{append_assoc, length-append, length-drop}
use Rattle.std.proofs.lemmas.Bool.{cases_lt}
use Rattle.std.proofs.lemmas.Bool.Decides.{nat_tests}
use Rattle.std.proofs.lemmas.List.{length-map, length-take-le, take-append-drop, drop_more, drop_at, take_at, take-map, get_or-map}
use Rattle.std.proofs.lemmas.List.Sums.{sum_by-cons}
use Rattle.std.proofs.lemmas.Str.{IsCharBoundary-at_seam, IsUtf8-append, IsUtf8-nil}
use Rattle.bx_ucd.specs.Data.{Data}
use Rattle.bx_text.specs.Changes.{IsRange}
use Rattle.bx_text.specs.declared.index.lengths.Lengths.{Lengths}
use Rattle.bx_text.specs.index.Paragraphs.{Paragraph, bare, lengths, lengths_of, paragraphs, bytes_of, paragraph_of, spans, spans_from, total}
use Rattle.bx_text.proofs.index_lemmas.Asked.{span_at}
use Rattle.bx_text.proofs.index_lemmas.Totals.{total_more}
use Rattle.bx_view.specs.Standing.{IsSpan}
use Rattle.bx_view.specs.Numbers.{body_at, count, paragraph_at, start_at}
use Rattle.bx_view.proofs.RowsAround.{EndsBefore, IsAmong, behind-utf8}
use Rattle.bx_view.proofs.Parts.{AreUtf8, bytes, text-bytes, text-parts}

-- ---- the bytes of paragraphs

pub bytes-append : (ps qs : List Paragraph) → bytes (ps ++ qs) ≡ bytes ps ++ bytes qs
bytes-append [] qs = refl
bytes-append (p ∷ ps) qs = ap (λ b. p.body ++ p.separator ++ b) (bytes-append ps qs) ∙ sym (append_assoc (p.body ++ p.separator) (bytes ps) (bytes qs))

pub bytes-length : (ps : List Paragraph) → length (bytes ps) ≡ total (map lengths_of ps)
bytes-length [] = refl
bytes-length (p ∷ ps) = omega (arith, length-append (p.body ++ p.separator) (bytes ps), length-append p.body p.separator, bytes-length ps)

pub bytes-utf8 : (ps : List Paragraph) → AreUtf8 ps → IsUtf8 (bytes ps)
bytes-utf8 [] u = IsUtf8-nil
bytes-utf8 (p ∷ ps) u = IsUtf8-append (p.body ++ p.separator) (bytes ps) (IsUtf8-append p.body p.separator u.0.body u.0.separator) (bytes-utf8 ps u.1)

-- ---- the paragraphs that begin at an offset or before it

module _ (offset : ℕ) where
  abbrev rank-spans : ℕ → List Lengths → ℕ
  rank-spans at ls = count_by (λ s. nat_le s.0 offset) (spans_from at ls)

  spans-cons : (at : ℕ) (l : Lengths) (ls : List Lengths) → rank-spans at (l ∷ ls) ≡ cond (nat_le at offset) 1 0 + rank-spans (at + bytes_of l) ls
  spans-cons at l ls = sum_by-cons (λ s. cond (nat_le s.0 offset) 1 0) (at, at + l.body) (spans_from (at + bytes_of l) ls)

  span-rank : (at : ℕ) (l : Lengths) (ls : List Lengths) → at ≤ offset → rank-spans at (l ∷ ls) ≡ 1 + rank-spans (at + bytes_of l) ls
  span-rank at l ls h =
      let e : nat_le at offset ≡ true = grind (arith, nat_tests) in spans-cons at l ls ∙ ap (λ b. cond b 1 0 + rank-spans (at + bytes_of l) ls) e

  no-span-rank : (at : ℕ) (ls : List Lengths) → offset < at → rank-spans at ls ≡ 0
  no-span-rank at [] h = refl
  no-span-rank at (l ∷ ls) h =
      let e : nat_le at offset ≡ false = grind (arith, nat_tests) in
      let more : rank-spans (at + bytes_of l) ls ≡ 0 = no-span-rank (at + bytes_of l) ls (omega arith) in
      spans-cons at l ls ∙ ap (λ b. cond b 1 0 + rank-spans (at + bytes_of l) ls) e ∙ omega (arith, more)

  -- the last of them holds the offset
  pub record Holds (at : ℕ) (ls : List Lengths) (n : ℕ) : Type 0 where
    pub within : n < length ls
    pub order : at + total (take n ls) ≤ offset
    pub ended : n + 1 < length ls → offset < at + total (take (n + 1) ls)

  holds-next : (at : ℕ) (l : Lengths) (ls : List Lengths) (n : ℕ) → Holds (at + bytes_of l) ls n → Holds at (l ∷ ls) (suc n)
  holds-next at l ls n h = record {
    within = omega (arith, h.within);
    order = omega (arith, h.order);
    ended = λ further.
        let same : suc n + 1 ≡ suc (n + 1) = omega arith in
        let sum : total (take (suc n + 1) (l ∷ ls)) ≡ bytes_of l + total (take (n + 1) ls) = ap (λ k. total (take k (l ∷ ls))) same in
        omega (arith, h.ended (omega (arith, further)), sum);
  }

  holds-first : (at : ℕ) (l : Lengths) (ls : List Lengths) → at ≤ offset → (0 < length ls → offset < at + bytes_of l) → Holds at (l ∷ ls) 0
  holds-first at l ls h past = record { within = omega arith; order = omega arith; ended = λ further. omega (arith, past (omega (arith, further))) }

  holds : (at : ℕ) (l : Lengths) (ls : List Lengths) (n : ℕ) → at ≤ offset → rank-spans at (l ∷ ls) ≡ n + 1 → Holds at (l ∷ ls) n
  holds at l [] zero h e = holds-first at l [] h (λ none. absurd (omega (arith, none)))
  holds at l [] (suc n) h e = absurd (omega (arith, e, span-rank at l [] h))
  holds at l (m ∷ ls) zero h e =
      let next = at + bytes_of l in
      ⊎_elim (λ past. holds-first at l (m ∷ ls) h (λ some. past))
      (λ here. absurd (omega (arith, e, span-rank at l (m ∷ ls) h, span-rank next m ls here))) (cases_lt offset next)
  holds at l (m ∷ ls) (suc n) h e =
      let next = at + bytes_of l in
      ⊎_elim (λ past. absurd (omega (arith, e, span-rank at l (m ∷ ls) h, no-span-rank next (m ∷ ls) past)))
      (λ here. holds-next at l (m ∷ ls) n (holds next m ls n here (omega (arith, e, span-rank at l (m ∷ ls) h)))) (cases_lt offset next)

  -- the paragraph that an index finds for the offset
  pub holds-of : (ls : List Lengths) (n : ℕ) → 0 < length ls → n ≡ paragraph_of ls offset → Holds 0 ls n
  holds-of [] n some e = absurd (omega (arith, some))
  holds-of (l ∷ ls) n some e = holds 0 l ls n (omega arith) (omega (arith, e, span-rank 0 l ls (omega arith)))

pair-of : (a b c d : ℕ) → ◌≡◌ {A = Option (ℕ × ℕ)} (Some (a, b)) (Some (c, d)) → (a ≡ c) × (b ≡ d)
pair-of a b c d e = let same : ◌≡◌ {A = ℕ × ℕ} (a, b) (c, d) = cc in (ap (λ (x : ℕ × ℕ). x.0) same, ap (λ (x : ℕ × ℕ). x.1) same)

-- ---- a paragraph by its number

module _ (ucd : Data) (text : List ℕ) where
  abbrev all : List Paragraph
  all = paragraphs ucd text

  pub lengths-count : length (lengths ucd text) ≡ count ucd text
  lengths-count = length-map all lengths_of

  pub start-is : (n : ℕ) → start_at ucd text n ≡ total (map lengths_of (take n all))
  start-is n = ap total (take-map lengths_of n all)

  module _ (n : ℕ) (within : n < count ucd text) where
    abbrev pub ahead : List Paragraph
    ahead = take n all

    abbrev pub behind : List Paragraph
    behind = drop (n + 1) all

    abbrev pub here : Paragraph
    here = paragraph_at ucd text n

    pub parts-at : paragraphs ucd text ≡ ahead ++ here ∷ behind
    parts-at = sym (take-append-drop n all) ∙ ap (λ ps. take n all ++ ps) (drop_more all n (bare []) within)

    pub among : IsAmong ucd text n (start_at ucd text n) here ahead behind
    among = record { parts = parts-at; number_is = sym (length-take-le n all (omega (arith, within))); start_is = start-is n }

    here-length : get_or (lengths ucd text) n (lengths_of (bare [])) ≡ lengths_of here
    here-length = get_or-map lengths_of all n (bare []) (lengths_of (bare [])) within

    -- its numbers in an index
    pub span-is : (a b : ℕ) → slice_get (spans (lengths ucd text)) n ≡ Some (a, b)
        → (a ≡ start_at ucd text n) × (b ≡ start_at ucd text n + length (body_at ucd text n))
    span-is a b e =
        let start = start_at ucd text n in
        let here-span : slice_get (spans (lengths ucd text)) n ≡ Some (start, start + (get_or (lengths ucd text) n (lengths_of (bare []))).body) =
        span_at 0 n (lengths ucd text) (lengths_of (bare [])) (omega (arith, within, lengths-count))
        ∙ ap (λ s. Some (s, s + (get_or (lengths ucd text) n (lengths_of (bare []))).body)) (omega arith) in
        pair-of a b start (start + length here.body) (sym e ∙ here-span ∙ ap (λ (l : Lengths). Some (start, start + l.body)) here-length)

    -- ---- its bytes

    module _ (utf8 : IsUtf8 text) where
      abbrev start : ℕ
      start = start_at ucd text n

      are-utf8 : AreUtf8 (ahead ++ here ∷ behind)
      are-utf8 = subst AreUtf8 parts-at (text-parts ucd text utf8).utf8

      pub body-utf8 : IsUtf8 (body_at ucd text n)
      body-utf8 = (behind-utf8 ahead (here ∷ behind) are-utf8).0.body

      whole : text ≡ bytes ahead ++ (here.body ++ (here.separator ++ bytes behind))
      whole = sym (text-bytes ucd text utf8) ∙ ap bytes parts-at ∙ bytes-append ahead (here ∷ behind)
          ∙ ap (λ b. bytes ahead ++ b) (append_assoc here.body here.separator (bytes behind))

      front : length (bytes ahead) ≡ start
      front = bytes-length ahead ∙ sym (start-is n)

      rest : drop start text ≡ here.body ++ (here.separator ++ bytes behind)
      rest = ap (drop start) whole ∙ drop_at (bytes ahead) (here.body ++ (here.separator ++ bytes behind)) start front

      -- the bytes between its offsets are its body
      pub body-is : slice_range text start (start + length (body_at ucd text n)) ≡ body_at ucd text n
      body-is =
          let size : start + length here.body - start ≡ length here.body = omega arith in
          ap (λ k. take k (drop start text)) size ∙ ap (take (length here.body)) rest
          ∙ take_at here.body (here.separator ++ bytes behind) (length here.body) refl

      behind-text : IsUtf8 (here.separator ++ bytes behind)
      behind-text =
          let u = behind-utf8 ahead (here ∷ behind) are-utf8 in
          IsUtf8-append here.separator (bytes behind) u.0.separator (bytes-utf8 behind u.1)

      -- they bound characters
      pub body-range : IsRange text start (start + length (body_at ucd text n))
      body-range =
          let upto : text ≡ (bytes ahead ++ here.body) ++ (here.separator ++ bytes behind) =
          whole ∙ sym (append_assoc (bytes ahead) here.body (here.separator ++ bytes behind)) in
          let size : length (bytes ahead ++ here.body) ≡ start + length here.body = omega (arith, length-append (bytes ahead) here.body, front) in
          record {
            start_bounds = subst (IsCharBoundary text) front (IsCharBoundary-at_seam text (bytes ahead) (here.body ++ (here.separator ++ bytes behind)) whole
                (IsUtf8-append here.body (here.separator ++ bytes behind) body-utf8 behind-text));
            stop_bounds = subst (IsCharBoundary text) size
                (IsCharBoundary-at_seam text (bytes ahead ++ here.body) (here.separator ++ bytes behind) upto behind-text);
            in_order = omega arith;
          }

  -- ---- an offset in it

  pub some-paragraph : IsUtf8 text → 0 < count ucd text
  some-paragraph utf8 = (text-parts ucd text utf8).some

  next-start : (n : ℕ) → n < count ucd text → start_at ucd text (n + 1) ≡ start_at ucd text n + bytes_of (lengths_of (paragraph_at ucd text n))
  next-start n within =
      total_more (lengths ucd text) n (lengths_of (bare [])) (omega (arith, within, lengths-count))
      ∙ ap (λ (l : Lengths). start_at ucd text n + bytes_of l) (here-length n within)

  ends-before : (offset stop : ℕ) (ps : List Paragraph) → (0 < length ps → offset < stop) → EndsBefore ps offset stop
  ends-before offset stop [] h = tt
  ends-before offset stop (p ∷ ps) h = h (omega arith)

  -- a property of the paragraph that an offset falls in
  pub record Falls (offset n : ℕ) : Type 0 where
    pub within : n < count ucd text
    pub order : start_at ucd text n ≤ offset
    pub ended : EndsBefore (drop (n + 1) (paragraphs ucd text)) offset (start_at ucd text n + bytes_of (lengths_of (paragraph_at ucd text n)))

  pub falls-at : (offset n : ℕ) → IsUtf8 text → n ≡ paragraph_of (lengths ucd text) offset → Falls offset n
  falls-at offset n utf8 e =
      let h = holds-of offset (lengths ucd text) n (omega (arith, lengths-count, some-paragraph utf8)) e in
      let within : n < count ucd text = omega (arith, h.within, lengths-count) in
      record {
        within = within;
        order = omega (arith, h.order);
        ended = ends-before offset (start_at ucd text n + bytes_of (lengths_of (paragraph_at ucd text n))) (drop (n + 1) all)
            (λ some. omega (arith, h.ended (omega (arith, some, length-drop (n + 1) all, lengths-count)), next-start n within));
      }

-- ---- a span from an index

pub paragraph-span : (ucd : Data) (text : List ℕ) (ls : List Lengths) (n a b : ℕ) → IsUtf8 text → n < count ucd text → ls ≡ lengths ucd text
    → ◌≡◌ {A = Option (ℕ × ℕ)} (slice_get (spans ls) n) (Some (a, b)) → IsSpan ucd text n a b
paragraph-span ucd text ls n a b utf8 within same e =
    let found = span-is ucd text n within a b (ap (λ ks. slice_get (spans ks) n) (sym same) ∙ e) in
    let stop = start_at ucd text n + length (body_at ucd text n) in
    let range : IsRange text (start_at ucd text n) stop = body-range ucd text n within utf8 in
    let bounds : IsCharBoundary text stop = range.stop_bounds in
    let inside : stop ≤ length text = bounds.0 in
    record {
      there = within;
      start = found.0;
      body = ap (λ k. slice_range text k b) found.0 ∙ ap (slice_range text (start_at ucd text n)) found.1 ∙ body-is ucd text n within utf8;
      range = subst (IsRange text a) (sym found.1) (subst (λ k. IsRange text k stop) (sym found.0) range);
      order = omega (arith, found.0, found.1);
      within = omega (arith, found.1, inside);
    }

-- the span of the paragraph that an offset falls in
pub record IsUnder (ucd : Data) (text : List ℕ) (offset n a b : ℕ) : Type 0 where
  pub span : IsSpan ucd text n a b
  pub before : a ≤ offset

pub paragraph-under : (ucd : Data) (text : List ℕ) (ls : List Lengths) (offset n a b : ℕ) → IsUtf8 text → ls ≡ lengths ucd text
    → n ≡ paragraph_of ls offset → ◌≡◌ {A = Option (ℕ × ℕ)} (slice_get (spans ls) n) (Some (a, b)) → IsUnder ucd text offset n a b
paragraph-under ucd text ls offset n a b utf8 same number e =
    let falls = falls-at ucd text offset n utf8 (number ∙ ap (λ ks. paragraph_of ks offset) same) in
    let span = paragraph-span ucd text ls n a b utf8 falls.within same e in
    record { span = span; before = omega (arith, falls.order, span.start) }
