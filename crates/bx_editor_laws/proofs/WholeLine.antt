-- A line of a text, put above itself, ends a line there.
use Rattle.std.proofs.Common.{◌≡◌, ◌∙◌, ⊎_elim, ℕ, zero, suc, ◌+◌, ◌-◌, ◌<◌, ◌≤◌, Bool, true, false, List, [], ◌∷◌, ◌++◌, length, map, take, drop, get_or, reverse}
use Rattle.std.proofs.Common.{IsCharBoundary, IsUtf8, chars, encode_utf8, encode_utf8_all, refl, sym, ap, ap₂, subst, arith, if◌then◌else◌}
use Rattle.std.specs.Prelude.{◌==◌, ◌&&◌, ◌||◌, slice_range}
use Rattle.std.proofs.lemmas.Bool.{cases_lt, eqb-true}
use Rattle.std.proofs.lemmas.Bool.Decides.{nat_tests}
use lib.Utf8.{scalar, scalars}
use Rattle.std.proofs.lemmas.List.{append-nil, get_or-map, length-take, reverse-append, take_all, take_at}
use Rattle.std.proofs.lemmas.Str.{IsUtf8-between, IsUtf8-drop, chars-append, chars-encodes, encodes-chars, scalars-chars}
use Rattle.bx_text.specs.declared.index.lengths.Lengths.{Lengths}
use Rattle.bx_text.specs.index.Paragraphs.{bare, begins_with_lf, bytes_of, is_separator, lengths, lengths_of, paragraph_of, paragraphs, total}
use Rattle.bx_text.proofs.index_lemmas.Cuts.{ends, grown, is_paired, joined, lens, lens_ended, lens_paired, lens_plain, width, width_is_some}
use Rattle.bx_ucd.specs.Data.{Data}
use Rattle.bx_document.specs.Line.{begins_with_separator, ends_with_separator, has_crlf_first, is_line_empty, line_of}
use Rattle.bx_view.specs.Numbers.{body_at, count, paragraph_at}
use Rattle.bx_view.proofs.Begins.{begin_at}
use Rattle.bx_view.proofs.Numbers.{bytes-length, falls-at, lengths-count, start-is}
use Rattle.bx_view.proofs.Parts.{text-bytes}
use Rattle.bx_editor_laws.specs.LineLaws.{EndsLine, begins_with_cr}

-- ---- where the next line begins

IsCharBoundary-end : (text : List ℕ) → IsCharBoundary text (length text)
IsCharBoundary-end text = (omega arith, λ less. absurd (omega (arith, less)))

total-more : (ls : List Lengths) (n : ℕ) (l : Lengths) → n < length ls → total (take (suc n) ls) ≡ total (take n ls) + bytes_of (get_or ls n l)
total-more [] n l within = absurd (omega (arith, within))
total-more (k ∷ ls) zero l within = omega arith
total-more (k ∷ ls) (suc n) l within = let rest = total-more ls n l (omega (arith, within)) in omega (arith, rest)

-- ---- a line by its first characters

chars-lf : chars (0xA ∷ []) ≡ 0xA ∷ []
unfolding lib.Utf8.encode
chars-lf = chars-encodes (0xA ∷ []) refl

chars-crlf : chars (0xD ∷ 0xA ∷ []) ≡ 0xD ∷ 0xA ∷ []
unfolding lib.Utf8.encode
chars-crlf = chars-encodes (0xD ∷ 0xA ∷ []) refl

-- the text's line end, which an unended line gets
line-end-last : (d : Data) (xs : List ℕ) (crlf : Bool) → is_separator (d.class 0xA) ≡ true → IsUtf8 xs
    → let bytes = xs ++ (if crlf then 0xD ∷ 0xA ∷ [] else 0xA ∷ []) in
    (ends_with_separator d bytes ≡ true) × (begins_with_cr (reverse (chars bytes)) ≡ false)
line-end-last d xs true lf utf8 =
    let is = chars-append xs (0xD ∷ 0xA ∷ []) utf8 ∙ ap (λ ys. chars xs ++ ys) chars-crlf in
    let turned : reverse (chars (xs ++ 0xD ∷ 0xA ∷ [])) ≡ 0xA ∷ 0xD ∷ reverse (chars xs) = ap reverse is ∙ reverse-append (chars xs) (0xD ∷ 0xA ∷ []) in
    (ap (begins_with_separator d) turned ∙ lf, ap begins_with_cr turned)
line-end-last d xs false lf utf8 =
    let is = chars-append xs (0xA ∷ []) utf8 ∙ ap (λ ys. chars xs ++ ys) chars-lf in
    let turned : reverse (chars (xs ++ 0xA ∷ [])) ≡ 0xA ∷ reverse (chars xs) = ap reverse is ∙ reverse-append (chars xs) (0xA ∷ []) in
    (ap (begins_with_separator d) turned ∙ lf, ap begins_with_cr turned)

front-alone : (a b : Bool) → (a && b) ≡ true → (a && true) ≡ true
front-alone true b is = refl
front-alone false b is = absurd (cc is)

none-taken : (n : ℕ) (xs : List ℕ) → xs ≡ [] → length (take n xs) ≡ 0
none-taken n xs none = let size = length-take n xs in omega (arith, size, ap length none)

-- CR is no LF
apart-one : (c : ℕ) (ended : Bool) → ((c == 0xD) && ((c == 10) && ended)) ≡ false
apart-one c ended = go (c == 0xD) refl
  where
    go : (b : Bool) → (c == 0xD) ≡ b → (b && ((c == 10) && ended)) ≡ false
    go true is = ap (λ n. (n == 10) && ended) (eqb-true c 0xD is)
    go false is = refl

module _ (d : Data) (text : List ℕ) (utf8 : IsUtf8 text) (place : ℕ) where
  abbrev number : ℕ
  number = paragraph_of (lengths d text) place

  within : number < count d text
  within = (falls-at d text place number utf8 refl).within

  abbrev start : ℕ
  start = (line_of d text place).0

  abbrev stop : ℕ
  stop = (line_of d text place).1

  abbrev back : List ℕ
  back = drop start text

  abbrev own : List ℕ
  own = slice_range text start stop

  abbrev here : Lengths
  here = lengths_of (paragraph_at d text number)

  bounds : IsCharBoundary text start
  bounds = (begin_at d text utf8 number within).bounds

  back-utf8 : IsUtf8 back
  back-utf8 = IsUtf8-drop text start utf8 bounds

  -- how long the line is
  long : stop ≡ start + bytes_of here
  long =
      let next : number + 1 ≡ suc number = omega arith in
      let many : number < length (lengths d text) = omega (arith, within, lengths-count d text) in
      ap (λ n. total (take n (lengths d text))) next
      ∙ total-more (lengths d text) number (lengths_of (bare [])) many
      ∙ ap (λ (l : Lengths). start + bytes_of l) (get_or-map lengths_of (paragraphs d text) number (bare []) (lengths_of (bare [])) within)

  pub line-order : start ≤ stop
  line-order = omega (arith, long)

  -- it ends where the next one begins, or at the text's end
  stop-bounds : IsCharBoundary text stop
  stop-bounds = ⊎_elim
      (λ more. (begin_at d text utf8 (number + 1) more).bounds)
      (λ last.
      let end : stop ≡ length text =
      start-is d text (number + 1) ∙ ap (λ ps. total (map lengths_of ps)) (take_all (number + 1) (paragraphs d text) last)
      ∙ sym (bytes-length (paragraphs d text)) ∙ ap length (text-bytes d text utf8) in
      subst (IsCharBoundary text) (sym end) (IsCharBoundary-end text))
      (cases_lt (number + 1) (count d text))

  pub own-utf8-is : IsUtf8 own
  own-utf8-is = IsUtf8-between text start stop utf8 line-order bounds stop-bounds

  pub stop-within : stop ≤ length text
  stop-within = stop-bounds.0

  own-is : own ≡ take (bytes_of here) back
  own-is = let size : stop - start ≡ bytes_of here = omega (arith, long) in ap (λ n. take n back) size

  -- the line that is put
  abbrev put : List ℕ
  put = if ends_with_separator d own || is_line_empty d text place then own else own ++ (if has_crlf_first d text then 0xD ∷ 0xA ∷ [] else 0xA ∷ [])

  module _ (lf : is_separator (d.class 0xA) ≡ true) (own-utf8 : IsUtf8 own) where
    -- as it is
    as-is : ends_with_separator d own ≡ true → (begins_with_cr (reverse (chars own)) && begins_with_lf d (chars back)) ≡ false → EndsLine d put back
    as-is ended apart =
        subst (λ b. EndsLine d (if b || is_line_empty d text place then own else own ++ (if has_crlf_first d text then 0xD ∷ 0xA ∷ [] else 0xA ∷ [])) back)
        (sym ended) (record { ends = ended; apart = apart })

    with-end : ends_with_separator d own ≡ false → is_line_empty d text place ≡ false → EndsLine d put back
    with-end unended full =
        let end = line-end-last d own (has_crlf_first d text) lf own-utf8 in
        subst (λ b. EndsLine d (if b then own else own ++ (if has_crlf_first d text then 0xD ∷ 0xA ∷ [] else 0xA ∷ [])) back)
        (sym (ap₂ (λ a b. a || b) unended full)) (record { ends = end.0; apart = ap (λ b. b && begins_with_lf d (chars back)) end.1 })

    by-last : (ended : Bool) → ends_with_separator d own ≡ ended → is_line_empty d text place ≡ false → begins_with_lf d (chars back) ≡ false → EndsLine d put back
    by-last true is full other = as-is is (ap (λ b. begins_with_cr (reverse (chars own)) && b) other ∙ no-and (begins_with_cr (reverse (chars own))))
      where
        no-and : (b : Bool) → (b && false) ≡ false
        no-and true = refl
        no-and false = refl
    by-last false is full other = with-end is full

    -- ---- by the first characters

    module _ (some : 0 < length own) (c : ℕ) (cs : List ℕ) (first : chars back ≡ c ∷ cs) where
      -- the paragraphs from there on
      abbrev behind : List Lengths
      behind = map lengths_of (drop (number + 1) (paragraphs d text))

      from-here : lens d (c ∷ cs) ≡ here ∷ behind
      from-here = ap (lens d) (sym first) ∙ (begin_at d text utf8 number within).rest

      spelt : back ≡ encode_utf8 c ++ encode_utf8_all cs
      spelt = sym (encodes-chars back back-utf8) ∙ ap encode_utf8_all first

      sound : scalars (c ∷ cs) ≡ true
      sound = ap scalars (sym first) ∙ scalars-chars back back-utf8

      alone-sound : scalars (c ∷ []) ≡ true
      alone-sound = front-alone (scalar c) (scalars cs) sound

      -- it begins with a character of its body
      body-some : (ls : List Lengths) → here ∷ behind ≡ grown (width c) ls → 0 < here.body
      body-some [] same = absurd (omega (arith, ap length same))
      body-some (l ∷ ls) same =
          let head : here ≡ record l { body = width c + l.body } = cc same in omega (arith, ap (λ (k : Lengths). k.body) head, width_is_some c)

      by-body : ends d c ≡ false → EndsLine d put back
      by-body plain =
          let more = body-some (lens d cs) (sym from-here ∙ lens_plain d c cs plain) in
          let full : is_line_empty d text place ≡ false = not-zero (length (body_at d text number)) more in
          let other : begins_with_lf d (chars back) ≡ false = ap (begins_with_lf d) first ∙ ap (λ b. (c == 10) && b) plain ∙ no-and (c == 10) in
          by-last (ends_with_separator d own) refl full other
        where
          not-zero : (n : ℕ) → 0 < n → (n == 0) ≡ false
          not-zero n h = grind (arith, nat_tests)

          no-and : (b : Bool) → (b && false) ≡ false
          no-and true = refl
          no-and false = refl

      -- it is a separator of one character
      by-one : ends d c ≡ true → is_paired d c cs ≡ false → EndsLine d put back
      by-one ended single =
          let same : here ∷ behind ≡ record { body = 0; separator = width c } ∷ lens d cs = sym from-here ∙ lens_ended d c cs ended single in
          let head : here ≡ record { body = 0; separator = width c } = cc same in
          let size : bytes_of here ≡ width c = omega (arith, ap bytes_of head) in
          let is : own ≡ encode_utf8 c =
          own-is ∙ ap (λ n. take n back) size ∙ ap (take (width c)) spelt ∙ take_at (encode_utf8 c) (encode_utf8_all cs) (width c) refl in
          let only : chars own ≡ c ∷ [] = ap chars (is ∙ sym (append-nil (encode_utf8 c))) ∙ chars-encodes (c ∷ []) alone-sound in
          as-is (ap (λ xs. begins_with_separator d (reverse xs)) only ∙ ended)
          (ap₂ (λ xs ys. begins_with_cr (reverse xs) && begins_with_lf d ys) only first ∙ apart-one c (ends d c))

      -- it is CR LF
      by-pair : (more : List ℕ) → c ≡ 0xD → cs ≡ 0xA ∷ more → ends d c ≡ true → is_paired d c cs ≡ true → EndsLine d put back
      unfolding lib.Utf8.encode
      by-pair more cr lf-next ended paired =
          let single : is_paired d 0xA more ≡ false = refl in
          let same : here ∷ behind ≡ record { body = 0; separator = width 13 + width 10 } ∷ lens d more =
          sym from-here ∙ lens_paired d c cs ended paired ∙ ap (λ xs. joined (width 13) (lens d xs)) lf-next
          ∙ ap (joined (width 13)) (lens_ended d 0xA more lf single) in
          let head : here ≡ record { body = 0; separator = width 13 + width 10 } = cc same in
          let size : bytes_of here ≡ 2 = ap bytes_of head in
          let is : own ≡ 0xD ∷ 0xA ∷ [] =
          own-is ∙ ap (λ n. take n back) size
          ∙ ap (take 2) (spelt ∙ ap₂ (λ a xs. encode_utf8 a ++ encode_utf8_all xs) cr lf-next) in
          let only : chars own ≡ 0xD ∷ 0xA ∷ [] = ap chars is ∙ chars-crlf in
          as-is (ap (λ xs. begins_with_separator d (reverse xs)) only ∙ lf)
          (ap (λ xs. begins_with_cr (reverse xs) && begins_with_lf d (chars back)) only)

      next-lf : (xs : List ℕ) → is_paired d c xs ≡ true → (c ≡ 0xD) × ((more : List ℕ) × (xs ≡ 0xA ∷ more))
      next-lf [] paired = absurd (grind (arith, nat_tests))
      next-lf (x ∷ xs) paired =
          let cr : c ≡ 13 = grind (arith, nat_tests) in
          let next : x ≡ 10 = grind (arith, nat_tests) in (cr, (xs, ap (λ n. n ∷ xs) next))

      by-kind : (ended paired : Bool) → ends d c ≡ ended → is_paired d c cs ≡ paired → EndsLine d put back
      by-kind false paired is pair = by-body is
      by-kind true false is pair = by-one is pair
      by-kind true true is pair = let next = next-lf cs pair in by-pair next.1.0 next.0 next.1.1 is pair

    ends-by : (some : 0 < length own) (xs : List ℕ) → chars back ≡ xs → EndsLine d put back
    ends-by some [] first =
        let none : back ≡ [] = sym (encodes-chars back back-utf8) ∙ ap encode_utf8_all first in
        absurd (omega (arith, some, ap length own-is, none-taken (bytes_of here) back none))
    ends-by some (c ∷ cs) first = by-kind some c cs first (ends d c) (is_paired d c cs) refl refl

    pub line-ends-itself : 0 < length own → EndsLine d put back
    line-ends-itself some = ends-by some (chars back) refl
