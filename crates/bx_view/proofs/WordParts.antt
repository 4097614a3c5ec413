-- The starts of a body's words, in front of a boundary of its clusters and from there on.
use Rattle.std.proofs.Common.{◌≡◌, ℕ, zero, suc, ◌+◌, ◌<◌, ◌≤◌, nat_le, nat_lt, min, not, ◌&&◌, cond, Bool, true, false, List, [], ◌∷◌, ◌++◌, map}
use Rattle.std.proofs.Common.{length, drop, reverse, find, Option, Some, None, unwrap_or, encode_utf8_all, IsUtf8, IsCharBoundary, refl, sym, ap, subst, ◌∙◌, chars}
use Rattle.std.proofs.Common.{arith, append_assoc, ⊎_elim}
use Rattle.std.specs.Option.{option_or}
use Rattle.std.proofs.lemmas.Bool.{cases_lt}
use Rattle.std.proofs.lemmas.Bool.Decides.{nat_tests}
use Rattle.std.proofs.lemmas.List.{drop_all, reverse-append}
use Rattle.std.proofs.lemmas.List.Folds.{find-append}
use Rattle.std.proofs.lemmas.Str.{chars-nil, IsCharBoundary-start}
use Rattle.unicode_segmentation.specs.Grapheme.{graphemes, is_grapheme_break}
use Rattle.unicode_segmentation.specs.Segments.{cut, segments, with_offsets}
use Rattle.bx_ucd.specs.Data.{Data}
use Rattle.bx_rows.specs.cells.Units.{unit_at, units}
use Rattle.bx_rows.proofs.cells_lemmas.Rest.{next-cluster}
use Rattle.bx_rows.specs.RowStarts.{first_offset}
use Rattle.bx_view.specs.Words.{begins_word, body_words, first_kind, goes_on, is_of_word, is_sign, kind_of, put_if, word_starts}
use Rattle.bx_view.specs.declared.moves.unit_kind.UnitKind.{UnitKind}
use Rattle.bx_view.specs.declared.moves.unit_kind.UnitKind.TheVariants.{Letter, Digit, Mark, LetterSign, DigitSign, Other}
use Rattle.bx_view.proofs.Within.{Within, within-append, within-reverse}

-- ---- searches

pub within-weaker : (P Q : ℕ → Type 0) → ((o : ℕ) → P o → Q o) → (os : List ℕ) → Within P os → Within Q os
within-weaker P Q each [] a = tt
within-weaker P Q each (o ∷ os) a = (each o a.0, within-weaker P Q each os a.1)

pub none-found : (p : ℕ → Bool) (os : List ℕ) → Within (λ o. p o ≡ false) os → find p os ≡ None
none-found p [] a = refl
none-found p (o ∷ os) a = ap (λ b. cond b (Some o) (find p os)) a.0 ∙ none-found p os a.1

-- tests that agree on all members
found-same : (p q : ℕ → Bool) (os : List ℕ) → Within (λ o. p o ≡ q o) os → find p os ≡ find q os
found-same p q [] a = refl
found-same p q (o ∷ os) a = ap (λ b. cond b (Some o) (find p os)) a.0 ∙ ap (cond (q o) (Some o)) (found-same p q os a.1)

fails-at : (p : ℕ → Bool) (o : ℕ) (os : List ℕ) (b : Bool) → p o ≡ b → cond b (Some o) (find p os) ≡ None → (p o ≡ false) × (find p os ≡ None)
fails-at p o os true e none = cc
fails-at p o os false e none = (e, none)

pub all-fail : (p : ℕ → Bool) (os : List ℕ) → find p os ≡ None → Within (λ o. p o ≡ false) os
all-fail p [] none = tt
all-fail p (o ∷ os) none = let (here, rest) = fails-at p o os (p o) refl none in (here, all-fail p os rest)

zero-at : (p : ℕ → Bool) (o : ℕ) (os : List ℕ) (b : Bool) → o ≤ 0 → unwrap_or (find p os) 0 ≡ 0 → unwrap_or (cond b (Some o) (find p os)) 0 ≡ 0
zero-at p o os true h rest = omega (arith, h)
zero-at p o os false h rest = rest

zero-found : (p : ℕ → Bool) (os : List ℕ) → Within (λ o. o ≤ 0) os → unwrap_or (find p os) 0 ≡ 0
zero-found p [] a = refl
zero-found p (o ∷ os) a = zero-at p o os (p o) a.0 (zero-found p os a.1)

or-zero : (x y : Option ℕ) → unwrap_or y 0 ≡ 0 → unwrap_or (option_or x y) 0 ≡ unwrap_or x 0
or-zero None y e = e
or-zero (Some o) y e = refl

-- ---- the starts of words

-- the length of some clusters
abbrev pub size : List (List ℕ) → ℕ
size [] = 0
size (u ∷ us) = length u + size us

size-append : (us vs : List (List ℕ)) → size (us ++ vs) ≡ size us + size vs
size-append [] vs = omega arith
size-append (u ∷ us) vs = omega (arith, size-append us vs)

put-append : (b : Bool) (at : ℕ) (os ps : List ℕ) → put_if b at (os ++ ps) ≡ put_if b at os ++ ps
put-append true at os ps = refl
put-append false at os ps = refl

pub put-within : (P : ℕ → Type 0) (b : Bool) (at : ℕ) (os : List ℕ) → P at → Within P os → Within P (put_if b at os)
put-within P true at os here a = (here, a)
put-within P false at os here a = a

module _ (ucd : Data) where
  -- the kinds of the last two units, behind units of the kinds `second` and `first`
  abbrev pub last-kinds : UnitKind → UnitKind → List (List ℕ) → UnitKind × UnitKind
  last-kinds second first [] = (second, first)
  last-kinds second first (u ∷ us) = last-kinds first (kind_of ucd u) us

  words-append : (s f : UnitKind) (at : ℕ) (us vs : List (List ℕ))
      → word_starts ucd s f at (us ++ vs)
      ≡ word_starts ucd s f at us ++ word_starts ucd (last-kinds s f us).0 (last-kinds s f us).1 (at + size us) vs
  words-append s f at [] vs = let none : at ≡ at + 0 = omega arith in ap (λ n. word_starts ucd s f n vs) none
  words-append s f at (u ∷ us) vs =
      let k = kind_of ucd u in
      let begins = begins_word s f k in
      let more = word_starts ucd f k (at + length u) us in
      let last = last-kinds f k us in
      let sum : at + length u + size us ≡ at + size (u ∷ us) = omega arith in
      ap (put_if begins at) (words-append f k (at + length u) us vs)
      ∙ ap (λ n. put_if begins at (more ++ word_starts ucd last.0 last.1 n vs)) sum
      ∙ put-append begins at more (word_starts ucd last.0 last.1 (at + size (u ∷ us)) vs)

  pub words-from : (s f : UnitKind) (at : ℕ) (us : List (List ℕ)) → Within (λ o. at ≤ o) (word_starts ucd s f at us)
  words-from s f at [] = tt
  words-from s f at (u ∷ us) =
      let more = word_starts ucd f (kind_of ucd u) (at + length u) us in
      put-within (λ o. at ≤ o) (begins_word s f (kind_of ucd u)) at more (omega arith)
      (within-weaker (λ o. at + length u ≤ o) (λ o. at ≤ o) (λ o h. omega (arith, h)) more (words-from f (kind_of ucd u) (at + length u) us))

  pub words-upto : (s f : UnitKind) (at : ℕ) (us : List (List ℕ)) → Within (λ o. o ≤ at + size us) (word_starts ucd s f at us)
  words-upto s f at [] = tt
  words-upto s f at (u ∷ us) =
      let more = word_starts ucd f (kind_of ucd u) (at + length u) us in
      put-within (λ o. o ≤ at + size (u ∷ us)) (begins_word s f (kind_of ucd u)) at more (omega arith)
      (within-weaker (λ o. o ≤ at + length u + size us) (λ o. o ≤ at + size (u ∷ us)) (λ o h. omega (arith, h)) more
      (words-upto f (kind_of ucd u) (at + length u) us))

  -- what stands before a unit of the kind `k` is no matter to the units after it, as if it were a mark
  abbrev pub IsNoMatter : UnitKind → UnitKind → Type 0
  IsNoMatter before k = (v : UnitKind) → goes_on before k v ≡ goes_on Mark k v

  tail-same : (f k : UnitKind) → IsNoMatter f k → (at : ℕ) (us : List (List ℕ)) → word_starts ucd f k at us ≡ word_starts ucd Mark k at us
  tail-same f k alike at [] = refl
  tail-same f k alike at (u ∷ us) =
      ap (λ b. put_if (is_of_word (kind_of ucd u) && not b) at (word_starts ucd k (kind_of ucd u) (at + length u) us)) (alike (kind_of ucd u))

  -- starts are those after the first unit, and maybe the first unit's
  lead : (i b : Bool) (at : ℕ) (os : List ℕ) → (ps : List ℕ) × ((put_if (i && not b) at os ≡ ps ++ put_if (i && not true) at os) × Within (λ o. o ≤ at) ps)
  lead true true at os = ([], (refl, tt))
  lead true false at os = (at ∷ [], (refl, (omega arith, tt)))
  lead false b at os = ([], (refl, tt))

  words-lead : (s f : UnitKind) (at : ℕ) (us : List (List ℕ)) → IsNoMatter f (first_kind ucd us)
      → (ps : List ℕ) × ((word_starts ucd s f at us ≡ ps ++ word_starts ucd Mark Mark at us) × Within (λ o. o ≤ at) ps)
  words-lead s f at [] alike = ([], (refl, tt))
  words-lead s f at (u ∷ us) alike =
      let k = kind_of ucd u in
      let (ps, (e, upto)) = lead (is_of_word k) (goes_on s f k) at (word_starts ucd f k (at + length u) us) in
      (ps, (e ∙ ap (λ os. ps ++ put_if (is_of_word k && not true) at os) (tail-same f k alike (at + length u) us), upto))

-- behind none but signs a letter's or a digit's neighbour counts
pub no-sign : (before k : UnitKind) → is_sign k ≡ false → (v : UnitKind) → goes_on before k v ≡ goes_on Mark k v
no-sign before Letter h v = refl
no-sign before Digit h v = refl
no-sign before Mark h v = refl
no-sign before LetterSign h v = absurd (cc h)
no-sign before DigitSign h v = absurd (cc h)
no-sign before Other h v = refl

pub none-before : (k v : UnitKind) → goes_on Other k v ≡ goes_on Mark k v
none-before Letter v = refl
none-before Digit v = refl
none-before Mark v = refl
none-before LetterSign v = refl
none-before DigitSign v = refl
none-before Other v = refl

-- ---- a boundary of a body's clusters

pub record IsPart (body : List ℕ) (at : ℕ) : Type 0 where
  pub front : List (List ℕ)
  pub parts : graphemes true body ≡ front ++ graphemes true (drop at body)
  pub size_is : size front ≡ at
  pub bound : IsCharBoundary body at

module _ (body : List ℕ) (utf8 : IsUtf8 body) where
  pub part-start : IsPart body 0
  part-start = record { front = []; parts = refl; size_is = refl; bound = IsCharBoundary-start body utf8 }

  module _ (ucd : Data) (w : ℕ) where
    part-from : (i at : ℕ) (front ps : List (List ℕ)) → graphemes true body ≡ front ++ ps → graphemes true (drop at body) ≡ ps → size front ≡ at
        → IsCharBoundary body at → IsPart body (first_offset (drop i (map (unit_at ucd w) (with_offsets at ps))))
    unfolding with_offsets
    part-from zero at front [] e r s b = part-start
    part-from (suc i) at front [] e r s b = part-start
    part-from zero at front (p ∷ ps) e r s b = record { front = front; parts = e ∙ ap (λ x. front ++ x) (sym r); size_is = s; bound = b }
    part-from (suc i) at front (p ∷ ps) e r s b =
        let n = next-cluster ucd w body at p ps utf8 b r in
        part-from i (at + length p) (front ++ p ∷ []) ps (e ∙ sym (append_assoc front (p ∷ []) ps)) (sym n.own)
        (omega (arith, s, size-append front (p ∷ []))) n.boundary

    -- each unit begins at one
    pub part-at : (i : ℕ) → IsPart body (first_offset (drop i (units ucd w body)))
    part-at i = part-from i 0 [] (graphemes true body) refl refl refl (IsCharBoundary-start body utf8)

empty-text : (text : List ℕ) → length text ≡ 0 → text ≡ []
empty-text [] h = refl
empty-text (b ∷ bs) h = absurd (omega (arith, h))

pub no-characters : (text : List ℕ) → length text ≡ 0 → chars text ≡ []
no-characters text h = ap chars (empty-text text h) ∙ chars-nil

-- nothing is left at the end
pub none-left : (body : List ℕ) (at : ℕ) → length body ≤ at → graphemes true (drop at body) ≡ []
unfolding segments cut
none-left body at h =
    ap (λ x. map encode_utf8_all (cut (is_grapheme_break true) [] (chars x) [])) (drop_all at body h)
    ∙ ap (λ x. map encode_utf8_all (cut (is_grapheme_break true) [] x [])) chars-nil

-- ---- a body's words, cut at a boundary

-- a boundary from which words can be read: what stands before it matters only to whether the unit at the boundary begins one
pub record IsReadable (ucd : Data) (body : List ℕ) (at : ℕ) : Type 0 where
  pub part : IsPart body at
  pub alike : IsNoMatter ucd (last-kinds ucd Other Other part.front).1 (first_kind ucd (graphemes true (drop at body)))

pub readable-start : (ucd : Data) (body : List ℕ) (utf8 : IsUtf8 body) → IsReadable ucd body 0
unfolding part-start
readable-start ucd body utf8 = record { part = part-start body utf8; alike = none-before (first_kind ucd (graphemes true (drop 0 body))) }

pub readable-unsigned : (ucd : Data) (body : List ℕ) (at : ℕ) → IsPart body at → is_sign (first_kind ucd (graphemes true (drop at body))) ≡ false
    → IsReadable ucd body at
readable-unsigned ucd body at part h =
    record { part = part; alike = no-sign (last-kinds ucd Other Other part.front).1 (first_kind ucd (graphemes true (drop at body))) h }

module _ (ucd : Data) (body : List ℕ) (at : ℕ) (reads : IsReadable ucd body at) where
  -- the starts of words after the unit at the boundary
  abbrev pub behind : List ℕ
  behind = word_starts ucd Mark Mark at (graphemes true (drop at body))

  pub record IsCut : Type 0 where
    pub ahead : List ℕ
    pub words : body_words ucd body ≡ ahead ++ behind
    pub upto : Within (λ o. o ≤ at) ahead

  pub words-cut : IsCut
  words-cut =
      let front = reads.part.front in
      let rest = graphemes true (drop at body) in
      let last = last-kinds ucd Other Other front in
      let (ps, (e, upto)) = words-lead ucd last.0 last.1 at rest reads.alike in
      let first = word_starts ucd Other Other 0 front in
      let place : 0 + size front ≡ at = omega (arith, reads.part.size_is) in
      record {
        ahead = first ++ ps;
        words = ap (word_starts ucd Other Other 0) reads.part.parts ∙ words-append ucd Other Other 0 front rest
            ∙ ap (λ n. first ++ word_starts ucd last.0 last.1 n rest) place
            ∙ ap (λ os. first ++ os) e ∙ sym (append_assoc first ps behind);
        upto = within-append (λ o. o ≤ at) first ps (subst (λ n. Within (λ o. o ≤ n) first) place (words-upto ucd Other Other 0 front)) upto;
      }

  -- ---- the first start from an offset on

  pub first-behind : (offset : ℕ) → at ≤ offset → find (nat_lt offset) (body_words ucd body) ≡ find (nat_le (offset + 1)) behind
  first-behind offset order =
      let c = words-cut in
      let fail : Within (λ o. nat_lt offset o ≡ false) c.ahead =
      within-weaker (λ o. o ≤ at) (λ o. nat_lt offset o ≡ false) (λ o h. grind (arith, nat_tests)) c.ahead c.upto in
      ap (find (nat_lt offset)) c.words ∙ find-append (nat_lt offset) c.ahead behind
      ∙ ap (λ x. option_or x (find (nat_lt offset) behind)) (none-found (nat_lt offset) c.ahead fail)
      ∙ found-same (nat_lt offset) (nat_le (offset + 1)) behind
      (within-weaker (λ o. at ≤ o) (λ o. nat_lt offset o ≡ nat_le (offset + 1) o) (λ o h. grind (arith, nat_tests)) behind
      (words-from ucd Mark Mark at (graphemes true (drop at body))))

  -- ---- the last start before a bound

  module _ (bound : ℕ) where
    abbrev before : ℕ → Bool
    before o = nat_lt o bound

    last-cut : find before (reverse (body_words ucd body)) ≡ option_or (find before (reverse behind)) (find before (reverse words-cut.ahead))
    last-cut =
        let c = words-cut in
        ap (λ os. find before (reverse os)) c.words ∙ ap (find before) (reverse-append c.ahead behind)
        ∙ find-append before (reverse behind) (reverse c.ahead)

    pub last-found : (o : ℕ) → find before (reverse behind) ≡ Some o → find before (reverse (body_words ucd body)) ≡ Some o
    last-found o e = last-cut ∙ ap (λ x. option_or x (find before (reverse words-cut.ahead))) e

  -- none after the boundary: the last start is before a bound just past it
  module _ (bound : ℕ) (none : find (λ o. nat_lt o bound) (reverse behind) ≡ None) where
    abbrev nearer : ℕ → Bool
    nearer o = nat_lt o (min bound (at + 1))

    still-none : find nearer (reverse behind) ≡ None
    still-none =
        none-found nearer (reverse behind)
        (within-weaker (λ o. nat_lt o bound ≡ false) (λ o. nearer o ≡ false) (λ o h. grind (arith, nat_tests)) (reverse behind)
        (all-fail (λ o. nat_lt o bound) (reverse behind) none))

    same-ahead : find (λ o. nat_lt o bound) (reverse words-cut.ahead) ≡ find nearer (reverse words-cut.ahead)
    same-ahead =
        let c = words-cut in
        found-same (λ o. nat_lt o bound) nearer (reverse c.ahead)
        (within-weaker (λ o. o ≤ at) (λ o. nat_lt o bound ≡ nearer o) (λ o h. grind (arith, nat_tests)) (reverse c.ahead)
        (within-reverse (λ o. o ≤ at) c.ahead c.upto))

    pub last-nearer : find (λ o. nat_lt o bound) (reverse (body_words ucd body)) ≡ find nearer (reverse (body_words ucd body))
    last-nearer =
        last-cut bound ∙ ap (λ x. option_or x (find (λ o. nat_lt o bound) (reverse words-cut.ahead))) none ∙ same-ahead
        ∙ sym (last-cut (min bound (at + 1)) ∙ ap (λ x. option_or x (find nearer (reverse words-cut.ahead))) still-none)

-- from a body's start on, all starts are after it or at it
pub last-of-all : (ucd : Data) (body : List ℕ) (utf8 : IsUtf8 body) (bound : ℕ)
    → unwrap_or (find (λ o. nat_lt o bound) (reverse (body_words ucd body))) 0
    ≡ unwrap_or (find (λ o. nat_lt o bound) (reverse (word_starts ucd Mark Mark 0 (graphemes true body)))) 0
last-of-all ucd body utf8 bound =
    let reads = readable-start ucd body utf8 in
    let c = words-cut ucd body 0 reads in
    let before : ℕ → Bool = λ o. nat_lt o bound in
    ap (λ x. unwrap_or x 0) (last-cut ucd body 0 reads bound)
    ∙ or-zero (find before (reverse (behind ucd body 0 reads))) (find before (reverse c.ahead))
    (zero-found before (reverse c.ahead) (within-reverse (λ o. o ≤ 0) c.ahead c.upto))

-- ---- steps of a search by units

module _ (from at : ℕ) (rest : List ℕ) where
  pub first-here : (b : Bool) → (b && nat_le from at) ≡ true → find (nat_le from) (put_if b at rest) ≡ Some at
  first-here true e = ap (λ c. cond c (Some at) (find (nat_le from) rest)) e
  first-here false e = cc

  pub first-later : (b : Bool) → (b && nat_le from at) ≡ false → find (nat_le from) (put_if b at rest) ≡ find (nat_le from) rest
  first-later true e = ap (λ c. cond c (Some at) (find (nat_le from) rest)) e
  first-later false e = refl

or-or : (x y z : Option ℕ) → option_or (option_or x y) z ≡ option_or x (option_or y z)
or-or None y z = refl
or-or (Some o) y z = refl

module _ (bound at : ℕ) (rest : List ℕ) (found : Option ℕ) where
  abbrev earlier : ℕ → Bool
  earlier o = nat_lt o bound

  pub last-later : (b : Bool) → at < bound
      → option_or (find earlier (reverse (put_if b at rest))) found
      ≡ option_or (find earlier (reverse rest)) (elim b [ true ↦ Some at | false ↦ found ])
  last-later true h =
      let here : earlier at ≡ true = grind (arith, nat_tests) in
      ap (λ x. option_or (find earlier x) found) (reverse-append (at ∷ []) rest)
      ∙ ap (λ x. option_or x found) (find-append earlier (reverse rest) (at ∷ [])
      ∙ ap (λ c. option_or (find earlier (reverse rest)) (cond c (Some at) None)) here)
      ∙ or-or (find earlier (reverse rest)) (Some at) found
  last-later false h = refl

-- none of the units from an offset on begins before the bound and before the body's end
module _ (ucd : Data) (body : List ℕ) (second first : UnitKind) (at bound : ℕ) where
  abbrev left : List ℕ
  left = word_starts ucd second first at (graphemes true (drop at body))

  pub none-from : min bound (length body) ≤ at → find (λ o. nat_lt o bound) (reverse left) ≡ None
  none-from h = ⊎_elim
      (λ short. ap (λ us. find (λ o. nat_lt o bound) (reverse (word_starts ucd second first at us))) (none-left body at (omega (arith, h, short))))
      (λ past. none-found (λ o. nat_lt o bound) (reverse left)
      (within-weaker (λ o. at ≤ o) (λ o. nat_lt o bound ≡ false) (λ o b. grind (arith, nat_tests)) (reverse left)
      (within-reverse (λ o. at ≤ o) left (words-from ucd second first at (graphemes true (drop at body)))))) (cases_lt at bound)
