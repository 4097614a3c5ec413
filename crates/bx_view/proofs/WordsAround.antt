-- The word that has a unit, by the last start of a word before it and the end of that word.
use Rattle.std.proofs.Common.{◌≡◌, ℕ, ◌+◌, ◌-◌, ◌<◌, ◌≤◌, min, nat_le, nat_lt, not, ◌&&◌, ◌||◌, cond, Bool, true, false, List, [], ◌∷◌, length, drop, reverse, find}
use Rattle.std.proofs.Common.{Option, Some, None, unwrap_or, IsUtf8, IsCharBoundary, refl, sym, ap, subst, ◌∙◌, arith}
use Rattle.std.specs.Option.{option_or}
use Rattle.std.proofs.lemmas.Bool.Decides.{nat_tests}
use Rattle.std.proofs.lemmas.List.{drop-drop, reverse-append}
use Rattle.std.proofs.lemmas.List.Folds.{find-append}
use Rattle.std.proofs.lemmas.Str.{IsCharBoundary-start, IsUtf8-drop}
use Rattle.unicode_segmentation.specs.Grapheme.{graphemes}
use Rattle.bx_ucd.specs.Data.{Data}
use Rattle.bx_rows.proofs.cells_lemmas.Rest.{first-cluster, next-cluster}
use Rattle.bx_view.specs.declared.moves.unit_kind.UnitKind.{UnitKind}
use Rattle.bx_view.specs.declared.moves.unit_kind.UnitKind.TheVariants.{Letter, Digit, Mark, LetterSign, DigitSign, Other}
use Rattle.bx_view.specs.Numbers.{boundaries}
use Rattle.bx_view.specs.Words.{begins_word, body_words, first_kind, goes_on, is_of_word, kind_of, put_if, put_pair_if, unit_start, unit_stop}
use Rattle.bx_view.specs.Words.{word_around, word_end, word_spans, word_starts}
use Rattle.bx_view.proofs.Within.{Lies, Within, find-lies, within-reverse}
use Rattle.bx_view.proofs.UnitSteps.{next-bound}
use Rattle.bx_view.proofs.WordParts.{none-found, none-left, put-within, within-weaker, words-from}

-- ---- kinds

-- a unit of a word is gone on with by all units
on-after : (s k : UnitKind) (v : UnitKind) → is_of_word k ≡ true → goes_on s k v ≡ true
on-after s Letter v h = refl
on-after s Digit v h = refl
on-after s Mark v h = refl
on-after s LetterSign v h = absurd (cc h)
on-after s DigitSign v h = absurd (cc h)
on-after s Other v h = absurd (cc h)

-- behind a unit of another kind none goes on
off-after : (k v : UnitKind) → is_of_word k ≡ false → goes_on Other k v ≡ false
off-after Letter v h = absurd (cc h)
off-after Digit v h = absurd (cc h)
off-after Mark v h = absurd (cc h)
off-after LetterSign v h = refl
off-after DigitSign v h = refl
off-after Other v h = refl

of-word : (s f k : UnitKind) → begins_word s f k ≡ true → is_of_word k ≡ true
of-word s f Letter h = refl
of-word s f Digit h = refl
of-word s f Mark h = refl
of-word s f LetterSign h = absurd (cc h)
of-word s f DigitSign h = absurd (cc h)
of-word s f Other h = absurd (cc h)

-- the first of some units goes on with the word before them
abbrev GoesOn : Data → UnitKind → UnitKind → List (List ℕ) → Type 0
GoesOn ucd f k us = is_of_word (first_kind ucd us) ≡ true → goes_on f k (first_kind ucd us) ≡ true

none-begins : (f k v : UnitKind) → (is_of_word v ≡ true → goes_on f k v ≡ true) → begins_word f k v ≡ false
none-begins f k Letter h = ap not (h refl)
none-begins f k Digit h = ap not (h refl)
none-begins f k Mark h = ap not (h refl)
none-begins f k LetterSign h = refl
none-begins f k DigitSign h = refl
none-begins f k Other h = refl

-- a unit of a word, or a sign within one, is gone on with by the next unit, if that is of a word
still-on : (k v next : UnitKind) → (is_of_word v || goes_on k v next) ≡ true → is_of_word next ≡ true → goes_on k v next ≡ true
still-on k Letter next h w = refl
still-on k Digit next h w = refl
still-on k Mark next h w = refl
still-on k LetterSign next h w = h
still-on k DigitSign next h w = h
still-on k Other next h w = h

ends-before : (c b : Bool) (at end : ℕ) (rest : List ℕ) → (c ≡ true → (b ≡ false) × Within (λ o. end ≤ o) rest) → Within (λ o. at ≤ o) (put_if b at rest)
    → Within (λ o. elim c [ true ↦ end | false ↦ at ] ≤ o) (put_if b at rest)
ends-before true b at end rest on all = let (none, past) = on refl in subst (λ b. Within (λ o. end ≤ o) (put_if b at rest)) (sym none) past
ends-before false b at end rest on all = all

-- a word goes on with the next unit, or ends there
module _ (ucd : Data) where
  -- the next word begins where this one ends, or later
  starts-past : (f k : UnitKind) (at : ℕ) (us : List (List ℕ)) → GoesOn ucd f k us → Within (λ o. word_end ucd k at us ≤ o) (word_starts ucd f k at us)
  starts-past f k at [] on = tt
  starts-past f k at (u ∷ us) on =
      let v = kind_of ucd u in
      ends-before (is_of_word v || goes_on k v (first_kind ucd us)) (begins_word f k v) at (word_end ucd v (at + length u) us)
      (word_starts ucd k v (at + length u) us)
      (λ c. (none-begins f k v on, starts-past k v (at + length u) us (still-on k v (first_kind ucd us) c)))
      (words-from ucd f k at (u ∷ us))

-- ---- the word of a unit

-- the word that begins at the last start before a unit, if it goes on to the unit
abbrev if-reaches : ℕ → ℕ → ℕ → Option (ℕ × ℕ)
if-reaches start begin end = cond (nat_lt start end) (Some (begin, end)) None

abbrev has-start : ℕ → ℕ × ℕ → Bool
has-start start w = nat_le w.0 start && nat_lt start w.1

-- the end of a word that goes on, else its start
abbrev end-or : Bool → ℕ → ℕ → ℕ
end-or b end at = elim b [ true ↦ end | false ↦ at ]

some-or : (x : Option ℕ) (o : ℕ) → option_or x (Some o) ≡ None → ⊥
some-or None o e = cc e
some-or (Some p) o e = cc e

either-word : (b : Bool) (w d : ℕ × ℕ) → cond b w d ≡ unwrap_or (cond b (Some w) None) d
either-word true w d = refl
either-word false w d = refl

module _ (ucd : Data) (body : List ℕ) (utf8 : IsUtf8 body) (start : ℕ) where
  abbrev end-of : ℕ → ℕ
  end-of begin = word_end ucd Other begin (graphemes true (drop begin body))

  abbrev reaching : Option ℕ → Option (ℕ × ℕ)
  reaching None = None
  reaching (Some begin) = if-reaches start begin (end-of begin)

  abbrev upto : ℕ → Bool
  upto o = nat_lt o (start + 1)

  -- a word that begins after the unit, or ends before it
  later-word : (at end : ℕ) (found : Option ℕ) (spans : List (ℕ × ℕ)) → find (has-start start) spans ≡ reaching found → (a b : Bool) → nat_le at start ≡ a
      → nat_lt start end ≡ b → end-of at ≡ end → (a ≡ true → b ≡ true → found ≡ None)
      → cond (a && b) (Some (at, end)) (find (has-start start) spans) ≡ reaching (option_or found (cond a (Some at) None))
  later-word at end found spans rest true true e f is none =
      let no = none refl refl in
      sym (ap (λ x. reaching (option_or x (Some at))) no ∙ ap (if-reaches start at) is ∙ ap (λ b. cond b (Some (at, end)) None) f)
  later-word at end None spans rest true false e f is none = rest ∙ sym (ap (if-reaches start at) is ∙ ap (λ b. cond b (Some (at, end)) None) f)
  later-word at end (Some begin) spans rest true false e f is none = rest
  later-word at end None spans rest false b e f is none = rest
  later-word at end (Some begin) spans rest false b e f is none = rest

  put-word : (b : Bool) (at end : ℕ) (starts : List ℕ) (spans : List (ℕ × ℕ)) → find (has-start start) spans ≡ reaching (find upto (reverse starts))
      → (b ≡ true → (end-of at ≡ end) × Within (λ o. end ≤ o) starts)
      → find (has-start start) (put_pair_if b (at, end) spans) ≡ reaching (find upto (reverse (put_if b at starts)))
  put-word false at end starts spans rest on = rest
  put-word true at end starts spans rest on =
      let (is, past) = on refl in
      let found = find upto (reverse starts) in
      let same : upto at ≡ nat_le at start = grind (arith, nat_tests) in
      later-word at end found spans rest (nat_le at start) (nat_lt start end) refl refl is
      (λ low high. none-found upto (reverse starts)
      (within-reverse (λ o. upto o ≡ false) starts (within-weaker (λ o. end ≤ o) (λ o. upto o ≡ false) (λ o h. grind (arith, nat_tests)) starts past)))
      ∙ sym (ap reaching (ap (find upto) (reverse-append (at ∷ []) starts) ∙ find-append upto (reverse starts) (at ∷ [])
      ∙ ap (λ b. option_or found (cond b (Some at) None)) same))

  -- the last start of a word up to the unit's finds the word that has the unit
  spans-found : (s f : UnitKind) (at : ℕ) (us : List (List ℕ)) → IsCharBoundary body at → graphemes true (drop at body) ≡ us
      → find (has-start start) (word_spans ucd s f at us) ≡ reaching (find upto (reverse (word_starts ucd s f at us)))
  spans-found s f at [] bound e = refl
  spans-found s f at (u ∷ us) bound e =
      let k = kind_of ucd u in
      let next = next-cluster ucd 1 body at u us utf8 bound e in
      let end = word_end ucd k (at + length u) us in
      put-word (begins_word s f k) at end (word_starts ucd f k (at + length u) us) (word_spans ucd f k (at + length u) us)
      (spans-found f k (at + length u) us next.boundary (sym next.own))
      (λ begins.
      let word = of-word s f k begins in (
        ap (word_end ucd Other at) e ∙ ap (λ b. elim (b || goes_on Other k (first_kind ucd us)) [ true ↦ end | false ↦ at ]) word,
        starts-past ucd f k (at + length u) us (λ w. on-after f k (first_kind ucd us) word),
      ))

  -- where no word begins up to the unit, none begins at the body's start
  at-start : (b goes : Bool) (rest : List ℕ) (end : ℕ) → (b ≡ false → goes ≡ false) → find upto (reverse (put_if (b && not false) 0 rest)) ≡ None
      → end-or (b || goes) end 0 ≡ 0
  at-start true goes rest end off none =
      let here : upto 0 ≡ true = grind (arith, nat_tests) in
      absurd (some-or (find upto (reverse rest)) 0
      (sym (ap (find upto) (reverse-append (0 ∷ []) rest) ∙ find-append upto (reverse rest) (0 ∷ [])
      ∙ ap (λ b. option_or (find upto (reverse rest)) (cond b (Some 0) None)) here) ∙ none))
  at-start false goes rest end off none = ap (λ b. end-or b end 0) (off refl)

  none-at-start : (us : List (List ℕ)) → find upto (reverse (word_starts ucd Other Other 0 us)) ≡ None → word_end ucd Other 0 us ≡ 0
  none-at-start [] none = refl
  none-at-start (u ∷ us) none =
      let k = kind_of ucd u in
      at-start (is_of_word k) (goes_on Other k (first_kind ucd us)) (word_starts ucd Other k (0 + length u) us) (word_end ucd k (0 + length u) us)
      (off-after k (first_kind ucd us)) none

  around-at : (x : Option ℕ) → find upto (reverse (body_words ucd body)) ≡ x
      → cond (nat_lt start (end-of (unwrap_or x 0))) (unwrap_or x 0, end-of (unwrap_or x 0)) (start, unit_stop body start)
      ≡ unwrap_or (reaching x) (start, unit_stop body start)
  around-at None e =
      let none : nat_lt start 0 ≡ false = grind (arith, nat_tests) in
      ap (λ n. cond (nat_lt start n) (0, n) (start, unit_stop body start)) (none-at-start (graphemes true body) e)
      ∙ ap (λ b. cond b (0, 0) (start, unit_stop body start)) none
  around-at (Some begin) e = either-word (nat_lt start (end-of begin)) (begin, end-of begin) (start, unit_stop body start)

  pub around-is : (begin end stop : ℕ) → begin ≡ unwrap_or (find upto (reverse (body_words ucd body))) 0 → end ≡ end-of begin → stop ≡ unit_stop body start
      → cond (nat_lt start end) (begin, end) (start, stop) ≡ word_around ucd body start
  around-is begin end stop b e u =
      let x = find upto (reverse (body_words ucd body)) in
      ap (λ n. cond (nat_lt start end) (begin, end) (start, n)) u
      ∙ ap (λ n. cond (nat_lt start n) (begin, n) (start, unit_stop body start)) e
      ∙ ap (λ n. cond (nat_lt start (end-of n)) (n, end-of n) (start, unit_stop body start)) b
      ∙ around-at x refl
      ∙ ap (λ y. unwrap_or y (start, unit_stop body start)) (sym (spans-found Other Other 0 (graphemes true body) (IsCharBoundary-start body utf8) refl))

-- ---- the ends of a unit and of a word are boundaries of units

module _ (P : ℕ → Type 0) (ucd : Data) where
  abbrev Both : ℕ × ℕ → Type 0
  Both w = P w.0 × P w.1

  abbrev Each : List (ℕ × ℕ) → Type 0
  Each [] = Prim.Unit {0}
  Each (w ∷ ws) = Both w × Each ws

  first-within : (at : ℕ) (us : List (List ℕ)) → Within P (boundaries at us) → P at
  first-within at [] a = a.0
  first-within at (u ∷ us) a = a.0

  either-end : (c : Bool) (end at : ℕ) → P end → P at → P (elim c [ true ↦ end | false ↦ at ])
  either-end true end at a b = a
  either-end false end at a b = b

  end-lies : (k : UnitKind) (at : ℕ) (us : List (List ℕ)) → Within P (boundaries at us) → P (word_end ucd k at us)
  end-lies k at [] a = a.0
  end-lies k at (u ∷ us) a =
      let v = kind_of ucd u in
      either-end (is_of_word v || goes_on k v (first_kind ucd us)) (word_end ucd v (at + length u) us) at (end-lies v (at + length u) us a.1) a.0

  put-each : (b : Bool) (w : ℕ × ℕ) (ws : List (ℕ × ℕ)) → Both w → Each ws → Each (put_pair_if b w ws)
  put-each true w ws a rest = (a, rest)
  put-each false w ws a rest = rest

  spans-lie : (s f : UnitKind) (at : ℕ) (us : List (List ℕ)) → Within P (boundaries at us) → Each (word_spans ucd s f at us)
  spans-lie s f at [] a = tt
  spans-lie s f at (u ∷ us) a =
      let k = kind_of ucd u in
      put-each (begins_word s f k) (at, word_end ucd k (at + length u) us) (word_spans ucd f k (at + length u) us)
      (a.0, end-lies k (at + length u) us a.1) (spans-lie f k (at + length u) us a.1)

  found-at : (b : Bool) (w d : ℕ × ℕ) (rest : Option (ℕ × ℕ)) → Both w → Both (unwrap_or rest d) → Both (unwrap_or (cond b (Some w) rest) d)
  found-at true w d rest a other = a
  found-at false w d rest a other = other

  found-lies : (p : ℕ × ℕ → Bool) (d : ℕ × ℕ) → Both d → (ws : List (ℕ × ℕ)) → Each ws → Both (unwrap_or (find p ws) d)
  found-lies p d h [] a = h
  found-lies p d h (w ∷ ws) a = found-at (p w) w d (find p ws) a.0 (found-lies p d h ws a.1)

  or-lies : (x : Option ℕ) (d : ℕ) → Lies P x → P d → P (unwrap_or x d)
  or-lies None d a b = b
  or-lies (Some o) d a b = a

  module _ (body : List ℕ) (all : Within P (boundaries 0 (graphemes true body))) where
    pub stop-lies : (offset : ℕ) → P offset → P (unit_stop body offset)
    stop-lies offset a =
        or-lies (find (nat_lt offset) (boundaries 0 (graphemes true body))) offset (find-lies P (nat_lt offset) (boundaries 0 (graphemes true body)) all) a

    pub start-lies : (offset : ℕ) → P (unit_start body offset)
    start-lies offset =
        let os = boundaries 0 (graphemes true body) in
        let upto : ℕ → Bool = λ o. nat_le o (min offset (length body - 1)) in
        or-lies (find upto (reverse os)) 0 (find-lies P upto (reverse os) (within-reverse P os all)) (first-within 0 (graphemes true body) all)

    pub word-lies : (start : ℕ) → P start → Both (word_around ucd body start)
    word-lies start a =
        found-lies (has-start start) (start, unit_stop body start) (a, stop-lies start a) (word_spans ucd Other Other 0 (graphemes true body))
        (spans-lie Other Other 0 (graphemes true body) all)

-- ---- a word ends after it begins

order-at : (start : ℕ) (d w : ℕ × ℕ) (rest : Option (ℕ × ℕ)) (a b : Bool) → nat_le w.0 start ≡ a → nat_lt start w.1 ≡ b
    → (unwrap_or rest d).0 ≤ (unwrap_or rest d).1 → (unwrap_or (cond (a && b) (Some w) rest) d).0 ≤ (unwrap_or (cond (a && b) (Some w) rest) d).1
order-at start d w rest true true e f h =
    let low : w.0 ≤ start = grind (arith, nat_tests) in let high : start < w.1 = grind (arith, nat_tests) in omega (arith, low, high)
order-at start d w rest true false e f h = h
order-at start d w rest false b e f h = h

found-order : (start : ℕ) (d : ℕ × ℕ) → d.0 ≤ d.1 → (ws : List (ℕ × ℕ)) → (unwrap_or (find (has-start start) ws) d).0 ≤ (unwrap_or (find (has-start start) ws) d).1
found-order start d h [] = h
found-order start d h (w ∷ ws) = order-at start d w (find (has-start start) ws) (nat_le w.0 start) (nat_lt start w.1) refl refl (found-order start d h ws)

stop-at : (offset o : ℕ) (rest : Option ℕ) (b : Bool) → nat_lt offset o ≡ b → offset ≤ unwrap_or rest offset → offset ≤ unwrap_or (cond b (Some o) rest) offset
stop-at offset o rest true e h = let past : offset < o = grind (arith, nat_tests) in omega (arith, past)
stop-at offset o rest false e h = h

stop-found : (offset : ℕ) (os : List ℕ) → offset ≤ unwrap_or (find (nat_lt offset) os) offset
stop-found offset [] = omega arith
stop-found offset (o ∷ os) = stop-at offset o (find (nat_lt offset) os) (nat_lt offset o) refl (stop-found offset os)

pub stop-order : (body : List ℕ) (offset : ℕ) → offset ≤ unit_stop body offset
stop-order body offset = stop-found offset (boundaries 0 (graphemes true body))

pub word-order : (ucd : Data) (body : List ℕ) (start : ℕ) → (word_around ucd body start).0 ≤ (word_around ucd body start).1
word-order ucd body start =
    found-order start (start, unit_stop body start) (stop-order body start) (word_spans ucd Other Other 0 (graphemes true body))

-- ---- the boundaries of units are boundaries of characters

chars-within : (body : List ℕ) → IsUtf8 body → (at : ℕ) (us : List (List ℕ)) → IsCharBoundary body at → graphemes true (drop at body) ≡ us
    → Within (IsCharBoundary body) (boundaries at us)
chars-within body utf8 at [] bound e = (bound, tt)
chars-within body utf8 at (u ∷ us) bound e =
    let left : drop (length u) (drop at body) ≡ drop (at + length u) body = drop-drop (length u) at body in
    let first = first-cluster (drop at body) u us (IsUtf8-drop body at utf8 bound) e in
    let next = next-bound body at u us utf8 bound e in
    (bound, chars-within body utf8 (at + length u) us next.bounds (sym (first.own ∙ ap (graphemes true) left)))

starts-lie : (P : ℕ → Type 0) (ucd : Data) (s f : UnitKind) (at : ℕ) (us : List (List ℕ)) → Within P (boundaries at us) → Within P (word_starts ucd s f at us)
starts-lie P ucd s f at [] a = tt
starts-lie P ucd s f at (u ∷ us) a =
    let k = kind_of ucd u in
    put-within P (begins_word s f k) at (word_starts ucd f k (at + length u) us) a.0 (starts-lie P ucd f k (at + length u) us a.1)

pub bounds-within : (body : List ℕ) → IsUtf8 body → Within (IsCharBoundary body) (boundaries 0 (graphemes true body))
bounds-within body utf8 = chars-within body utf8 0 (graphemes true body) (IsCharBoundary-start body utf8) refl

-- the last start of a word before an offset, or the body's start
pub begin-bound : (ucd : Data) (body : List ℕ) → IsUtf8 body → (bound begin : ℕ)
    → begin ≡ unwrap_or (find (λ o. nat_lt o bound) (reverse (body_words ucd body))) 0 → IsCharBoundary body begin
begin-bound ucd body utf8 bound begin e =
    let P = IsCharBoundary body in
    let start = IsCharBoundary-start body utf8 in
    let all = bounds-within body utf8 in
    let words = starts-lie P ucd Other Other 0 (graphemes true body) all in
    let before : ℕ → Bool = λ o. nat_lt o bound in
    subst P (sym e) (or-lies P ucd (find before (reverse (body_words ucd body))) 0
    (find-lies P before (reverse (body_words ucd body)) (within-reverse P (body_words ucd body) words)) start)

-- ---- at a body's end

pub past-stop : (body : List ℕ) → IsUtf8 body → (offset : ℕ) → length body ≤ offset → unit_stop body offset ≡ offset
past-stop body utf8 offset past =
    let os = boundaries 0 (graphemes true body) in
    ap (λ x. unwrap_or x offset) (none-found (nat_lt offset) os
    (within-weaker (IsCharBoundary body) (λ o. nat_lt offset o ≡ false)
    (λ o b. let short : o ≤ length body = b.0 in let low : o ≤ offset = omega (arith, short, past) in grind (arith, nat_tests)) os
    (bounds-within body utf8)))

-- ---- an empty body

abbrev zero-or : Bool → ℕ
zero-or b = unwrap_or (cond b (Some 0) None) 0

either-zero : (b : Bool) → zero-or b ≡ 0
either-zero true = refl
either-zero false = refl

pub empty-word : (ucd : Data) (body : List ℕ) (offset : ℕ) → length body ≡ 0 → (0, 0) ≡ word_around ucd body (unit_start body offset)
empty-word ucd body offset none =
    let gs = none-left body 0 (omega (arith, none)) in
    let last = min offset (length body - 1) in
    let start = ap (λ us. unwrap_or (find (λ o. nat_le o last) (reverse (boundaries 0 us))) 0) gs ∙ either-zero (nat_le 0 last) in
    sym (ap (word_around ucd body) start
    ∙ ap (λ us. unwrap_or (find (has-start 0) (word_spans ucd Other Other 0 us)) (0, unwrap_or (find (nat_lt 0) (boundaries 0 us)) 0)) gs)
