-- Where characters without a separator give way to others, one paragraph changes, and there alone.
use Rattle.std.proofs.Common.{◌≡◌, ◌≢◌, ℕ, zero, suc, ◌<◌, ◌==◌, ◌&&◌, Bool, true, false, List, [], ◌∷◌, ◌++◌, length, length-append, get_or}
use Rattle.std.proofs.Common.{append_assoc, chars, encode_utf8, encode_utf8_all, IsUtf8, refl, sym, ap, ◌∙◌, arith}
use Rattle.std.proofs.lemmas.Str.{chars_past_char, IsUtf8-past_char}
use Rattle.bx_ucd.specs.Data.{Data}
use Rattle.bx_text.specs.index.Paragraphs.{Paragraph, after_character, after_cr, bare, begins_with_lf, cut, is_separator}

abbrev pub AreInLine : Data → List ℕ → Type 0
AreInLine ucd [] = Unit {0}
AreInLine ucd (c ∷ cs) = (is_separator (ucd.class c) ≡ false) × AreInLine ucd cs

-- ---- a cut, character by character

cut-plain : (ucd : Data) (c : ℕ) (cs : List ℕ) → is_separator (ucd.class c) ≡ false → cut ucd (c ∷ cs) ≡ after_character c (cut ucd cs)
cut-plain ucd c cs h = ap (λ b. elim b as (λ x. List Paragraph) [
  | false ↦ after_character c (cut ucd cs)
  | true ↦ elim ((c == 13) && begins_with_lf ucd cs) [
    | true ↦ after_cr (cut ucd cs)
    | false ↦ bare (encode_utf8 c) ∷ cut ucd cs
  ]
]) h

cut-end : (ucd : Data) (c : ℕ) (cs : List ℕ) (pair : Bool) → is_separator (ucd.class c) ≡ true → ((c == 13) && begins_with_lf ucd cs) ≡ pair
    → cut ucd (c ∷ cs) ≡ elim pair [ true ↦ after_cr (cut ucd cs) | false ↦ bare (encode_utf8 c) ∷ cut ucd cs ]
cut-end ucd c cs pair h e =
    ap (λ b. elim b as (λ x. List Paragraph) [
      | false ↦ after_character c (cut ucd cs)
      | true ↦ elim ((c == 13) && begins_with_lf ucd cs) [
        | true ↦ after_cr (cut ucd cs)
        | false ↦ bare (encode_utf8 c) ∷ cut ucd cs
      ]
    ]) h
    ∙ ap (λ b. elim b as (λ x. List Paragraph) [ true ↦ after_cr (cut ucd cs) | false ↦ bare (encode_utf8 c) ∷ cut ucd cs ]) e

-- bytes in front of the first body
abbrev prepended : List ℕ → List Paragraph → List Paragraph
prepended bs [] = []
prepended bs (p ∷ ps) = record p { body = bs ++ p.body } ∷ ps

one-in-front : (c : ℕ) (bs : List ℕ) (ps : List Paragraph) → after_character c (prepended bs ps) ≡ prepended (encode_utf8 c ++ bs) ps
one-in-front c bs [] = refl
one-in-front c bs (p ∷ ps) = ap (λ b. record p { body = b } ∷ ps) (sym (append_assoc (encode_utf8 c) bs p.body))

cut-line : (ucd : Data) (cs rest : List ℕ) (p : Paragraph) (ps : List Paragraph) → AreInLine ucd cs → cut ucd rest ≡ p ∷ ps
    → cut ucd (cs ++ rest) ≡ record p { body = encode_utf8_all cs ++ p.body } ∷ ps
cut-line ucd [] rest p ps h is = is
cut-line ucd (c ∷ cs) rest p ps h is =
    cut-plain ucd c (cs ++ rest) h.0 ∙ ap (after_character c) (cut-line ucd cs rest p ps h.1 is)
    ∙ ap (λ b. record p { body = b } ∷ ps) (sym (append_assoc (encode_utf8 c) (encode_utf8_all cs) p.body))

-- ---- two lists that differ in one body

pub record DifferInOne (ps qs : List Paragraph) (old new : List ℕ) : Type 0 where
  pub ahead : List Paragraph
  pub behind : List Paragraph
  pub front : List ℕ
  pub tail : List ℕ
  pub separator : List ℕ
  pub old_is : ps ≡ ahead ++ record { body = encode_utf8_all front ++ (old ++ tail); separator = separator } ∷ behind
  pub new_is : qs ≡ ahead ++ record { body = encode_utf8_all front ++ (new ++ tail); separator = separator } ∷ behind

body-more : (c : ℕ) (front rest : List ℕ) → encode_utf8 c ++ (encode_utf8_all front ++ rest) ≡ encode_utf8_all (c ∷ front) ++ rest
body-more c front rest = sym (append_assoc (encode_utf8 c) (encode_utf8_all front) rest)

character-by : (c : ℕ) (ps qs : List Paragraph) (old new : List ℕ) (ahead behind : List Paragraph) (front tail separator : List ℕ)
    → ps ≡ ahead ++ record { body = encode_utf8_all front ++ (old ++ tail); separator = separator } ∷ behind
    → qs ≡ ahead ++ record { body = encode_utf8_all front ++ (new ++ tail); separator = separator } ∷ behind
    → DifferInOne (after_character c ps) (after_character c qs) old new
character-by c ps qs old new [] behind front tail separator is-old is-new = record {
  ahead = [];
  behind = behind;
  front = c ∷ front;
  tail = tail;
  separator = separator;
  old_is = ap (after_character c) is-old ∙ ap (λ (b : List ℕ). record { body = b; separator = separator } ∷ behind) (body-more c front (old ++ tail));
  new_is = ap (after_character c) is-new ∙ ap (λ (b : List ℕ). record { body = b; separator = separator } ∷ behind) (body-more c front (new ++ tail));
}
character-by c ps qs old new (a ∷ ahead) behind front tail separator is-old is-new = record {
  ahead = record a { body = encode_utf8 c ++ a.body } ∷ ahead;
  behind = behind;
  front = front;
  tail = tail;
  separator = separator;
  old_is = ap (after_character c) is-old;
  new_is = ap (after_character c) is-new;
}

character-in : (c : ℕ) (ps qs : List Paragraph) (old new : List ℕ) → DifferInOne ps qs old new → DifferInOne (after_character c ps) (after_character c qs) old new
character-in c ps qs old new h = character-by c ps qs old new h.ahead h.behind h.front h.tail h.separator h.old_is h.new_is

cr-by : (ps qs : List Paragraph) (old new : List ℕ) (ahead behind : List Paragraph) (front tail separator : List ℕ)
    → ps ≡ ahead ++ record { body = encode_utf8_all front ++ (old ++ tail); separator = separator } ∷ behind
    → qs ≡ ahead ++ record { body = encode_utf8_all front ++ (new ++ tail); separator = separator } ∷ behind
    → DifferInOne (after_cr ps) (after_cr qs) old new
cr-by ps qs old new [] behind front tail separator is-old is-new = record {
  ahead = [];
  behind = behind;
  front = front;
  tail = tail;
  separator = encode_utf8 13 ++ separator;
  old_is = ap after_cr is-old;
  new_is = ap after_cr is-new;
}
cr-by ps qs old new (a ∷ ahead) behind front tail separator is-old is-new = record {
  ahead = record a { separator = encode_utf8 13 ++ a.separator } ∷ ahead;
  behind = behind;
  front = front;
  tail = tail;
  separator = separator;
  old_is = ap after_cr is-old;
  new_is = ap after_cr is-new;
}

cr-in : (ps qs : List Paragraph) (old new : List ℕ) → DifferInOne ps qs old new → DifferInOne (after_cr ps) (after_cr qs) old new
cr-in ps qs old new h = cr-by ps qs old new h.ahead h.behind h.front h.tail h.separator h.old_is h.new_is

bare-in : (c : ℕ) (ps qs : List Paragraph) (old new : List ℕ) → DifferInOne ps qs old new
    → DifferInOne (bare (encode_utf8 c) ∷ ps) (bare (encode_utf8 c) ∷ qs) old new
bare-in c ps qs old new h = record {
  ahead = bare (encode_utf8 c) ∷ h.ahead;
  behind = h.behind;
  front = h.front;
  tail = h.tail;
  separator = h.separator;
  old_is = ap (λ xs. bare (encode_utf8 c) ∷ xs) h.old_is;
  new_is = ap (λ xs. bare (encode_utf8 c) ∷ xs) h.new_is;
}

pub differ-as : (ps qs ps' qs' : List Paragraph) {old new : List ℕ} → ps ≡ ps' → qs ≡ qs' → DifferInOne ps' qs' old new → DifferInOne ps qs old new
differ-as ps qs ps' qs' is-old is-new h = record {
  ahead = h.ahead;
  behind = h.behind;
  front = h.front;
  tail = h.tail;
  separator = h.separator;
  old_is = is-old ∙ h.old_is;
  new_is = is-new ∙ h.new_is;
}

-- ---- characters that give way to others

-- no separator begins them
and-none : (b : Bool) → (b && false) ≡ false
and-none true = refl
and-none false = refl

no-lf : (ucd : Data) (c : ℕ) (cs : List ℕ) → is_separator (ucd.class c) ≡ false → begins_with_lf ucd (c ∷ cs) ≡ false
no-lf ucd c cs h = ap (λ b. (c == 10) && b) h ∙ and-none (c == 10)

module _ (ucd : Data) (r n : ℕ) (rs ns rest : List ℕ) (olds : AreInLine ucd (r ∷ rs)) (news : AreInLine ucd (n ∷ ns))
    (p : Paragraph) (ps : List Paragraph) (cut-rest : cut ucd rest ≡ p ∷ ps) where
  abbrev old : List ℕ
  old = r ∷ rs

  abbrev new : List ℕ
  new = n ∷ ns

  lf-same : (before : List ℕ) → begins_with_lf ucd (before ++ (old ++ rest)) ≡ begins_with_lf ucd (before ++ (new ++ rest))
  lf-same [] = no-lf ucd r (rs ++ rest) olds.0 ∙ sym (no-lf ucd n (ns ++ rest) news.0)
  lf-same (a ∷ before) = refl

  pub differ : (before : List ℕ) → DifferInOne (cut ucd (before ++ (old ++ rest))) (cut ucd (before ++ (new ++ rest))) (encode_utf8_all old) (encode_utf8_all new)
  differ [] = record {
    ahead = [];
    behind = ps;
    front = [];
    tail = p.body;
    separator = p.separator;
    old_is = cut-line ucd old rest p ps olds cut-rest;
    new_is = cut-line ucd new rest p ps news cut-rest;
  }
  differ (c ∷ before) =
      let xs = before ++ (old ++ rest) in
      let ys = before ++ (new ++ rest) in
      let h = differ before in
      let Differ = λ (qs rs : List Paragraph). DifferInOne qs rs (encode_utf8_all old) (encode_utf8_all new) in
      elim (is_separator (ucd.class c)) as (λ b. is_separator (ucd.class c) ≡ b → Differ (cut ucd (c ∷ xs)) (cut ucd (c ∷ ys))) [
        | false ↦ λ e. differ-as (cut ucd (c ∷ xs)) (cut ucd (c ∷ ys)) (after_character c (cut ucd xs)) (after_character c (cut ucd ys)) (cut-plain ucd c xs e) (cut-plain ucd c ys e)
            (character-in c (cut ucd xs) (cut ucd ys) (encode_utf8_all old) (encode_utf8_all new) h)
        | true ↦ λ e. elim ((c == 13) && begins_with_lf ucd xs) as (λ b. ((c == 13) && begins_with_lf ucd xs) ≡ b → Differ (cut ucd (c ∷ xs)) (cut ucd (c ∷ ys))) [
          | true ↦ λ pair. differ-as (cut ucd (c ∷ xs)) (cut ucd (c ∷ ys)) (after_cr (cut ucd xs)) (after_cr (cut ucd ys))
              (cut-end ucd c xs true e pair) (cut-end ucd c ys true e (ap (λ b. (c == 13) && b) (sym (lf-same before)) ∙ pair))
              (cr-in (cut ucd xs) (cut ucd ys) (encode_utf8_all old) (encode_utf8_all new) h)
          | false ↦ λ pair. differ-as (cut ucd (c ∷ xs)) (cut ucd (c ∷ ys)) (bare (encode_utf8 c) ∷ cut ucd xs) (bare (encode_utf8 c) ∷ cut ucd ys)
              (cut-end ucd c xs false e pair) (cut-end ucd c ys false e (ap (λ b. (c == 13) && b) (sym (lf-same before)) ∙ pair))
              (bare-in c (cut ucd xs) (cut ucd ys) (encode_utf8_all old) (encode_utf8_all new) h)
        ] refl
      ] refl

-- ---- by number

pub here-is : (ahead : List Paragraph) (p : Paragraph) (behind : List Paragraph) (d : Paragraph) → get_or (ahead ++ p ∷ behind) (length ahead) d ≡ p
here-is [] p behind d = refl
here-is (a ∷ ahead) p behind d = here-is ahead p behind d

pub others-same : (ahead : List Paragraph) (p q : Paragraph) (behind : List Paragraph) (d : Paragraph) (m : ℕ) → m ≢ length ahead
    → get_or (ahead ++ p ∷ behind) m d ≡ get_or (ahead ++ q ∷ behind) m d
others-same [] p q behind d zero other = absurd (other refl)
others-same [] p q behind d (suc m) other = refl
others-same (a ∷ ahead) p q behind d zero other = refl
others-same (a ∷ ahead) p q behind d (suc m) other = others-same ahead p q behind d m (λ same. other (ap suc same))

pub number-within : (ahead : List Paragraph) (p : Paragraph) (behind ps : List Paragraph) → ps ≡ ahead ++ p ∷ behind → length ahead < length ps
number-within ahead p behind ps is = omega (arith, ap length is, length-append ahead (p ∷ behind))

-- ---- the characters of a body

pub chars-behind : (cs rest : List ℕ) → IsUtf8 (encode_utf8_all cs ++ rest) → (chars (encode_utf8_all cs ++ rest) ≡ cs ++ chars rest) × IsUtf8 rest
chars-behind [] rest u = (refl, u)
chars-behind (c ∷ cs) rest u =
    let first = append_assoc (encode_utf8 c) (encode_utf8_all cs) rest in
    let whole = encode_utf8_all (c ∷ cs) ++ rest in
    let more = chars-behind cs rest (IsUtf8-past_char whole (encode_utf8_all cs ++ rest) c u first) in
    (chars_past_char whole (encode_utf8_all cs ++ rest) c u first ∙ ap (λ xs. c ∷ xs) more.0, more.1)
