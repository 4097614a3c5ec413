-- The first separator of a text, from its characters.
use Rattle.std.proofs.Common.{◌≡◌, ℕ, ◌+◌, ◌-◌, ◌≤◌, ◌%◌, ◌==◌, ◌&&◌, nat_lt, Bool, true, false, List, [], ◌∷◌, ◌++◌, length, take, drop, get_or}
use Rattle.std.proofs.Common.{append-nil, arith, chars, eqb-true, slice_range, IsUtf8, IsCharBoundary, refl, sym, ap, ap₂, subst, ◌∙◌}
use Rattle.std.specs.Prelude.{encode_utf8}
use lib.Utf8.{encode}
use Rattle.std.proofs.lemmas.Bool.{and_parts}
use Rattle.std.proofs.lemmas.List.{drop-drop, drop-take, take-append-drop, take-take, take_rest}
use Rattle.std.proofs.lemmas.Str.{IsUtf8-take, chars-append, chars-nil}
use Rattle.bx_ucd.specs.Data.{Data}
use Rattle.bx_text.specs.Edits.{splice}
use Rattle.bx_text.specs.index.Paragraphs.{Paragraph, after_character, after_cr, bare, begins_with_lf, cut, is_separator}
use Rattle.bx_document.specs.declared.first_separator.Seen.{Seen}
use Rattle.bx_document.specs.declared.first_separator.Seen.TheVariants.{Nothing}
use Rattle.bx_document.specs.Line.{has_crlf_first, is_cr_lf}
use Rattle.bx_document.specs.SeparatorReads.{crlf_first, crlf_from}
use Rattle.bx_document.proofs.FirstSeparators.{no-cr}

-- one character is not CR LF
one-character : (c : ℕ) (a b d : Bool) → nat_lt c 128 ≡ a → nat_lt c 2048 ≡ b → nat_lt c 65536 ≡ d → is_cr_lf (encode_utf8 c) ≡ false
unfolding encode
one-character c true b d e f g = rw e refl
one-character c false true d e f g = rw (e, f) (ap (λ t. t && (128 + c % 64 == 10)) (no-cr c))
one-character c false false true e f g = rw (e, f, g) refl
one-character c false false false e f g = rw (e, f, g) refl

abbrev head : List Paragraph → List ℕ
head ps = (get_or ps 0 (bare [])).separator

of-other : (c : ℕ) (ps : List Paragraph) → head (after_character c ps) ≡ head ps
of-other c [] = refl
of-other c (p ∷ ps) = refl

module _ (ucd : Data) where
  -- the first paragraph's separator, by what the first character is
  abbrev cut-of : ℕ → List ℕ → Bool → Bool → List Paragraph
  cut-of c cs separates is_crlf = elim separates [
    | false ↦ after_character c (cut ucd cs)
    | true ↦ elim is_crlf [ true ↦ after_cr (cut ucd cs) | false ↦ bare (encode_utf8 c) ∷ cut ucd cs ]
  ]

  lf-here : (cs : List ℕ) → is_separator (ucd.class 10) ≡ true → is_cr_lf (head (after_cr (cut ucd (10 ∷ cs)))) ≡ true
  unfolding encode
  lf-here cs s = ap (λ b. is_cr_lf (head (after_cr (cut-of 10 cs b false)))) s

  lf-first : (cs : List ℕ) → begins_with_lf ucd cs ≡ true → is_cr_lf (head (after_cr (cut ucd cs))) ≡ true
  lf-first [] h = cc
  lf-first (c ∷ cs) h =
      let p = and_parts (c == 10) (is_separator (ucd.class c)) h in
      let lf : c ≡ 10 = eqb-true c 10 p.0 in
      subst (λ x. is_cr_lf (head (after_cr (cut ucd (x ∷ cs)))) ≡ true) (sym lf)
      (lf-here cs (subst (λ x. is_separator (ucd.class x) ≡ true) lf p.1))

  by-class : (c : ℕ) (cs : List ℕ) (a b : Bool) → ((c == 13) && begins_with_lf ucd cs) ≡ b
      → is_cr_lf (head (cut ucd cs)) ≡ crlf_first ucd cs
      → is_cr_lf (head (cut-of c cs a b)) ≡ elim a [ true ↦ b | false ↦ crlf_first ucd cs ]
  by-class c cs false b f more = ap is_cr_lf (of-other c (cut ucd cs)) ∙ more
  by-class c cs true true f more = lf-first cs ((and_parts (c == 13) (begins_with_lf ucd cs) f).1)
  by-class c cs true false f more = one-character c (nat_lt c 128) (nat_lt c 2048) (nat_lt c 65536) refl refl refl

  first-is : (cs : List ℕ) → is_cr_lf (head (cut ucd cs)) ≡ crlf_first ucd cs
  first-is [] = refl
  first-is (c ∷ cs) = by-class c cs (is_separator (ucd.class c)) ((c == 13) && begins_with_lf ucd cs) refl (first-is cs)

  -- the text without some bytes, by the characters before and after them
  without : (text : List ℕ) (start stop : ℕ) → IsUtf8 text → IsCharBoundary text start
      → has_crlf_first ucd (splice text start stop []) ≡ crlf_first ucd (chars (take start text) ++ chars (drop stop text))
  without text start stop utf8 bound =
      first-is (chars (splice text start stop []))
      ∙ ap (λ xs. crlf_first ucd (chars (xs ++ drop stop text))) (append-nil (take start text))
      ∙ ap (crlf_first ucd) (chars-append (take start text) (drop stop text) (IsUtf8-take text start utf8 bound))

  -- as both parts are read one after the other
  pub told : (text : List ℕ) (start stop len : ℕ) (before behind : Seen) → IsUtf8 text → IsCharBoundary text start → len ≡ length text
      → ((rest : List ℕ) → crlf_from ucd Nothing (chars (slice_range text 0 start) ++ rest) ≡ crlf_from ucd before rest)
      → ((rest : List ℕ) → crlf_from ucd before (chars (slice_range text stop len) ++ rest) ≡ crlf_from ucd behind rest)
      → crlf_from ucd behind [] ≡ has_crlf_first ucd (splice text start stop [])
  told text start stop len before behind utf8 bound whole first last =
      let all : start - 0 ≡ start = omega arith in
      let upto : slice_range text 0 start ≡ take start text = ap (λ n. take n text) all in
      let rest : slice_range text stop len ≡ drop stop text = ap (λ n. take (n - stop) (drop stop text)) whole ∙ take_rest text stop in
      sym (without text start stop utf8 bound ∙ ap (λ xs. crlf_first ucd (chars xs ++ chars (drop stop text))) (sym upto)
      ∙ first (chars (drop stop text)) ∙ ap (crlf_from ucd before) (sym (append-nil (chars (drop stop text))) ∙ ap (λ xs. chars xs ++ []) (sym rest))
      ∙ last [])

-- ---- parts of a text

pub no-chars : (bs : List ℕ) → length bs ≡ 0 → chars bs ≡ []
no-chars [] h = chars-nil
no-chars (b ∷ bs) h = absurd (omega (arith, h))

pub none-between : (text : List ℕ) (at stop : ℕ) → stop ≤ at → chars (slice_range text at stop) ≡ []
none-between text at stop h =
    let none : stop - at ≡ 0 = omega (arith, h) in ap (λ n. chars (take n (drop at text))) none ∙ chars-nil

-- a part at the front
pub part-first : (text part : List ℕ) (at stop : ℕ) → IsUtf8 part → take (length part) (drop at text) ≡ part → at + length part ≤ stop
    → chars (slice_range text at stop) ≡ chars part ++ chars (slice_range text (at + length part) stop)
part-first text part at stop utf8 is within =
    let n = length part in
    let left = drop at text in
    let k = stop - (at + n) in
    let sum : stop - at ≡ n + k = omega (arith, within) in
    let front : take n (take (n + k) left) ≡ part = take-take n (n + k) left (omega arith) ∙ is in
    let back : drop n (take (n + k) left) ≡ slice_range text (at + n) stop = drop-take n k left ∙ ap (take k) (drop-drop n at text) in
    ap (λ m. chars (take m left)) sum ∙ ap chars (sym (take-append-drop n (take (n + k) left)) ∙ ap₂ (λ x y. x ++ y) front back)
    ∙ chars-append part (slice_range text (at + n) stop) utf8
