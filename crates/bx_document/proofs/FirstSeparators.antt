-- The first separator of a text, by its length and its first byte.
use Rattle.std.proofs.Common.{◌≡◌, ◌≢◌, ℕ, ◌+◌, ◌/◌, ◌%◌, ◌<◌, ◌==◌, ◌&&◌, nat_lt, Bool, true, false, List, [], ◌∷◌, ◌++◌, length, take, drop, get_or}
use Rattle.std.proofs.Common.{slice_get, Some, IsUtf8, IsCharBoundary, refl, sym, ap, ap₂, subst, ◌∙◌, ⊎_elim, arith, append_assoc, eq-eqb, length-append, ne_eqb}
use Rattle.std.specs.Prelude.{encode_utf8}
use lib.Utf8.{encode}
use Rattle.std.proofs.lemmas.Bool.Decides.{nat_tests}
use Rattle.std.proofs.lemmas.List.{drop_at, get_or-map, get_or-take, get_or_append_left}
use Rattle.std.proofs.lemmas.Option.{same_Some}
use Rattle.bx_ucd.specs.Data.{Data}
use Rattle.bx_text.specs.Changes.{IsRange}
use Rattle.bx_text.specs.declared.index.lengths.Lengths.{Lengths}
use Rattle.bx_text.specs.index.Laws.{EachEnds, IsSeparator}
use Rattle.bx_text.specs.index.Paragraphs.{Paragraph, bare, lengths, lengths_of, paragraphs, spans}
use Rattle.bx_text.specs.index.Walk.{separators}
use Rattle.bx_text.proofs.index_lemmas.Asked.{separator_at}
use Rattle.bx_text.proofs.index_lemmas.Bodies.{end_with_separators}
use Rattle.bx_view.specs.Numbers.{body_at, count, paragraph_at}
use Rattle.bx_view.proofs.Numbers.{behind, body-range, lengths-count, parts-at, some-paragraph, span-is}
use Rattle.bx_view.proofs.Parts.{bytes, text-bytes}
use Rattle.bx_document.specs.Line.{has_crlf_first, is_cr_lf}

-- two bytes, of which the first is CR
abbrev pub is_cr_first : List ℕ → Bool
is_cr_first s = (length s == 2) && (get_or s 0 0 == 13)

-- the first of two bytes of a character is not CR
pub no-cr : (c : ℕ) → (192 + c / 64 == 13) ≡ false
no-cr c = grind (arith, nat_tests)

character-at : (c : ℕ) (a b d : Bool) → nat_lt c 128 ≡ a → nat_lt c 2048 ≡ b → nat_lt c 65536 ≡ d
    → is_cr_lf (encode_utf8 c) ≡ is_cr_first (encode_utf8 c)
unfolding encode
character-at c true b d e f g = rw e refl
character-at c false true d e f g = rw (e, f) (ap (λ t. t && (128 + c % 64 == 10)) (no-cr c) ∙ sym (no-cr c))
character-at c false false true e f g = rw (e, f, g) refl
character-at c false false false e f g = rw (e, f, g) refl

separator-is : (ucd : Data) (s : List ℕ) → IsSeparator ucd s → is_cr_lf s ≡ is_cr_first s
unfolding encode
separator-is ucd s is = ⊎_elim
    (λ one. subst (λ t. is_cr_lf t ≡ is_cr_first t) (sym one.2) (character-at one.0 (nat_lt one.0 128) (nat_lt one.0 2048) (nat_lt one.0 65536) refl refl refl))
    (λ both. subst (λ t. is_cr_lf t ≡ is_cr_first t) (sym both.2) refl) is

first-of : (ucd : Data) (ps : List Paragraph) → EachEnds ucd ps → is_cr_lf (get_or ps 0 (bare [])).separator ≡ is_cr_first (get_or ps 0 (bare [])).separator
first-of ucd [] h = absurd h
first-of ucd (p ∷ []) h = subst (λ t. is_cr_lf t ≡ is_cr_first t) (sym h) refl
first-of ucd (p ∷ q ∷ ps) h = separator-is ucd p.separator h.0

module _ (ucd : Data) (text : List ℕ) (ls : List Lengths) (utf8 : IsUtf8 text) (same : ls ≡ lengths ucd text) where
  abbrev body : List ℕ
  body = body_at ucd text 0

  abbrev separator : List ℕ
  separator = (paragraph_at ucd text 0).separator

  some : 0 < count ucd text
  some = some-paragraph ucd text utf8

  pub some-lengths : 0 < length ls
  some-lengths = omega (arith, some, lengths-count ucd text, ap length same)

  has-is : has_crlf_first ucd text ≡ is_cr_first separator
  has-is = first-of ucd (paragraphs ucd text) (end_with_separators ucd text)

  size-is : (n : ℕ) → slice_get (separators ls) 0 ≡ Some n → n ≡ length separator
  size-is n e =
      let none = lengths_of (bare []) in
      let told = separator_at (lengths ucd text) 0 none (omega (arith, some, lengths-count ucd text)) in
      same_Some n _ (sym (ap (λ ks. slice_get (separators ks) 0) (sym same) ∙ e) ∙ told)
      ∙ ap (λ (l : Lengths). l.separator) (get_or-map lengths_of (paragraphs ucd text) 0 (bare []) none some)

  pub of-other-size : (n : ℕ) → slice_get (separators ls) 0 ≡ Some n → n ≢ 2 → false ≡ has_crlf_first ucd text
  of-other-size n e not =
      let other = ne_eqb (length separator) 2 (λ two. not (size-is n e ∙ two)) in
      sym (has-is ∙ ap (λ t. t && (get_or separator 0 0 == 13)) other)

  module _ (a b n : ℕ) (span : slice_get (spans ls) 0 ≡ Some (a, b)) (e : slice_get (separators ls) 0 ≡ Some n) (two : n ≡ 2) where
    long : length separator ≡ 2
    long = sym (size-is n e) ∙ two

    stop-is : b ≡ length body
    stop-is =
        let found = span-is ucd text 0 some a b (ap (λ ks. slice_get (spans ks) 0) (sym same) ∙ span) in omega (arith, found.1)

    whole : text ≡ body ++ (separator ++ bytes (behind ucd text 0 some))
    whole =
        sym (text-bytes ucd text utf8) ∙ ap bytes (parts-at ucd text 0 some)
        ∙ append_assoc body separator (bytes (behind ucd text 0 some))

    rest : drop b text ≡ separator ++ bytes (behind ucd text 0 some)
    rest = ap₂ drop stop-is whole ∙ drop_at body (separator ++ bytes (behind ucd text 0 some)) (length body) refl

    -- the piece of the text after the body begins with the separator's first byte
    pub of-piece : (piece : List ℕ) → take (length piece) (drop b text) ≡ piece → 0 < length piece
        → (get_or piece 0 0 == 13) ≡ has_crlf_first ucd text
    of-piece piece is not_empty =
        let first : get_or piece 0 0 ≡ get_or separator 0 0 =
        ap (λ xs. get_or xs 0 0) (sym is) ∙ get_or-take (length piece) (drop b text) 0 0 not_empty ∙ ap (λ xs. get_or xs 0 0) rest
        ∙ get_or_append_left separator (bytes (behind ucd text 0 some)) 0 0 (omega (arith, long)) in
        ap (λ v. v == 13) first ∙ sym (has-is ∙ ap (λ t. t && (get_or separator 0 0 == 13)) (eq-eqb (length separator) 2 long))

    -- there is such a piece
    pub piece-there : IsCharBoundary text b × (b < length text)
    piece-there =
        let range : IsRange text 0 (0 + length body) = body-range ucd text 0 some utf8 in
        let here : 0 + length body ≡ b = omega (arith, stop-is) in
        let sum : length text ≡ length body + (length separator + length (bytes (behind ucd text 0 some))) =
        ap length whole ∙ length-append body (separator ++ bytes (behind ucd text 0 some))
        ∙ ap (λ k. length body + k) (length-append separator (bytes (behind ucd text 0 some))) in
        (subst (IsCharBoundary text) here range.stop_bounds, omega (arith, stop-is, sum, long))
