-- The paragraphs of a text: joined they are the text, each is UTF-8, and all but the last end with a separator.
use Rattle.std.proofs.Common.{◌≡◌, ℕ, ◌<◌, ◌==◌, ◌&&◌, Bool, true, false, List, [], ◌∷◌, ◌++◌, length, chars, encode_utf8, encode_utf8_all, IsUtf8, refl}
use Rattle.std.proofs.Common.{sym, ap, subst, ◌∙◌, arith, rules, append_assoc, length-append}
use Rattle.std.proofs.lemmas.Bool.Decides.{nat_tests}
use Rattle.std.proofs.lemmas.Str.{encodes-chars, scalars-chars, IsUtf8-append, IsUtf8-encode, IsUtf8-nil}
use Rattle.bx_ucd.specs.Data.{Data}
use lib.Utf8.{scalars}
use Rattle.bx_text.specs.index.Paragraphs.{Paragraph, after_character, after_cr, bare, begins_with_lf, cut, is_separator, paragraphs}
use Rattle.bx_text.proofs.index_lemmas.Cuts.{width_is_some}

-- ---- properties of each

-- the bytes of some paragraphs
abbrev pub bytes : List Paragraph → List ℕ
bytes [] = []
bytes (p ∷ ps) = (p.body ++ p.separator) ++ bytes ps

-- each is UTF-8
pub record IsText (p : Paragraph) : Type 0 where
  pub body : IsUtf8 p.body
  pub separator : IsUtf8 p.separator

abbrev pub AreUtf8 : List Paragraph → Type 0
AreUtf8 [] = Unit {0}
AreUtf8 (p ∷ ps) = IsText p × AreUtf8 ps

-- all but the last end with a separator
abbrev pub AreEnded : List Paragraph → Type 0
AreEnded [] = Unit {0}
AreEnded (p ∷ []) = Unit {0}
AreEnded (p ∷ q ∷ ps) = (0 < length p.separator) × AreEnded (q ∷ ps)

-- properties of the paragraphs of some characters
pub record AreParts (cs : List ℕ) (ps : List Paragraph) : Type 0 where
  pub bytes : bytes ps ≡ encode_utf8_all cs
  pub utf8 : AreUtf8 ps
  pub ended : AreEnded ps
  pub some : 0 < length ps

-- ---- one more character

character-ended : (c : ℕ) (ps : List Paragraph) → AreEnded ps → AreEnded (after_character c ps)
character-ended c [] h = h
character-ended c (p ∷ []) h = h
character-ended c (p ∷ q ∷ ps) h = h

after-character : (c : ℕ) (cs : List ℕ) (ps : List Paragraph) → IsUtf8 (encode_utf8 c) → AreParts cs ps → AreParts (c ∷ cs) (after_character c ps)
after-character c cs [] u h = absurd (omega (arith, h.some))
after-character c cs (p ∷ ps) u h = record {
  bytes = ap (λ b. b ++ bytes ps) (append_assoc (encode_utf8 c) p.body p.separator) ∙ append_assoc (encode_utf8 c) (p.body ++ p.separator) (bytes ps)
      ∙ ap (λ b. encode_utf8 c ++ b) h.bytes;
  utf8 = (record { body = IsUtf8-append (encode_utf8 c) p.body u h.utf8.0.body; separator = h.utf8.0.separator }, h.utf8.1);
  ended = character-ended c (p ∷ ps) h.ended;
  some = omega arith;
}

bare-ended : (c : ℕ) (ps : List Paragraph) → AreEnded ps → AreEnded (bare (encode_utf8 c) ∷ ps)
bare-ended c [] h = tt
bare-ended c (p ∷ ps) h = (width_is_some c, h)

after-bare : (c : ℕ) (cs : List ℕ) (ps : List Paragraph) → IsUtf8 (encode_utf8 c) → AreParts cs ps → AreParts (c ∷ cs) (bare (encode_utf8 c) ∷ ps)
after-bare c cs ps u h = record {
  bytes = ap (λ b. encode_utf8 c ++ b) h.bytes;
  utf8 = (record { body = IsUtf8-nil; separator = u }, h.utf8);
  ended = bare-ended c ps h.ended;
  some = omega arith;
}

-- ---- CR before LF

cr-ended : (separator : List ℕ) (ps : List Paragraph) → AreEnded (bare separator ∷ ps) → AreEnded (after_cr (bare separator ∷ ps))
cr-ended separator [] h = tt
cr-ended separator (p ∷ ps) h = (omega (arith, width_is_some 13, length-append (encode_utf8 13) separator), h.1)

after-pair : (separator cs : List ℕ) (ps : List Paragraph) → IsUtf8 (encode_utf8 13) → AreParts cs (bare separator ∷ ps)
    → AreParts (13 ∷ cs) (after_cr (bare separator ∷ ps))
after-pair separator cs ps u h = record {
  bytes = append_assoc (encode_utf8 13) separator (bytes ps) ∙ ap (λ b. encode_utf8 13 ++ b) h.bytes;
  utf8 = (record { body = IsUtf8-nil; separator = IsUtf8-append (encode_utf8 13) separator u h.utf8.0.separator }, h.utf8.1);
  ended = cr-ended separator ps h.ended;
  some = omega arith;
}

module _ (ucd : Data) where
  -- the paragraph that begins with an LF is that LF
  pub cut-lf : (c : ℕ) (cs : List ℕ) → (c == 10) ≡ true → is_separator (ucd.class c) ≡ true → cut ucd (c ∷ cs) ≡ bare (encode_utf8 c) ∷ cut ucd cs
  cut-lf c cs lf e =
      let other : (c == 13) ≡ false = grind (arith, nat_tests) in
      ap (λ b. elim b [
        | false ↦ after_character c (cut ucd cs)
        | true ↦ elim ((c == 13) && begins_with_lf ucd cs) [ true ↦ after_cr (cut ucd cs) | false ↦ bare (encode_utf8 c) ∷ cut ucd cs ]
      ]) e
      ∙ ap (λ b. elim (b && begins_with_lf ucd cs) [ true ↦ after_cr (cut ucd cs) | false ↦ bare (encode_utf8 c) ∷ cut ucd cs ]) other

  pair-at : (cs : List ℕ) → IsUtf8 (encode_utf8 13) → begins_with_lf ucd cs ≡ true → AreParts cs (cut ucd cs) → AreParts (13 ∷ cs) (after_cr (cut ucd cs))
  pair-at [] u b h = absurd (grind (arith, nat_tests))
  pair-at (c ∷ cs) u b h =
      let lf : (c == 10) ≡ true = grind (arith, nat_tests) in
      let ends : is_separator (ucd.class c) ≡ true = grind (arith, nat_tests) in
      let e = cut-lf c cs lf ends in
      subst (λ ps. AreParts (13 ∷ c ∷ cs) (after_cr ps)) (sym e) (after-pair (encode_utf8 c) (c ∷ cs) (cut ucd cs) u (subst (AreParts (c ∷ cs)) e h))

  parts-at : (c : ℕ) (cs : List ℕ) (ends cr lf : Bool) → is_separator (ucd.class c) ≡ ends → (c == 13) ≡ cr → begins_with_lf ucd cs ≡ lf
      → IsUtf8 (encode_utf8 c) → AreParts cs (cut ucd cs) → AreParts (c ∷ cs) (elim ends [
        | false ↦ after_character c (cut ucd cs)
        | true ↦ elim (cr && lf) [ true ↦ after_cr (cut ucd cs) | false ↦ bare (encode_utf8 c) ∷ cut ucd cs ]
      ])
  parts-at c cs false cr lf e f b u h = after-character c cs (cut ucd cs) u h
  parts-at c cs true false lf e f b u h = after-bare c cs (cut ucd cs) u h
  parts-at c cs true true false e f b u h = after-bare c cs (cut ucd cs) u h
  parts-at c cs true true true e f b u h =
      let cr : 13 ≡ c = grind (arith, nat_tests) in
      subst (λ n. AreParts (n ∷ cs) (after_cr (cut ucd cs))) cr (pair-at cs (subst (λ n. IsUtf8 (encode_utf8 n)) (sym cr) u) b h)

  parts : (cs : List ℕ) → scalars cs ≡ true → AreParts cs (cut ucd cs)
  parts [] s = record { bytes = refl; utf8 = (record { body = IsUtf8-nil; separator = IsUtf8-nil }, tt); ended = tt; some = omega arith }
  parts (c ∷ cs) s =
      let rest : scalars cs ≡ true = grind (arith, nat_tests) in
      parts-at c cs (is_separator (ucd.class c)) (c == 13) (begins_with_lf ucd cs) refl refl refl (IsUtf8-encode c (search rules)) (parts cs rest)

  -- the paragraphs of a text
  pub text-parts : (text : List ℕ) → IsUtf8 text → AreParts (chars text) (paragraphs ucd text)
  text-parts text u = parts (chars text) (scalars-chars text u)

  pub text-bytes : (text : List ℕ) → IsUtf8 text → bytes (paragraphs ucd text) ≡ text
  text-bytes text u = (text-parts text u).bytes ∙ encodes-chars text u
