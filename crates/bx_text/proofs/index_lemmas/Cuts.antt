-- The lengths of paragraphs, character by character, and where they part.
use Rattle.std.proofs.Common.{◌≡◌, ◌<◌, ◌+◌, ◌∙◌, ◌⊎◌, inl, inr, ℕ, Bool, true, false, not, ◌&&◌, ◌==◌, List, [], ◌∷◌, ◌++◌, map, length, encode_utf8}
use Rattle.std.proofs.Common.{encode_utf8_all, refl, ap, sym, arith, length-append, append-nil}
use Rattle.std.proofs.lemmas.Bool.Decides.{nat_tests}
use Rattle.std.proofs.lemmas.Str.{length-encode, len_utf8_bounds, encodes-append}
use Rattle.bx_ucd.specs.Data.{Data}
use Rattle.bx_text.specs.declared.index.lengths.Lengths.{Lengths}
use Rattle.bx_text.specs.index.Paragraphs.{Paragraph, is_separator, begins_with_lf, after_character, after_cr, cut, lengths_of, bytes_of}

-- ---- lengths, character by character

-- how many bytes a character has
abbrev pub width : ℕ → ℕ
width c = length (encode_utf8 c)

pub width_is_some : (c : ℕ) → 0 < width c
width_is_some c = omega (arith, length-encode c, (len_utf8_bounds c).0)

-- how many bytes characters have
abbrev pub widths : List ℕ → ℕ
widths cs = length (encode_utf8_all cs)

pub widths_more : (c : ℕ) (cs : List ℕ) → widths (c ∷ cs) ≡ width c + widths cs
widths_more c cs = length-append (encode_utf8 c) (encode_utf8_all cs)

pub one_width : (c : ℕ) → widths (c ∷ []) ≡ width c
one_width c = ap length (append-nil (encode_utf8 c))

pub widths_append : (cs ds : List ℕ) → widths (cs ++ ds) ≡ widths cs + widths ds
widths_append cs ds = ap length (encodes-append cs ds) ∙ length-append (encode_utf8_all cs) (encode_utf8_all ds)

-- an unended paragraph of a number of bytes, the last of a text
abbrev pub unended : ℕ → Lengths
unended n = record { body = n; separator = 0 }

abbrev pub grown : ℕ → List Lengths → List Lengths
grown w [] = []
grown w (l ∷ ls) = record l { body = w + l.body } ∷ ls

abbrev pub joined : ℕ → List Lengths → List Lengths
joined w [] = []
joined w (l ∷ ls) = record l { separator = w + l.separator } ∷ ls

module _ (ucd : Data) where
  -- how many bytes the paragraphs of characters have
  abbrev pub lens : List ℕ → List Lengths
  lens cs = map lengths_of (cut ucd cs)

  -- a character is a separator, and CR before an LF that is one goes with it
  abbrev pub ends : ℕ → Bool
  ends c = is_separator (ucd.class c)

  abbrev pub is_paired : ℕ → List ℕ → Bool
  is_paired c cs = (c == 13) && begins_with_lf ucd cs

  map_after_character : (c : ℕ) (ps : List Paragraph) → map lengths_of (after_character c ps) ≡ grown (width c) (map lengths_of ps)
  map_after_character c [] = refl
  map_after_character c (p ∷ ps) = ap (λ n. record { body = n; separator = length p.separator } ∷ map lengths_of ps) (length-append (encode_utf8 c) p.body)

  map_after_cr : (ps : List Paragraph) → map lengths_of (after_cr ps) ≡ joined (width 13) (map lengths_of ps)
  map_after_cr [] = refl
  map_after_cr (p ∷ ps) = ap (λ n. record { body = length p.body; separator = n } ∷ map lengths_of ps) (length-append (encode_utf8 13) p.separator)

  pub lens_plain : (c : ℕ) (cs : List ℕ) → ends c ≡ false → lens (c ∷ cs) ≡ grown (width c) (lens cs)
  lens_plain c cs e = rw (e, cut) (map_after_character c (cut ucd cs))

  pub lens_paired : (c : ℕ) (cs : List ℕ) → ends c ≡ true → is_paired c cs ≡ true → lens (c ∷ cs) ≡ joined (width 13) (lens cs)
  lens_paired c cs e p = rw (e, p, cut) (map_after_cr (cut ucd cs))

  pub lens_ended : (c : ℕ) (cs : List ℕ) → ends c ≡ true → is_paired c cs ≡ false → lens (c ∷ cs) ≡ record { body = 0; separator = width c } ∷ lens cs
  lens_ended c cs e p = rw (e, p, cut) refl

  -- ---- where paragraphs part

  -- the last of the characters ends a paragraph, where the others follow it
  abbrev pub parts : List ℕ → List ℕ → Bool
  parts [] ds = true
  parts (c ∷ []) ds = ends c && not (is_paired c ds)
  parts (c ∷ d ∷ cs) ds = parts (d ∷ cs) ds

  pub parts_same : (cs ds es : List ℕ) → begins_with_lf ucd ds ≡ begins_with_lf ucd es → parts cs ds ≡ parts cs es
  parts_same [] ds es h = refl
  parts_same (c ∷ []) ds es h = ap (λ b. ends c && not ((c == 13) && b)) h
  parts_same (c ∷ d ∷ cs) ds es h = parts_same (d ∷ cs) ds es h

  pub parts_append : (bs : List ℕ) (c : ℕ) (cs ds : List ℕ) → parts (bs ++ c ∷ cs) ds ≡ parts (c ∷ cs) ds
  parts_append [] c cs ds = refl
  parts_append (b ∷ []) c cs ds = refl
  parts_append (b ∷ d ∷ bs) c cs ds = parts_append (d ∷ bs) c cs ds

  -- the first paragraph of some characters, which has an end
  pub record IsFirst (cs : List ℕ) (l : Lengths) (w z : List ℕ) : Type 0 where
    pub whole : cs ≡ w ++ z
    pub bytes : widths w ≡ bytes_of l
    pub has_separator : 0 < l.separator
    pub first : lens cs ≡ l ∷ lens z
    pub parts : parts w z ≡ true

  -- there is one paragraph alone, or the first has an end
  abbrev pub Beginning : List ℕ → Type 0
  Beginning cs = (lens cs ≡ unended (widths cs) ∷ []) ⊎ ((l : Lengths) × (w : List ℕ) × (z : List ℕ) × IsFirst cs l w z)

  after_plain : (c : ℕ) (cs : List ℕ) → ends c ≡ false → Beginning cs → Beginning (c ∷ cs)
  after_plain c cs e (inl one) = inl (lens_plain c cs e ∙ ap (grown (width c)) one ∙ ap (λ n. unended n ∷ []) (sym (widths_more c cs)))
  after_plain c cs e (inr (l, [], z, h)) = absurd (omega (arith, h.bytes, h.has_separator))
  after_plain c cs e (inr (l, d ∷ w, z, h)) = inr (
    record l { body = width c + l.body },
    c ∷ d ∷ w,
    z,
    record {
      whole = ap (λ xs. c ∷ xs) h.whole;
      bytes = omega (arith, widths_more c (d ∷ w), h.bytes);
      has_separator = h.has_separator;
      first = lens_plain c cs e ∙ ap (grown (width c)) h.first;
      parts = h.parts;
    },
  )

  at_end : (c : ℕ) (cs : List ℕ) → ends c ≡ true → is_paired c cs ≡ false → IsFirst (c ∷ cs) (record { body = 0; separator = width c }) (c ∷ []) cs
  at_end c cs e p = record {
    whole = refl;
    bytes = omega (arith, one_width c);
    has_separator = width_is_some c;
    first = lens_ended c cs e p;
    parts = rw (e, p) refl;
  }

  at_pair : (c d : ℕ) (cs : List ℕ) → ends c ≡ true → is_paired c (d ∷ cs) ≡ true
      → IsFirst (c ∷ d ∷ cs) (record { body = 0; separator = width 13 + width d }) (c ∷ d ∷ []) cs
  at_pair c d cs e p =
      let cr : c ≡ 13 = grind (arith, nat_tests) in
      let lf : d ≡ 10 = grind (arith, nat_tests) in
      let f : ends d ≡ true = grind (arith, nat_tests) in
      let single : is_paired d cs ≡ false = grind (arith, nat_tests) in
      record {
        whole = refl;
        bytes = omega (arith, widths_more c (d ∷ []), one_width d, ap width cr);
        has_separator = omega (arith, width_is_some d);
        first = lens_paired c (d ∷ cs) e p ∙ ap (joined (width 13)) (lens_ended d cs f single);
        parts = rw (f, single) refl;
      }

  at_separator : (c : ℕ) (cs : List ℕ) (paired : Bool) → ends c ≡ true → is_paired c cs ≡ paired → Beginning (c ∷ cs)
  at_separator c cs false e p = inr (_, c ∷ [], cs, at_end c cs e p)
  at_separator c [] true e p = absurd (grind (arith, nat_tests))
  at_separator c (d ∷ cs) true e p = inr (_, c ∷ d ∷ [], cs, at_pair c d cs e p)

  beginning_at : (c : ℕ) (cs : List ℕ) (ended : Bool) → ends c ≡ ended → Beginning cs → Beginning (c ∷ cs)
  beginning_at c cs false e b = after_plain c cs e b
  beginning_at c cs true e b = at_separator c cs (is_paired c cs) e refl

  pub beginning : (cs : List ℕ) → Beginning cs
  beginning [] = inl refl
  beginning (c ∷ cs) = beginning_at c cs (ends c) refl (beginning cs)
