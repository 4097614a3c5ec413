-- The paragraphs of characters, joined: their bytes, and the positions and contents of the bodies.
use Rattle.std.proofs.Common.{◌≡◌, ◌<◌, ◌+◌, ◌-◌, ◌∙◌, inl, inr, ℕ, Bool, true, false, List, [], ◌∷◌, ◌++◌, map, length, take, drop, chars, encode_utf8}
use Rattle.std.proofs.Common.{encode_utf8_all, IsUtf8, refl, ap, sym, subst, arith, append_assoc, append-nil, length-append}
use Rattle.std.specs.Prelude.{All}
use Rattle.std.proofs.lemmas.Bool.Decides.{nat_tests}
use Rattle.std.proofs.lemmas.List.Elements.{All-nil, All-cons, All-head, All-tail}
use Rattle.std.proofs.lemmas.Str.{chars-nil, chars-append, chars-encodes, encodes-chars, scalars-chars}
use Rattle.std.proofs.Math.Seq.{drop-append_seam, take-append_seam}
use Rattle.bx_ucd.specs.Data.{Data}
use lib.Utf8.{encode, scalars}
use Rattle.bx_text.specs.index.Paragraphs.{Paragraph, after_character, after_cr, bare, begins_with_lf, cut, paragraphs, lengths_of, spans_from}
use Rattle.bx_text.specs.index.Scan.{HasNone}
use Rattle.bx_text.specs.index.Laws.{joined, between, IsSeparator, EachEnds, JoinToText, MatchSpans, BodiesHaveNone, EndWithSeparators, KeepCrLf, KeepEachCrLf}
use Rattle.bx_text.proofs.index_lemmas.Changes.{scalars_back}
use Rattle.bx_text.proofs.index_lemmas.Cuts.{width_is_some, ends, is_paired}

-- ---- positions of the bodies of joined paragraphs

span_body : (front p rest : List ℕ) (at : ℕ) → at ≡ length front → take (at + length p - at) (drop at (front ++ (p ++ rest))) ≡ p
span_body front p rest at e =
    let len : at + length p - at ≡ length p = omega arith in
    ap (λ n. take n (drop at (front ++ (p ++ rest)))) len
    ∙ ap (λ n. take (length p) (drop n (front ++ (p ++ rest)))) e
    ∙ ap (take (length p)) (drop-append_seam front (p ++ rest)) ∙ take-append_seam p rest

at_spans : (ps : List Paragraph) (text front : List ℕ) (at : ℕ) → text ≡ front ++ joined ps → at ≡ length front
    → map (between text) (spans_from at (map lengths_of ps)) ≡ map (λ (p : Paragraph). p.body) ps
at_spans [] text front at e l = refl
at_spans (p ∷ ps) text front at e l =
    let rest : List ℕ = p.separator ++ joined ps in
    let here : between text (at, at + length p.body) ≡ p.body =
    ap (λ bs. take (at + length p.body - at) (drop at bs)) e ∙ span_body front p.body rest at l in
    let next : List ℕ = front ++ (p.body ++ p.separator) in
    let text_next : text ≡ next ++ joined ps =
    e ∙ ap (λ bs. front ++ bs) (sym (append_assoc p.body p.separator (joined ps))) ∙ sym (append_assoc front (p.body ++ p.separator) (joined ps)) in
    let len : at + (length p.body + length p.separator) ≡ length next =
    omega (arith, l, length-append front (p.body ++ p.separator), length-append p.body p.separator) in
    ap (λ bs. bs ∷ map (between text) (spans_from (at + (length p.body + length p.separator)) (map lengths_of ps))) here
    ∙ ap (λ bodies. p.body ∷ bodies) (at_spans ps text next (at + (length p.body + length p.separator)) text_next len)

-- ---- paragraphs, character by character

-- there is a paragraph
abbrev HasFirst : List Paragraph → Type 0
HasFirst ps = 0 < length ps

module _ (ucd : Data) where
  pub cut_plain : (c : ℕ) (cs : List ℕ) → ends ucd c ≡ false → cut ucd (c ∷ cs) ≡ after_character c (cut ucd cs)
  cut_plain c cs e = rw (e, cut) refl

  pub cut_paired : (c : ℕ) (cs : List ℕ) → ends ucd c ≡ true → is_paired ucd c cs ≡ true → cut ucd (c ∷ cs) ≡ after_cr (cut ucd cs)
  cut_paired c cs e p = rw (e, p, cut) refl

  pub cut_ended : (c : ℕ) (cs : List ℕ) → ends ucd c ≡ true → is_paired ucd c cs ≡ false → cut ucd (c ∷ cs) ≡ bare (encode_utf8 c) ∷ cut ucd cs
  cut_ended c cs e p = rw (e, p, cut) refl

  -- CR and LF that are one separator
  record IsPair (c d : ℕ) : Type 0 where
    cr : c ≡ 13
    lf : d ≡ 10
    first : ends ucd c ≡ true
    second : ends ucd d ≡ true

  -- what a character in front keeps, a CR in front of an LF, and a separator alone, holds of all characters
  module _ (P : List ℕ → List Paragraph → Type 0) (none : P [] (bare [] ∷ []))
      (plain : (c : ℕ) (cs : List ℕ) (p : Paragraph) (ps : List Paragraph) → ends ucd c ≡ false → P cs (p ∷ ps)
      → P (c ∷ cs) (record p { body = encode_utf8 c ++ p.body } ∷ ps))
      (paired : (c d : ℕ) (cs : List ℕ) (ps : List Paragraph) → IsPair c d → P (d ∷ cs) (bare (encode_utf8 d) ∷ ps)
      → P (c ∷ d ∷ cs) (bare (encode_utf8 13 ++ encode_utf8 d) ∷ ps))
      (ended : (c : ℕ) (cs : List ℕ) (ps : List Paragraph) → ends ucd c ≡ true → is_paired ucd c cs ≡ false → P cs ps
      → P (c ∷ cs) (bare (encode_utf8 c) ∷ ps)) where
    abbrev Holds : List ℕ → List Paragraph → Type 0
    Holds cs ps = HasFirst ps × P cs ps

    plain_at : (c : ℕ) (cs : List ℕ) (ps : List Paragraph) → ends ucd c ≡ false → Holds cs ps → Holds (c ∷ cs) (after_character c ps)
    plain_at c cs [] e h = absurd (omega (arith, h.0))
    plain_at c cs (p ∷ ps) e h = (omega arith, plain c cs p ps e h.1)

    pair_at : (c d : ℕ) (cs : List ℕ) → ends ucd c ≡ true → is_paired ucd c (d ∷ cs) ≡ true → Holds (d ∷ cs) (cut ucd (d ∷ cs))
        → Holds (c ∷ d ∷ cs) (cut ucd (c ∷ d ∷ cs))
    pair_at c d cs e p h =
        let cr : c ≡ 13 = grind (arith, nat_tests) in
        let ten : d ≡ 10 = grind (arith, nat_tests) in
        let f : ends ucd d ≡ true = grind (arith, nat_tests) in
        let single : is_paired ucd d cs ≡ false = grind (arith, nat_tests) in
        let lf : cut ucd (d ∷ cs) ≡ bare (encode_utf8 d) ∷ cut ucd cs = cut_ended d cs f single in
        let one : P (d ∷ cs) (bare (encode_utf8 d) ∷ cut ucd cs) = subst (P (d ∷ cs)) lf h.1 in
        let both : cut ucd (c ∷ d ∷ cs) ≡ bare (encode_utf8 13 ++ encode_utf8 d) ∷ cut ucd cs = cut_paired c (d ∷ cs) e p ∙ ap after_cr lf in
        subst (Holds (c ∷ d ∷ cs)) (sym both) (omega arith, paired c d cs (cut ucd cs) (record { cr = cr; lf = ten; first = e; second = f }) one)

    cut_at : (c : ℕ) (cs : List ℕ) (ended_here both : Bool) → ends ucd c ≡ ended_here → is_paired ucd c cs ≡ both → Holds cs (cut ucd cs)
        → Holds (c ∷ cs) (cut ucd (c ∷ cs))
    cut_at c cs false both e p h = subst (Holds (c ∷ cs)) (sym (cut_plain c cs e)) (plain_at c cs (cut ucd cs) e h)
    cut_at c cs true false e p h = subst (Holds (c ∷ cs)) (sym (cut_ended c cs e p)) (omega arith, ended c cs (cut ucd cs) e p h.1)
    cut_at c [] true true e p h = absurd (grind (arith, nat_tests))
    cut_at c (d ∷ cs) true true e p h = pair_at c d cs e p h

    cut_each : (cs : List ℕ) → Holds cs (cut ucd cs)
    cut_each [] = (omega arith, none)
    cut_each (c ∷ cs) = cut_at c cs (ends ucd c) (is_paired ucd c cs) refl refl (cut_each cs)

    of_cut : (cs : List ℕ) → P cs (cut ucd cs)
    of_cut cs = (cut_each cs).1

  -- ---- joined, they are the characters

  join_cut : (cs : List ℕ) → joined (cut ucd cs) ≡ encode_utf8_all cs
  join_cut cs = of_cut (λ xs ps. joined ps ≡ encode_utf8_all xs)
      refl
      (λ c xs p ps e h. append_assoc (encode_utf8 c) p.body (p.separator ++ joined ps) ∙ ap (λ bs. encode_utf8 c ++ bs) h)
      (λ c d xs ps pair h. append_assoc (encode_utf8 13) (encode_utf8 d) (joined ps) ∙ ap (λ bs. encode_utf8 13 ++ bs) h
      ∙ ap (λ n. encode_utf8 n ++ encode_utf8_all (d ∷ xs)) (sym pair.cr))
      (λ c xs ps e alone h. ap (λ bs. encode_utf8 c ++ bs) h)
      cs

  pub join_text : (text : List ℕ) → IsUtf8 text → joined (paragraphs ucd text) ≡ text
  join_text text utf8 = join_cut (chars text) ∙ encodes-chars text utf8

  -- ---- no separator is in a body

  abbrev HasNoneInside : Paragraph → Type 0
  HasNoneInside p = HasNone ucd (chars p.body)

  none_in_nothing : (separator : List ℕ) → HasNoneInside (bare separator)
  none_in_nothing separator = subst (HasNone ucd) (sym chars-nil) tt

  one_more : (c : ℕ) (body : List ℕ) → scalars (c ∷ []) ≡ true → chars (encode_utf8 c ++ body) ≡ c ∷ chars body
  one_more c body s =
      let spelt : encode_utf8_all (c ∷ []) ≡ encode_utf8 c = append-nil (encode_utf8 c) in
      chars-append (encode_utf8 c) body (c ∷ [], (s, spelt))
      ∙ ap (λ cs. cs ++ chars body) (ap chars (sym spelt) ∙ chars-encodes (c ∷ []) s)

  none_before : (c : ℕ) (cs : List ℕ) (p : Paragraph) (ps : List Paragraph) → ends ucd c ≡ false
      → (scalars cs ≡ true → All HasNoneInside (p ∷ ps)) → scalars (c ∷ cs) ≡ true → All HasNoneInside (record p { body = encode_utf8 c ++ p.body } ∷ ps)
  none_before c cs p ps e h s =
      let one : scalars (c ∷ []) ≡ true = grind (arith, nat_tests) in
      let all : All HasNoneInside (p ∷ ps) = h (scalars_back (c ∷ []) cs s) in
      All-cons HasNoneInside (record p { body = encode_utf8 c ++ p.body }) ps
      (subst (HasNone ucd) (sym (one_more c p.body one)) (e, All-head HasNoneInside p ps all)) (All-tail HasNoneInside p ps all)

  none_cut : (cs : List ℕ) → scalars cs ≡ true → All HasNoneInside (cut ucd cs)
  none_cut cs = of_cut (λ xs ps. scalars xs ≡ true → All HasNoneInside ps)
      (λ s. All-cons HasNoneInside (bare []) [] (none_in_nothing []) (All-nil HasNoneInside))
      none_before
      (λ c d xs ps pair h s. All-cons HasNoneInside (bare (encode_utf8 13 ++ encode_utf8 d)) ps (none_in_nothing (encode_utf8 13 ++ encode_utf8 d))
      (All-tail HasNoneInside (bare (encode_utf8 d)) ps (h (scalars_back (c ∷ []) (d ∷ xs) s))))
      (λ c xs ps e alone h s. All-cons HasNoneInside (bare (encode_utf8 c)) ps (none_in_nothing (encode_utf8 c)) (h (scalars_back (c ∷ []) xs s)))
      cs

  -- ---- each ends with one separator

  body_more : (c : ℕ) (p : Paragraph) (ps : List Paragraph) → EachEnds ucd (p ∷ ps) → EachEnds ucd (record p { body = encode_utf8 c ++ p.body } ∷ ps)
  body_more c p [] h = h
  body_more c p (q ∷ ps) h = h

  ends_with : (separator : List ℕ) (ps : List Paragraph) → IsSeparator ucd separator → EachEnds ucd ps → EachEnds ucd (bare separator ∷ ps)
  ends_with separator [] is h = absurd h
  ends_with separator (p ∷ ps) is h = (is, h)

  pair_ends : (c d : ℕ) (ps : List Paragraph) → IsPair c d → EachEnds ucd (bare (encode_utf8 d) ∷ ps)
      → EachEnds ucd (bare (encode_utf8 13 ++ encode_utf8 d) ∷ ps)
  pair_ends c d [] pair h = absurd (omega (arith, width_is_some d, ap length h))
  pair_ends c d (p ∷ ps) pair h = (
    inr (
      ap (ends ucd) (sym pair.cr) ∙ pair.first,
      ap (ends ucd) (sym pair.lf) ∙ pair.second,
      ap (λ n. encode_utf8 13 ++ encode_utf8 n) pair.lf,
    ),
    h.1,
  )

  each_ends : (cs : List ℕ) → EachEnds ucd (cut ucd cs)
  each_ends cs = of_cut (λ xs ps. EachEnds ucd ps)
      refl
      (λ c xs p ps e h. body_more c p ps h)
      (λ c d xs ps pair h. pair_ends c d ps pair h)
      (λ c xs ps e alone h. ends_with (encode_utf8 c) ps (inl (c, e, refl)) h)
      cs

-- ---- no CR LF is cut

module _ (ucd : Data) where
  -- where the first paragraph is LF alone, the characters begin with it
  abbrev HasLfFirst : List ℕ → List Paragraph → Type 0
  HasLfFirst cs [] = Unit {0}
  HasLfFirst cs (p ∷ ps) = p.body ≡ [] → p.separator ≡ encode_utf8 10 → begins_with_lf ucd cs ≡ true

  abbrev KeepsCrLf : List ℕ → List Paragraph → Type 0
  KeepsCrLf cs ps = scalars cs ≡ true → HasLfFirst cs ps × KeepCrLf ps

  no_bytes : (separator : List ℕ) → separator ≡ [] → separator ≡ encode_utf8 10 → ⊥
  no_bytes separator e f = omega (arith, width_is_some 10, ap length (sym e ∙ f))

  same_code : (c d : ℕ) → scalars (c ∷ []) ≡ true → scalars (d ∷ []) ≡ true → encode_utf8 c ≡ encode_utf8 d → c ≡ d
  same_code c d s t e =
      let spelt : (x : ℕ) → encode_utf8_all (x ∷ []) ≡ encode_utf8 x = λ x. append-nil (encode_utf8 x) in
      let same : c ∷ [] ≡ d ∷ [] = sym (chars-encodes (c ∷ []) s) ∙ ap chars (spelt c ∙ e ∙ sym (spelt d)) ∙ chars-encodes (d ∷ []) t in cc

  more_kept : (c : ℕ) (p : Paragraph) (ps : List Paragraph) → KeepCrLf (p ∷ ps) → KeepCrLf (record p { body = encode_utf8 c ++ p.body } ∷ ps)
  more_kept c p [] h = tt
  more_kept c p (q ∷ ps) h = h

  kept_plain : (c : ℕ) (cs : List ℕ) (p : Paragraph) (ps : List Paragraph) → ends ucd c ≡ false → KeepsCrLf cs (p ∷ ps)
      → KeepsCrLf (c ∷ cs) (record p { body = encode_utf8 c ++ p.body } ∷ ps)
  kept_plain c cs p ps e h s =
      let k = h (scalars_back (c ∷ []) cs s) in
      (λ none lf. absurd (omega (arith, width_is_some c, ap length none, length-append (encode_utf8 c) p.body)), more_kept c p ps k.1)

  pair_kept : (d : ℕ) (ps : List Paragraph) → KeepCrLf (bare (encode_utf8 d) ∷ ps) → KeepCrLf (bare (encode_utf8 13 ++ encode_utf8 d) ∷ ps)
  pair_kept d [] h = tt
  pair_kept d (q ∷ ps) h =
      (λ cr none lf. omega (arith, width_is_some d, ap length cr, length-append (encode_utf8 13) (encode_utf8 d)), h.1)

  two_bytes : (d : ℕ) → encode_utf8 13 ++ encode_utf8 d ≡ encode_utf8 10 → ⊥
  unfolding encode
  two_bytes d e =
      let one : length (encode_utf8 10) ≡ 1 = refl in
      omega (arith, one, width_is_some 13, width_is_some d, ap length e, length-append (encode_utf8 13) (encode_utf8 d))

  kept_pair : (c d : ℕ) (cs : List ℕ) (ps : List Paragraph) → IsPair ucd c d → KeepsCrLf (d ∷ cs) (bare (encode_utf8 d) ∷ ps)
      → KeepsCrLf (c ∷ d ∷ cs) (bare (encode_utf8 13 ++ encode_utf8 d) ∷ ps)
  kept_pair c d cs ps pair h s =
      let k = h (scalars_back (c ∷ []) (d ∷ cs) s) in (λ none lf. absurd (two_bytes d lf), pair_kept d ps k.1)

  kept_behind : (c : ℕ) (cs : List ℕ) (ps : List Paragraph) → scalars (c ∷ []) ≡ true → is_paired ucd c cs ≡ false → HasLfFirst cs ps → KeepCrLf ps
      → KeepCrLf (bare (encode_utf8 c) ∷ ps)
  kept_behind c cs [] s alone f k = tt
  kept_behind c cs (q ∷ ps) s alone f k = (
    λ cr none lf.
        let same : c ≡ 13 = same_code c 13 s refl cr in
        let begins : begins_with_lf ucd cs ≡ true = f none lf in grind (arith, nat_tests),
    k,
  )

  kept_ended : (c : ℕ) (cs : List ℕ) (ps : List Paragraph) → ends ucd c ≡ true → is_paired ucd c cs ≡ false → KeepsCrLf cs ps
      → KeepsCrLf (c ∷ cs) (bare (encode_utf8 c) ∷ ps)
  kept_ended c cs ps e alone h s =
      let one : scalars (c ∷ []) ≡ true = grind (arith, nat_tests) in
      let k = h (scalars_back (c ∷ []) cs s) in
      (λ none lf. let same : c ≡ 10 = same_code c 10 one refl lf in grind (arith, nat_tests), kept_behind c cs ps one alone k.0 k.1)

  kept_cr_lf : (cs : List ℕ) → KeepsCrLf cs (cut ucd cs)
  kept_cr_lf cs = of_cut ucd KeepsCrLf (λ s. (λ none lf. absurd (no_bytes [] refl lf), tt)) kept_plain kept_pair kept_ended cs

pub keep_each_cr_lf : KeepEachCrLf
keep_each_cr_lf ucd text utf8 = (kept_cr_lf ucd (chars text) (scalars-chars text utf8)).1

pub end_with_separators : EndWithSeparators
end_with_separators ucd text = each_ends ucd (chars text)

pub join_to_text : JoinToText
join_to_text ucd text utf8 = join_text ucd text utf8

pub match_spans : MatchSpans
match_spans ucd text utf8 = at_spans (paragraphs ucd text) text [] 0 (sym (join_text ucd text utf8)) refl

pub bodies_have_none : BodiesHaveNone
bodies_have_none ucd text utf8 = none_cut ucd (chars text) (scalars-chars text utf8)
