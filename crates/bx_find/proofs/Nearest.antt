-- The nearest matches.
use Rattle.std.proofs.Common.{◌≡◌, ◌≤◌, ◌<◌, ◌+◌, ◌∙◌, ◌⊎◌, inl, inr, ℕ, Bool, true, false, List, [], ◌∷◌, ◌++◌, length, chars, take, drop, refl, ap, sym}
use Rattle.std.proofs.Common.{subst, arith, IsCharBoundary}
use Rattle.std.specs.Prelude.{Option, Some, None, MatchOption, find, nat_le, nat_lt, encode_utf8, encode_utf8_all, IsUtf8}
use Rattle.std.proofs.lemmas.Bool.{cases_lt}
use Rattle.std.proofs.lemmas.List.{drop_at}
use Rattle.std.proofs.lemmas.Bool.Decides.{nat_tests}
use Rattle.std.proofs.lemmas.Str.{encodes-chars, encodes-append, scalars-chars, chars-encodes, IsCharBoundary-at_seam}
use Rattle.bx_ucd.specs.Data.{Data}
use Rattle.bx_find.specs.Matches.{is_match, matches, first_from, last_below, last_before}
use Rattle.bx_find.specs.Nearest.{MatchesAt, IsFirst, IsLast}
use Rattle.bx_find.specs.declared.letters.Reading.{Reading}
use Rattle.bx_find.proofs.Offsets.{widths, widths-more, matches-here, matches-not, front-bytes, cut_chars}
use lib.Utf8.{scalars}

scalars-end : (front rest : List ℕ) → scalars (front ++ rest) ≡ true → scalars rest ≡ true
scalars-end [] rest h = h
scalars-end (c ∷ front) rest h = let more : scalars (front ++ rest) ≡ true = grind (arith, nat_tests) in scalars-end front rest more

-- the characters of a text from an offset on
pub text_at : (text front rest : List ℕ) (i : ℕ) → IsUtf8 text → chars text ≡ front ++ rest → widths front ≡ i → chars (drop i text) ≡ rest
text_at text front rest i u whole at =
    let bytes : text ≡ encode_utf8_all front ++ encode_utf8_all rest =
    sym (encodes-chars text u) ∙ ap encode_utf8_all whole ∙ encodes-append front rest in
    ap chars (ap (drop i) bytes ∙ drop_at (encode_utf8_all front) (encode_utf8_all rest) i at)
    ∙ chars-encodes rest (scalars-end front rest (ap scalars (sym whole) ∙ scalars-chars text u))

-- a text may be cut behind some of its characters
pub bound_at : (text front rest : List ℕ) (i : ℕ) → IsUtf8 text → chars text ≡ front ++ rest → widths front ≡ i → IsCharBoundary text i
bound_at text front rest i u whole at =
    let bytes : text ≡ encode_utf8_all front ++ encode_utf8_all rest =
    sym (encodes-chars text u) ∙ ap encode_utf8_all whole ∙ encodes-append front rest in
    subst (IsCharBoundary text) at
    (IsCharBoundary-at_seam text (encode_utf8_all front) (encode_utf8_all rest) bytes
    (rest, (scalars-end front rest (ap scalars (sym whole) ∙ scalars-chars text u), refl)))

module _ (ucd : Data) (reading : Reading) (sought : List ℕ) where
  -- the letters match at the offset `i`; the first character is at the offset `at`
  abbrev pub MatchesIn : ℕ → List ℕ → ℕ → Type 0
  MatchesIn at [] i = ⊥
  MatchesIn at (c ∷ cs) i = ((i ≡ at) × (is_match ucd reading sought (c ∷ cs) ≡ true)) ⊎ MatchesIn (at + length (encode_utf8 c)) cs i

  pub above : (at i : ℕ) (cs : List ℕ) → MatchesIn at cs i → at ≤ i
  above at i [] h = absurd h
  above at i (c ∷ cs) (inl h) = omega (arith, h.0)
  above at i (c ∷ cs) (inr h) = omega (arith, above (at + length (encode_utf8 c)) i cs h)

  -- ---- the first from x on

  abbrev pub First : ℕ → (ℕ → Type 0) → Option ℕ → Type 0
  First x P o = MatchOption o ((i : ℕ) → x ≤ i → ¬ (P i)) (λ a. P a × (x ≤ a) × ((i : ℕ) → x ≤ i → P i → a ≤ i))

  later : (x at : ℕ) (Here : Type 0) (P : ℕ → Type 0) (o : Option ℕ) → ((i : ℕ) → x ≤ i → i ≡ at → Here → ⊥) → First x P o
      → First x (λ i. ((i ≡ at) × Here) ⊎ P i) o
  later x at Here P None other h = λ i l e. elim e [ inl f ↦ other i l f.0 f.1 | inr f ↦ h i l f ]
  later x at Here P (Some a) other h = (inr h.0, h.1, λ i l e. elim e [ inl f ↦ absurd (other i l f.0 f.1) | inr f ↦ h.2 i l f ])

  find-not : (x at : ℕ) (ats : List ℕ) → at < x → find (nat_le x) (at ∷ ats) ≡ find (nat_le x) ats
  find-not x at ats h = let e : nat_le x at ≡ false = grind (arith, nat_tests) in rw (e, find) refl

  find-here : (x at : ℕ) (ats : List ℕ) → x ≤ at → find (nat_le x) (at ∷ ats) ≡ Some at
  find-here x at ats h = let e : nat_le x at ≡ true = grind (arith, nat_tests) in rw (e, find) refl

  abbrev pub FirstOf : ℕ → ℕ → List ℕ → Type 0
  FirstOf x at cs = First x (MatchesIn at cs) (find (nat_le x) (matches ucd reading sought at cs))

  first-by : (x at c : ℕ) (cs : List ℕ) (here : Bool) → is_match ucd reading sought (c ∷ cs) ≡ here → FirstOf x (at + length (encode_utf8 c)) cs → FirstOf x at (c ∷ cs)
  first-by x at c cs false e h =
      subst (First x (MatchesIn at (c ∷ cs))) (sym (ap (find (nat_le x)) (matches-not ucd reading sought at c cs e)))
      (later x at (is_match ucd reading sought (c ∷ cs) ≡ true) (MatchesIn (at + length (encode_utf8 c)) cs) _ (λ i l f g. let no : false ≡ true = sym e ∙ g in absurd (cc)) h)
  first-by x at c cs true e h =
      subst (λ os. First x (MatchesIn at (c ∷ cs)) (find (nat_le x) os)) (sym (matches-here ucd reading sought at c cs e))
      (elim (cases_lt at x) [
        | inl l ↦ subst (First x (MatchesIn at (c ∷ cs))) (sym (find-not x at _ l))
            (later x at (is_match ucd reading sought (c ∷ cs) ≡ true) (MatchesIn (at + length (encode_utf8 c)) cs) _ (λ i m f g. absurd (omega (arith, l, m, f))) h)
        | inr l ↦ subst (First x (MatchesIn at (c ∷ cs))) (sym (find-here x at _ l)) (inl (refl, e), l, λ i m f. above at i (c ∷ cs) f)
      ])

  first-of : (x at : ℕ) (cs : List ℕ) → FirstOf x at cs
  first-of x at [] = λ i l h. h
  first-of x at (c ∷ cs) = first-by x at c cs (is_match ucd reading sought (c ∷ cs)) refl (first-of x (at + length (encode_utf8 c)) cs)

  -- ---- the last before x

  pub record IsGreatest (x : ℕ) (P : ℕ → Type 0) (o : Option ℕ) : Type 0 where
    pub value : ℕ
    pub is : o ≡ Some value
    pub there : P value
    pub before : value < x
    pub greatest : (i : ℕ) → i < x → P i → i ≤ value

  abbrev pub Last : ℕ → Option ℕ → (ℕ → Type 0) → Option ℕ → Type 0
  Last x old P o = ((o ≡ old) × ((i : ℕ) → i < x → ¬ (P i))) ⊎ IsGreatest x P o

  abbrev pub LastOf : ℕ → ℕ → List ℕ → Type 0
  LastOf x at cs = (old : Option ℕ) → Last x old (MatchesIn at cs) (last_below x old (matches ucd reading sought at cs))

  past : (x at : ℕ) (Here : Type 0) (P : ℕ → Type 0) (old o : Option ℕ) → ((i : ℕ) → i < x → i ≡ at → Here → ⊥) → Last x old P o
      → Last x old (λ i. ((i ≡ at) × Here) ⊎ P i) o
  past x at Here P old o other (inl h) = inl (h.0, λ i l e. elim e [ inl f ↦ other i l f.0 f.1 | inr f ↦ h.1 i l f ])
  past x at Here P old o other (inr h) = inr (record {
    value = h.value;
    is = h.is;
    there = inr h.there;
    before = h.before;
    greatest = λ i l e. elim e [ inl f ↦ absurd (other i l f.0 f.1) | inr f ↦ h.greatest i l f ];
  })

  taken : (x at : ℕ) (Here : Type 0) (P : ℕ → Type 0) (old o : Option ℕ) → at < x → Here → ((i : ℕ) → P i → at ≤ i) → Last x (Some at) P o
      → Last x old (λ i. ((i ≡ at) × Here) ⊎ P i) o
  taken x at Here P old o before here below (inl h) = inr (record {
    value = at;
    is = h.0;
    there = inl (refl, here);
    before = before;
    greatest = λ i l e. elim e [ inl f ↦ omega (arith, f.0) | inr f ↦ absurd (h.1 i l f) ];
  })
  taken x at Here P old o before here below (inr h) = inr (record {
    value = h.value;
    is = h.is;
    there = inr h.there;
    before = h.before;
    greatest = λ i l e. elim e [ inl f ↦ omega (arith, f.0, below h.value h.there) | inr f ↦ h.greatest i l f ];
  })

  last-here : (x at : ℕ) (o : Option ℕ) (ats : List ℕ) → at < x → last_below x o (at ∷ ats) ≡ last_below x (Some at) ats
  last-here x at o ats h = let e : nat_lt at x ≡ true = grind (arith, nat_tests) in rw (e, last_below) refl

  last-not : (x at : ℕ) (o : Option ℕ) (ats : List ℕ) → x ≤ at → last_below x o (at ∷ ats) ≡ last_below x o ats
  last-not x at o ats h = let e : nat_lt at x ≡ false = grind (arith, nat_tests) in rw (e, last_below) refl

  last-by : (x at c : ℕ) (cs : List ℕ) (here : Bool) → is_match ucd reading sought (c ∷ cs) ≡ here → LastOf x (at + length (encode_utf8 c)) cs → LastOf x at (c ∷ cs)
  last-by x at c cs false e h old =
      subst (Last x old (MatchesIn at (c ∷ cs))) (sym (ap (last_below x old) (matches-not ucd reading sought at c cs e)))
      (past x at (is_match ucd reading sought (c ∷ cs) ≡ true) (MatchesIn (at + length (encode_utf8 c)) cs) old _ (λ i l f g. let no : false ≡ true = sym e ∙ g in absurd (cc)) (h old))
  last-by x at c cs true e h old =
      subst (λ os. Last x old (MatchesIn at (c ∷ cs)) (last_below x old os)) (sym (matches-here ucd reading sought at c cs e))
      (elim (cases_lt at x) [
        | inl l ↦ subst (Last x old (MatchesIn at (c ∷ cs))) (sym (last-here x at old _ l))
            (taken x at (is_match ucd reading sought (c ∷ cs) ≡ true) (MatchesIn (at + length (encode_utf8 c)) cs) old _ l e
            (λ i f. let up = above (at + length (encode_utf8 c)) i cs f in omega (arith, up)) (h (Some at)))
        | inr l ↦ subst (Last x old (MatchesIn at (c ∷ cs))) (sym (last-not x at old _ l))
            (past x at (is_match ucd reading sought (c ∷ cs) ≡ true) (MatchesIn (at + length (encode_utf8 c)) cs) old _ (λ i m f g. absurd (omega (arith, l, m, f))) (h old))
      ])

  last-of : (x at : ℕ) (cs : List ℕ) → LastOf x at cs
  last-of x at [] = λ old. inl (refl, λ i l h. h)
  last-of x at (c ∷ cs) = last-by x at c cs (is_match ucd reading sought (c ∷ cs)) refl (last-of x (at + length (encode_utf8 c)) cs)

  -- ---- offsets of a text

  into : (at : ℕ) (front rest : List ℕ) → is_match ucd reading sought rest ≡ true → MatchesIn at (front ++ rest) (at + widths front)
  into at [] [] h = absurd (cc)
  into at [] (c ∷ rest) h = inl (omega arith, h)
  into at (c ∷ front) rest h =
      let e : at + length (encode_utf8 c) + widths front ≡ at + widths (c ∷ front) = omega (arith, widths-more c front) in
      inr (subst (MatchesIn (at + length (encode_utf8 c)) (front ++ rest)) e (into (at + length (encode_utf8 c)) front rest h))

  record Cut (at : ℕ) (cs : List ℕ) (i : ℕ) : Type 0 where
    pub front : List ℕ
    pub rest : List ℕ
    pub whole : cs ≡ front ++ rest
    pub offset : i ≡ at + widths front
    pub fits : is_match ucd reading sought rest ≡ true

  out : (at i : ℕ) (cs : List ℕ) → MatchesIn at cs i → Cut at cs i
  out at i [] h = absurd h
  out at i (c ∷ cs) (inl h) = record { front = []; rest = c ∷ cs; whole = refl; offset = omega (arith, h.0); fits = h.1 }
  out at i (c ∷ cs) (inr h) =
      let k = out (at + length (encode_utf8 c)) i cs h in
      record {
        front = c ∷ k.front;
        rest = k.rest;
        whole = ap (λ ds. c ∷ ds) k.whole;
        offset = omega (arith, k.offset, widths-more c k.front);
        fits = k.fits;
      }

  pub in-text : (text : List ℕ) (i : ℕ) → IsUtf8 text → MatchesAt ucd reading sought text i → MatchesIn 0 (chars text) i
  in-text text i u h =
      let e : 0 + widths (chars (take i text)) ≡ i = omega (arith, front-bytes ucd reading sought text i u h.0) in
      subst (λ cs. MatchesIn 0 cs i) (sym (cut_chars ucd reading sought text i u h.0))
      (subst (MatchesIn 0 (chars (take i text) ++ chars (drop i text))) e (into 0 (chars (take i text)) (chars (drop i text)) h.1))

  pub of-text : (text : List ℕ) (i : ℕ) → IsUtf8 text → MatchesIn 0 (chars text) i → MatchesAt ucd reading sought text i
  of-text text i u h =
      let k = out 0 i (chars text) h in
      let at : widths k.front ≡ i = omega (arith, k.offset) in (
        bound_at text k.front k.rest i u k.whole at,
        ap (is_match ucd reading sought) (text_at text k.front k.rest i u k.whole at) ∙ k.fits,
      )

  first-from : (text : List ℕ) (x : ℕ) (o : Option ℕ) → IsUtf8 text → First x (MatchesIn 0 (chars text)) o
      → MatchOption o ((i : ℕ) → x ≤ i → ¬ (MatchesAt ucd reading sought text i)) (IsFirst ucd reading sought text x)
  first-from text x None u h = λ i l e. h i l (in-text text i u e)
  first-from text x (Some a) u h = record { is_match = of-text text a u h.0; not_before = h.1; least = λ i l e. h.2 i l (in-text text i u e) }

  last-from : (text : List ℕ) (x : ℕ) (o : Option ℕ) → IsUtf8 text → Last x None (MatchesIn 0 (chars text)) o
      → MatchOption o ((i : ℕ) → i < x → ¬ (MatchesAt ucd reading sought text i)) (IsLast ucd reading sought text x)
  last-from text x None u (inl h) = λ i l e. h.1 i l (in-text text i u e)
  last-from text x None u (inr h) = let no = h.is in absurd (cc)
  last-from text x (Some a) u (inl h) = let no = h.0 in absurd (cc)
  last-from text x (Some a) u (inr h) =
      let same : h.value ≡ a = let is = h.is in cc in
      record {
        is_match = of-text text a u (subst (MatchesIn 0 (chars text)) same h.there);
        before = omega (arith, same, h.before);
        greatest = λ i l e. omega (arith, same, h.greatest i l (in-text text i u e));
      }

  pub first_is : (text : List ℕ) (x : ℕ) → IsUtf8 text
      → MatchOption (first_from ucd reading sought text x) ((i : ℕ) → x ≤ i → ¬ (MatchesAt ucd reading sought text i))
      (IsFirst ucd reading sought text x)
  first_is text x u = first-from text x (first_from ucd reading sought text x) u (first-of x 0 (chars text))

  pub last_is : (text : List ℕ) (x : ℕ) → IsUtf8 text
      → MatchOption (last_before ucd reading sought text x) ((i : ℕ) → i < x → ¬ (MatchesAt ucd reading sought text i))
      (IsLast ucd reading sought text x)
  last_is text x u = last-from text x (last_before ucd reading sought text x) u (last-of x 0 (chars text) None)
