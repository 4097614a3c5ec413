-- The end of a match, and the matches that follow one another.
use Rattle.std.proofs.Common.{◌≡◌, ◌≤◌, ◌<◌, ◌+◌, ◌-◌, ◌∙◌, ◌&&◌, ℕ, zero, suc, Bool, true, false, List, [], ◌∷◌, ◌++◌, length, chars, drop, refl, ap, ap₂, sym}
use Rattle.std.proofs.Common.{subst, arith, inl, inr, IsCharBoundary, Option, Some, None}
use Rattle.std.specs.Prelude.{MatchOption, IsUtf8, encode_utf8, find, nat_le}
use Rattle.std.proofs.lemmas.Bool.{cases_lt, and_parts}
use Rattle.std.proofs.lemmas.Bool.Decides.{nat_tests}
use Rattle.std.proofs.lemmas.Str.{IsUtf8-drop, IsCharBoundary-from_rest}
use Rattle.bx_ucd.specs.Data.{Data}
use Rattle.bx_find.specs.Letters.{letters_of, letters}
use Rattle.bx_find.specs.Matches.{begins_some, is_some, is_match, matches, first_from, is_attached, behind_attached, behind_letters}
use Rattle.bx_find.specs.Matches.{match_end, spans_of, spans_from}
use Rattle.bx_find.specs.Nearest.{MatchesAt, IsFirst}
use Rattle.bx_find.specs.declared.letters.Reading.{Reading}
use Rattle.bx_find.proofs.Offsets.{widths, width-some, widths-more, matches-here, matches-not, cond-here, cond-not}
use Rattle.bx_find.proofs.Nearest.{first_is, text_at, bound_at}

module _ (ucd : Data) (reading : Reading) where
  -- ---- the end of a match

  attached-step : (at c : ℕ) (cs : List ℕ) → is_attached ucd c ≡ true
      → behind_attached ucd at (c ∷ cs) ≡ behind_attached ucd (at + length (encode_utf8 c)) cs
  attached-step at c cs e = rw (e, behind_attached) refl

  attached-ends : (at c : ℕ) (cs : List ℕ) → is_attached ucd c ≡ false → behind_attached ucd at (c ∷ cs) ≡ at
  attached-ends at c cs e = rw (e, behind_attached) refl

  -- all letters are read, and the next character is not attached
  pub ends_here : (n at c : ℕ) (cs : List ℕ) → n ≡ 0 → is_attached ucd c ≡ false → behind_letters ucd reading n at (c ∷ cs) ≡ at
  ends_here zero at c cs none e = attached-ends at c cs e
  ends_here (suc n) at c cs none e = absurd (omega (arith, none))

  -- else the end is behind the next character
  pub goes_on : (n at c : ℕ) (cs : List ℕ) → (n ≡ 0 → is_attached ucd c ≡ true)
      → behind_letters ucd reading n at (c ∷ cs)
      ≡ behind_letters ucd reading (n - length (letters_of ucd reading c)) (at + length (encode_utf8 c)) cs
  goes_on zero at c cs h =
      let none : 0 ≡ 0 - length (letters_of ucd reading c) = omega arith in
      attached-step at c cs (h refl) ∙ ap (λ n. behind_letters ucd reading n (at + length (encode_utf8 c)) cs) none
  goes_on (suc n) at c cs h = refl

  pub ends_with : (n at : ℕ) → behind_letters ucd reading n at [] ≡ at
  ends_with zero at = refl
  ends_with (suc n) at = refl

  -- the end is behind a beginning of the characters
  pub record Ends (at : ℕ) (cs : List ℕ) (end : ℕ) : Type 0 where
    pub front : List ℕ
    pub rest : List ℕ
    pub whole : cs ≡ front ++ rest
    pub offset : end ≡ at + widths front

  ends-more : (at c end : ℕ) (cs : List ℕ) → Ends (at + length (encode_utf8 c)) cs end → Ends at (c ∷ cs) end
  ends-more at c end cs h =
      record { front = c ∷ h.front; rest = h.rest; whole = ap (λ ds. c ∷ ds) h.whole; offset = omega (arith, h.offset, widths-more c h.front) }

  ends-nowhere : (at end : ℕ) (cs : List ℕ) → end ≡ at → Ends at cs end
  ends-nowhere at end cs e = record { front = []; rest = cs; whole = refl; offset = omega (arith, e) }

  ends-by : (n at c : ℕ) (cs : List ℕ) (attached : Bool) → is_attached ucd c ≡ attached
      → ((m : ℕ) → Ends (at + length (encode_utf8 c)) cs (behind_letters ucd reading m (at + length (encode_utf8 c)) cs))
      → Ends at (c ∷ cs) (behind_letters ucd reading n at (c ∷ cs))
  ends-by n at c cs true e more =
      subst (Ends at (c ∷ cs)) (sym (goes_on n at c cs (λ _. e))) (ends-more at c _ cs (more (n - length (letters_of ucd reading c))))
  ends-by zero at c cs false e more = ends-nowhere at _ (c ∷ cs) (ends_here 0 at c cs refl e)
  ends-by (suc n) at c cs false e more = ends-more at c _ cs (more (suc n - length (letters_of ucd reading c)))

  pub ends : (n at : ℕ) (cs : List ℕ) → Ends at cs (behind_letters ucd reading n at cs)
  ends n at [] = ends-nowhere at _ [] (ends_with n at)
  ends n at (c ∷ cs) = ends-by n at c cs (is_attached ucd c) refl (λ m. ends m (at + length (encode_utf8 c)) cs)

  pub not_before : (n at : ℕ) (cs : List ℕ) → at ≤ behind_letters ucd reading n at cs
  not_before n at cs = let e = ends n at cs in omega (arith, e.offset)

  behind-first : (n at c : ℕ) (cs : List ℕ) → 0 < n → at < behind_letters ucd reading n at (c ∷ cs)
  behind-first zero at c cs some = absurd (omega (arith, some))
  behind-first (suc n) at c cs some =
      omega (arith, width-some c, not_before (suc n - length (letters_of ucd reading c)) (at + length (encode_utf8 c)) cs)

  -- ---- the matches that follow one another

  module _ (sought : List ℕ) where
    abbrev end-of : ℕ → List ℕ → ℕ
    end-of at cs = behind_letters ucd reading (length sought) at cs

    spans-here : (x at c : ℕ) (cs : List ℕ) → x ≤ at → is_match ucd reading sought (c ∷ cs) ≡ true
        → spans_of ucd reading sought x at (c ∷ cs)
        ≡ (at, end-of at (c ∷ cs)) ∷ spans_of ucd reading sought (end-of at (c ∷ cs)) (at + length (encode_utf8 c)) cs
    spans-here x at c cs h e = let l : nat_le x at ≡ true = grind (arith, nat_tests) in rw (l, e, spans_of) refl

    spans-not : (x at c : ℕ) (cs : List ℕ) → is_match ucd reading sought (c ∷ cs) ≡ false
        → spans_of ucd reading sought x at (c ∷ cs) ≡ spans_of ucd reading sought x (at + length (encode_utf8 c)) cs
    spans-not x at c cs e = let none : (nat_le x at && is_match ucd reading sought (c ∷ cs)) ≡ false = grind (arith, nat_tests) in rw (none, spans_of) refl

    spans-before : (x at c : ℕ) (cs : List ℕ) → at < x
        → spans_of ucd reading sought x at (c ∷ cs) ≡ spans_of ucd reading sought x (at + length (encode_utf8 c)) cs
    spans-before x at c cs h =
        let none : (nat_le x at && is_match ucd reading sought (c ∷ cs)) ≡ false = grind (arith, nat_tests) in rw (none, spans_of) refl

    spans-skipped : (x at : ℕ) (front rest : List ℕ) → at + widths front ≤ x
        → spans_of ucd reading sought x at (front ++ rest) ≡ spans_of ucd reading sought x (at + widths front) rest
    spans-skipped x at [] rest h = let e : at ≡ at + 0 = omega arith in ap (λ n. spans_of ucd reading sought x n rest) e
    spans-skipped x at (c ∷ front) rest h =
        let e : at + length (encode_utf8 c) + widths front ≡ at + widths (c ∷ front) = omega (arith, widths-more c front) in
        spans-before x at c (front ++ rest) (omega (arith, width-some c, e, h))
        ∙ spans-skipped x (at + length (encode_utf8 c)) front rest (omega (arith, e, h))
        ∙ ap (λ n. spans_of ucd reading sought x n rest) e

    -- the first match from x on, with what stands before it and from it on
    record Next (x at : ℕ) (cs : List ℕ) (a : ℕ) : Type 0 where
      pub front : List ℕ
      pub rest : List ℕ
      pub whole : cs ≡ front ++ rest
      pub offset : a ≡ at + widths front
      pub after : a < end-of a rest
      pub spans : spans_of ucd reading sought x at cs ≡ (a, end-of a rest) ∷ spans_of ucd reading sought (end-of a rest) a rest

    abbrev NextOf : ℕ → ℕ → List ℕ → Option ℕ → Type 0
    NextOf x at cs o = MatchOption o (spans_of ucd reading sought x at cs ≡ []) (Next x at cs)

    some-sought : (c : ℕ) (cs : List ℕ) → is_match ucd reading sought (c ∷ cs) ≡ true → 0 < length sought
    some-sought c cs e = some-in sought (and_parts (is_some (letters_of ucd reading c)) _ e).1
      where
        some-in : (ls : List ℕ) → begins_some ls (letters ucd reading (c ∷ cs)) ≡ true → 0 < length ls
        some-in [] f = absurd (cc)
        some-in (l ∷ ls) f = omega arith

    next-here : (x at c : ℕ) (cs : List ℕ) → x ≤ at → is_match ucd reading sought (c ∷ cs) ≡ true → Next x at (c ∷ cs) at
    next-here x at c cs h e =
        let past = behind-first (length sought) at c cs (some-sought c cs e) in
        record {
          front = [];
          rest = c ∷ cs;
          whole = refl;
          offset = omega arith;
          after = past;
          spans = spans-here x at c cs h e
              ∙ ap (λ ss. (at, end-of at (c ∷ cs)) ∷ ss) (sym (spans-before (end-of at (c ∷ cs)) at c cs past));
        }

    next-later : (x at c : ℕ) (cs : List ℕ) (o : Option ℕ)
        → spans_of ucd reading sought x at (c ∷ cs) ≡ spans_of ucd reading sought x (at + length (encode_utf8 c)) cs
        → NextOf x (at + length (encode_utf8 c)) cs o → NextOf x at (c ∷ cs) o
    next-later x at c cs None same h = same ∙ h
    next-later x at c cs (Some a) same h =
        record {
          front = c ∷ h.front;
          rest = h.rest;
          whole = ap (λ ds. c ∷ ds) h.whole;
          offset = omega (arith, h.offset, widths-more c h.front);
          after = h.after;
          spans = same ∙ h.spans;
        }

    next-by : (x at c : ℕ) (cs : List ℕ) (here : Bool) → is_match ucd reading sought (c ∷ cs) ≡ here
        → NextOf x (at + length (encode_utf8 c)) cs (find (nat_le x) (matches ucd reading sought (at + length (encode_utf8 c)) cs))
        → NextOf x at (c ∷ cs) (find (nat_le x) (matches ucd reading sought at (c ∷ cs)))
    next-by x at c cs false e more =
        subst (NextOf x at (c ∷ cs)) (sym (ap (find (nat_le x)) (matches-not ucd reading sought at c cs e)))
        (next-later x at c cs _ (spans-not x at c cs e) more)
    next-by x at c cs true e more =
        subst (λ os. NextOf x at (c ∷ cs) (find (nat_le x) os)) (sym (matches-here ucd reading sought at c cs e))
        (elim (cases_lt at x) [
          | inl l ↦ subst (NextOf x at (c ∷ cs)) (sym (cond-not ucd reading sought at x _ l)) (next-later x at c cs _ (spans-before x at c cs l) more)
          | inr l ↦ subst (NextOf x at (c ∷ cs)) (sym (cond-here ucd reading sought at x _ l)) (next-here x at c cs l e)
        ])

    next : (x at : ℕ) (cs : List ℕ) → NextOf x at cs (find (nat_le x) (matches ucd reading sought at cs))
    next x at [] = refl
    next x at (c ∷ cs) = next-by x at c cs (is_match ucd reading sought (c ∷ cs)) refl (next x (at + length (encode_utf8 c)) cs)

    -- ---- the spans of a text

    abbrev pub IsNext : List ℕ → ℕ → ℕ → Type 0
    IsNext text x a =
        (a < match_end ucd reading sought text a)
        × (spans_from ucd reading sought text x
        ≡ (a, match_end ucd reading sought text a) ∷ spans_from ucd reading sought text (match_end ucd reading sought text a))

    next-in : (text : List ℕ) (x a : ℕ) → IsUtf8 text → Next x 0 (chars text) a → IsNext text x a
    next-in text x a u h =
        let at : widths h.front ≡ a = omega (arith, h.offset) in
        let rest : chars (drop a text) ≡ h.rest = text_at text h.front h.rest a u h.whole at in
        let end : end-of a h.rest ≡ match_end ucd reading sought text a = ap (end-of a) (sym rest) in
        let skipped : spans_from ucd reading sought text (end-of a h.rest) ≡ spans_of ucd reading sought (end-of a h.rest) a h.rest =
        ap (spans_of ucd reading sought (end-of a h.rest) 0) h.whole
        ∙ spans-skipped (end-of a h.rest) 0 h.front h.rest (omega (arith, at, h.after))
        ∙ ap (λ n. spans_of ucd reading sought (end-of a h.rest) n h.rest) (sym h.offset) in (
          omega (arith, end, h.after),
          h.spans ∙ ap₂ (λ (e : ℕ) (ss : List (ℕ × ℕ)). (a, e) ∷ ss) end
              (sym skipped ∙ ap (spans_from ucd reading sought text) end),
        )

    pub next_span : (text : List ℕ) (x : ℕ) → IsUtf8 text
        → MatchOption (first_from ucd reading sought text x) (spans_from ucd reading sought text x ≡ []) (IsNext text x)
    next_span text x u = of-option (first_from ucd reading sought text x) (next x 0 (chars text))
      where
        of-option : (o : Option ℕ) → NextOf x 0 (chars text) o → MatchOption o (spans_from ucd reading sought text x ≡ []) (IsNext text x)
        of-option None h = h
        of-option (Some a) h = next-in text x a u h

    -- ---- that they are found

    module _ (text : List ℕ) (u : IsUtf8 text) where
      -- a match ends between characters
      pub end_bound : (a : ℕ) → IsCharBoundary text a → IsCharBoundary text (match_end ucd reading sought text a)
      end_bound a b =
          let e = ends (length sought) a (chars (drop a text)) in
          subst (IsCharBoundary text) (sym e.offset)
          (IsCharBoundary-from_rest text a (widths e.front) b.0 (bound_at (drop a text) e.front e.rest (widths e.front) (IsUtf8-drop text a u b) e.whole refl))

      found-by : (x a : ℕ) (o : Option ℕ) → Some a ≡ o
          → MatchOption o ((i : ℕ) → x ≤ i → ¬ (MatchesAt ucd reading sought text i)) (IsFirst ucd reading sought text x)
          → MatchOption o (spans_from ucd reading sought text x ≡ []) (IsNext text x)
          → IsFirst ucd reading sought text x a × IsNext text x a
      found-by x a None e first n = absurd (cc)
      found-by x a (Some b) e first n =
          let same : b ≡ a = cc in (subst (IsFirst ucd reading sought text x) same first, subst (IsNext text x) same n)

      pub span_found : (x a : ℕ) → Some a ≡ first_from ucd reading sought text x
          → IsFirst ucd reading sought text x a × IsNext text x a
      span_found x a e = found-by x a (first_from ucd reading sought text x) e (first_is ucd reading sought text x u) (next_span text x u)

      none-by : (x : ℕ) (o : Option ℕ) → None ≡ o → MatchOption o (spans_from ucd reading sought text x ≡ []) (IsNext text x)
          → spans_from ucd reading sought text x ≡ []
      none-by x None e n = n
      none-by x (Some b) e n = absurd (cc)

      pub none_found : (x : ℕ) → None ≡ first_from ucd reading sought text x → spans_from ucd reading sought text x ≡ []
      none_found x e = none-by x (first_from ucd reading sought text x) e (next_span text x u)
