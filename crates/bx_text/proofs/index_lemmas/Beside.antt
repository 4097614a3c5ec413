-- The paragraphs next to a change: a body's bytes before it have no separator, and the paragraphs after it stay.
use Rattle.std.proofs.Common.{◌≡◌, ◌<◌, ◌≤◌, ◌+◌, ◌-◌, ◌∙◌, ◌⊎◌, inl, inr, ℕ, Bool, true, false, min, List, [], ◌∷◌, ◌++◌, drop, chars, IsUtf8}
use Rattle.std.proofs.Common.{IsCharBoundary, refl, ap, sym, subst, arith, append_assoc}
use Rattle.std.proofs.lemmas.Bool.Decides.{nat_tests}
use Rattle.bx_ucd.specs.Data.{Data}
use Rattle.bx_text.specs.declared.change.Change.{Change}
use Rattle.bx_text.specs.declared.index.lengths.Lengths.{Lengths}
use Rattle.bx_text.specs.index.Paragraphs.{lengths, bytes_of, total}
use Rattle.bx_text.specs.index.Ended.{first, further}
use Rattle.bx_text.specs.index.Scan.{HasNone}
use Rattle.bx_text.proofs.index_lemmas.Changes.{AreAround, cut_at}
use Rattle.bx_text.proofs.index_lemmas.Counts.{count_is_some, paired_ends}
use Rattle.bx_text.proofs.index_lemmas.Cuts.{width, width_is_some, widths, widths_more, widths_append, one_width, lens, ends, is_paired, lens_plain}
use Rattle.bx_text.proofs.index_lemmas.Edits.{shorter}
use Rattle.bx_text.proofs.index_lemmas.Firsts.{first_behind, first_grown, first_at, one_byte, same_lengths}
use Rattle.bx_text.proofs.index_lemmas.Seams.{seam}

-- the rest of a paragraph after `n` of its bytes
abbrev pub rest_of : ℕ → Lengths → Lengths
rest_of n p = record { body = p.body - n; separator = min p.separator (bytes_of p - n) }

module _ (ucd : Data) where
  first_plain : (c : ℕ) (cs : List ℕ) → ends ucd c ≡ false → first (lens ucd (c ∷ cs)) ≡ further (width c) (first (lens ucd cs))
  first_plain c cs e = ap first (lens_plain ucd c cs e) ∙ first_grown (width c) (lens ucd cs) (count_is_some ucd cs)

  no_body : (c : ℕ) (cs : List ℕ) → ends ucd c ≡ true → (first (lens ucd (c ∷ cs))).body ≡ 0
  no_body c cs e = ap (λ (l : Lengths). l.body) (first_at ucd c cs (is_paired ucd c cs) e refl)

  -- ---- the characters in the first paragraph's body

  pub record IsQuiet (h r : List ℕ) : Type 0 where
    pub body : List ℕ
    pub others : List ℕ
    pub whole : h ≡ body ++ others
    pub bytes : widths body ≡ min (widths h) (first (lens ucd (h ++ r))).body
    pub none : HasNone ucd body

  quiet_at : (c : ℕ) (h r : List ℕ) (ended : Bool) → ends ucd c ≡ ended → IsQuiet h r → IsQuiet (c ∷ h) r
  quiet_at c h r false e q = record {
    body = c ∷ q.body;
    others = q.others;
    whole = ap (λ v. c ∷ v) q.whole;
    bytes = omega (arith, widths_more c q.body, widths_more c h, q.bytes, ap (λ (l : Lengths). l.body) (first_plain c (h ++ r) e));
    none = (e, q.none);
  }
  quiet_at c h r true e q = record {
    body = [];
    others = c ∷ h;
    whole = refl;
    bytes = omega (arith, no_body c (h ++ r) e);
    none = tt;
  }

  pub quiet : (h r : List ℕ) → IsQuiet h r
  quiet [] r = record { body = []; others = []; whole = refl; bytes = omega arith; none = tt }
  quiet (c ∷ h) r = quiet_at c h r (ends ucd c) refl (quiet h r)

  -- ---- the rest after some characters of the first paragraph

  rest_none : (p : Lengths) → p ≡ rest_of 0 p
  rest_none p = same_lengths p.body (p.body - 0) p.separator (min p.separator (bytes_of p - 0)) (omega arith) (omega arith)

  rest_further : (n m k : ℕ) (p : Lengths) → n + m ≡ k → rest_of m p ≡ rest_of k (further n p)
  rest_further n m k p e = same_lengths (p.body - m) (n + p.body - k) (min p.separator (bytes_of p - m)) (min p.separator (bytes_of (further n p) - k))
      (omega (arith, e)) (omega (arith, e))

  abbrev pub HoldsAll : ℕ → Lengths → Type 0
  HoldsAll n p = (n ≤ p.body) ⊎ (n < bytes_of p)

  holds_further : (n m k : ℕ) (p l : Lengths) → n + m ≡ k → l ≡ further n p → HoldsAll k l → HoldsAll m p
  holds_further n m k p l e f (inl h) = inl (omega (arith, e, ap (λ (q : Lengths). q.body) f))
  holds_further n m k p l e f (inr h) = inr (omega (arith, e, ap bytes_of f))

  none_held : (n : ℕ) (p : Lengths) → HoldsAll n p → p.body ≡ 0 → p.separator ≤ n → 0 < n → ⊥
  none_held n p (inl h) e f g = omega arith
  none_held n p (inr h) e f g = omega arith

  rest_paired : (c : ℕ) (h r : List ℕ) → ends ucd c ≡ true → is_paired ucd c (h ++ r) ≡ true
      → HoldsAll (widths (c ∷ h)) (first (lens ucd (c ∷ h ++ r))) → first (lens ucd r) ≡ rest_of (widths (c ∷ h)) (first (lens ucd (c ∷ h ++ r)))
  rest_paired c [] [] e p k = absurd (grind (arith, nat_tests))
  rest_paired c [] (d ∷ cs) e p k =
      let cr : c ≡ 13 = grind (arith, nat_tests) in
      let lf : d ≡ 10 = grind (arith, nat_tests) in
      let one : width c ≡ 1 = one_byte c (omega arith) in
      let two : width d ≡ 1 = one_byte d (omega arith) in
      let len : widths (c ∷ []) ≡ 1 = one_width c ∙ one in
      let here = first_at ucd c (d ∷ cs) true e p in
      ap first (paired_ends ucd c d cs p) ∙ ap (λ n. record { body = 0; separator = n }) two
      ∙ ap (λ n. rest_of n (record { body = 0; separator = 2 })) (sym len) ∙ ap (rest_of (widths (c ∷ []))) (sym here)
  rest_paired c (d ∷ h) r e p k =
      let here = first_at ucd c (d ∷ h ++ r) true e p in
      absurd (none_held (widths (c ∷ d ∷ h)) (first (lens ucd (c ∷ d ∷ h ++ r))) k (ap (λ (q : Lengths). q.body) here)
      (omega (arith, ap (λ (q : Lengths). q.separator) here, widths_more c (d ∷ h), widths_more d h, width_is_some c, width_is_some d))
      (omega (arith, widths_more c (d ∷ h), width_is_some c)))

  rest_at : (c : ℕ) (h r : List ℕ) (ended paired : Bool) → ends ucd c ≡ ended → is_paired ucd c (h ++ r) ≡ paired
      → HoldsAll (widths (c ∷ h)) (first (lens ucd (c ∷ h ++ r)))
      → (HoldsAll (widths h) (first (lens ucd (h ++ r))) → first (lens ucd r) ≡ rest_of (widths h) (first (lens ucd (h ++ r))))
      → first (lens ucd r) ≡ rest_of (widths (c ∷ h)) (first (lens ucd (c ∷ h ++ r)))
  rest_at c h r false paired e p k more =
      let f = first_plain c (h ++ r) e in
      let n : width c + widths h ≡ widths (c ∷ h) = sym (widths_more c h) in
      more (holds_further (width c) (widths h) (widths (c ∷ h)) (first (lens ucd (h ++ r))) (first (lens ucd (c ∷ h ++ r))) n f k)
      ∙ rest_further (width c) (widths h) (widths (c ∷ h)) (first (lens ucd (h ++ r))) n ∙ ap (rest_of (widths (c ∷ h))) (sym f)
  rest_at c h r true false e p k more =
      let here = first_at ucd c (h ++ r) false e p in
      absurd (none_held (widths (c ∷ h)) (first (lens ucd (c ∷ h ++ r))) k (ap (λ (q : Lengths). q.body) here)
      (omega (arith, ap (λ (q : Lengths). q.separator) here, widths_more c h))
      (omega (arith, widths_more c h, width_is_some c)))
  rest_at c h r true true e p k more = rest_paired c h r e p k

  pub rest_is : (h r : List ℕ) → HoldsAll (widths h) (first (lens ucd (h ++ r))) → first (lens ucd r) ≡ rest_of (widths h) (first (lens ucd (h ++ r)))
  rest_is [] r k = rest_none (first (lens ucd r))
  rest_is (c ∷ h) r k = rest_at c h r (ends ucd c) (is_paired ucd c (h ++ r)) refl refl k (rest_is h r)

  -- ---- a change of a text

  module _ (old : List ℕ) (c : Change) (new : List ℕ) (utf8 : IsUtf8 new) (a o n d : List ℕ) (k : AreAround old c new a o n d) where
    -- the paragraph from an offset on goes on at another
    pub record GoesOn (at from : ℕ) : Type 0 where
      pub bounds : IsCharBoundary new from
      pub start_before : at ≤ from
      pub goes_on : first (lengths ucd (drop at new)) ≡ further (from - at) (first (lengths ucd (drop from new)))

    pub goes_on_in_body : (front : List Lengths) (l : Lengths) (back : List Lengths) (from : ℕ) → lengths ucd old ≡ front ++ l ∷ back
        → total front ≤ c.start → from ≡ min c.start (total front + l.body) → GoesOn (total front) from
    goes_on_in_body front l back from e start_before w =
        let (x, m, s) = seam ucd (a ++ (o ++ d)) front l back (ap (lens ucd) (sym k.old_chars) ∙ e) in
        let (h, f, g) = shorter x m a (o ++ d) (sym s.whole) (omega (arith, s.bytes, k.before)) in
        let q = quiet h (o ++ d) in
        let l_body : (first (lens ucd (h ++ (o ++ d)))).body ≡ l.body =
        ap (λ cs. (first (lens ucd cs)).body) (sym g) ∙ ap (λ ls. (first ls).body) s.rest in
        let to_change : widths a ≡ widths x + widths h = ap widths f ∙ widths_append x h in
        let len : total front + widths q.body ≡ from = omega (arith, w, q.bytes, l_body, to_change, s.bytes, k.before) in
        let more : List ℕ = q.others ++ (n ++ d) in
        let whole : chars new ≡ x ++ (q.body ++ more) =
        k.new_chars ∙ ap (λ v. v ++ (n ++ d)) f ∙ append_assoc x h (n ++ d) ∙ ap (λ v. x ++ (v ++ (n ++ d))) q.whole
        ∙ ap (λ v. x ++ v) (append_assoc q.body q.others (n ++ d)) in
        let here = cut_at new x (q.body ++ more) (total front) utf8 whole s.bytes in
        let there = cut_at new (x ++ q.body) more from utf8 (whole ∙ sym (append_assoc x q.body more))
        (omega (arith, widths_append x q.body, s.bytes, len)) in
        let between : widths q.body ≡ from - total front = omega (arith, len) in
        record {
          bounds = there.bounds;
          start_before = omega (arith, len);
          goes_on = ap (λ cs. first (lens ucd cs)) here.rest ∙ first_behind ucd q.body more q.none
              ∙ ap (λ i. further i (first (lens ucd more))) between
              ∙ ap (λ cs. further (from - total front) (first (lens ucd cs))) (sym there.rest);
        }

    pub rest_behind : (front : List Lengths) (l : Lengths) (back : List Lengths) → lengths ucd old ≡ front ++ l ∷ back
        → total front ≤ c.start + c.removed → HoldsAll (c.start + c.removed - total front) l
        → first (lens ucd d) ≡ rest_of (c.start + c.removed - total front) l
    rest_behind front l back e start_before holds =
        let (x, m, s) = seam ucd ((a ++ o) ++ d) front l back (ap (lens ucd) (append_assoc a o d ∙ sym k.old_chars) ∙ e) in
        let gone : widths (a ++ o) ≡ c.start + c.removed = omega (arith, widths_append a o, k.before, k.gone) in
        let (h, f, g) = shorter x m (a ++ o) d (sym s.whole) (omega (arith, s.bytes, gone)) in
        let len : widths h ≡ c.start + c.removed - total front = omega (arith, ap widths f, widths_append x h, s.bytes, gone) in
        let whole : first (lens ucd (h ++ d)) ≡ l = ap (λ cs. first (lens ucd cs)) (sym g) ∙ ap first s.rest in
        rest_is h d (subst (HoldsAll (widths h)) (sym whole) (subst (λ i. HoldsAll i l) (sym len) holds))
        ∙ ap (rest_of (widths h)) whole ∙ ap (λ i. rest_of i l) len
