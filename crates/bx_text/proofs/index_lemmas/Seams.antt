-- Characters cut at the ends of paragraphs, and joined there.
use Rattle.std.proofs.Common.{◌≡◌, ◌+◌, ◌∙◌, ◌⊎◌, inl, inr, ℕ, Bool, true, false, List, [], ◌∷◌, ◌++◌, length, refl, ap, sym, arith, length-append}
use Rattle.std.proofs.Common.{append_assoc, append-nil}
use Rattle.std.proofs.lemmas.Bool.Decides.{nat_tests}
use Rattle.std.proofs.lemmas.List.{append_cancel_right}
use Rattle.bx_ucd.specs.Data.{Data}
use Rattle.bx_text.specs.declared.index.lengths.Lengths.{Lengths}
use Rattle.bx_text.specs.index.Paragraphs.{bytes_of, total}
use Rattle.bx_text.proofs.index_lemmas.Cuts.{width, widths, widths_append, unended, grown, joined, lens, ends, is_paired, lens_plain, lens_paired, lens_ended, parts}
use Rattle.bx_text.proofs.index_lemmas.Cuts.{parts_append, IsFirst, beginning}

-- all but the last
abbrev pub before_last : List Lengths → List Lengths
before_last [] = []
before_last (l ∷ []) = []
before_last (l ∷ m ∷ ls) = l ∷ before_last (m ∷ ls)

pub before_last_append : (ls : List Lengths) (l : Lengths) → before_last (ls ++ l ∷ []) ≡ ls
before_last_append [] l = refl
before_last_append (k ∷ []) l = refl
before_last_append (k ∷ m ∷ ls) l = ap (λ ks. k ∷ ks) (before_last_append (m ∷ ls) l)

module _ (ucd : Data) where
  -- characters cut where some of their paragraphs end
  pub record IsSeam (cs x m : List ℕ) (front back : List Lengths) : Type 0 where
    pub whole : cs ≡ x ++ m
    pub bytes : widths x ≡ total front
    pub rest : lens ucd m ≡ back
    pub parts : parts ucd x m ≡ true

  -- a seam after one that is there
  later : (w x m : List ℕ) → parts ucd w (x ++ m) ≡ true → parts ucd x m ≡ true → parts ucd (w ++ x) m ≡ true
  later w [] m p q = ap (λ v. parts ucd v m) (append-nil w) ∙ p
  later w (c ∷ x) m p q = parts_append ucd w c x m ∙ q

  after_first : (cs : List ℕ) (k : Lengths) (front : List Lengths) (l : Lengths) (back : List Lengths) → lens ucd cs ≡ k ∷ (front ++ l ∷ back)
      → (lens ucd cs ≡ unended (widths cs) ∷ []) ⊎ ((f : Lengths) × (w : List ℕ) × (z : List ℕ) × IsFirst ucd cs f w z)
      → ((z : List ℕ) → lens ucd z ≡ front ++ l ∷ back → (x : List ℕ) × (m : List ℕ) × IsSeam z x m front (l ∷ back))
      → (x : List ℕ) × (m : List ℕ) × IsSeam cs x m (k ∷ front) (l ∷ back)
  after_first cs k front l back e (inl one) more = absurd (omega (arith, ap length (sym one ∙ e), length-append front (l ∷ back)))
  after_first cs k front l back e (inr (f, w, z, h)) more =
      let both : f ∷ lens ucd z ≡ k ∷ (front ++ l ∷ back) = sym h.first ∙ e in
      let same : f ≡ k = cc in
      let rest : lens ucd z ≡ front ++ l ∷ back = cc in
      let (x, m, s) = more z rest in (
        w ++ x,
        m,
        record {
          whole = h.whole ∙ ap (λ v. w ++ v) s.whole ∙ sym (append_assoc w x m);
          bytes = omega (arith, widths_append w x, h.bytes, s.bytes, ap bytes_of same);
          rest = s.rest;
          parts = later w x m (ap (parts ucd w) (sym s.whole) ∙ h.parts) s.parts;
        },
      )

  pub seam : (cs : List ℕ) (front : List Lengths) (l : Lengths) (back : List Lengths) → lens ucd cs ≡ front ++ l ∷ back
      → (x : List ℕ) × (m : List ℕ) × IsSeam cs x m front (l ∷ back)
  seam cs [] l back e = ([], cs, record { whole = refl; bytes = refl; rest = e; parts = refl })
  seam cs (k ∷ front) l back e = after_first cs k front l back e (beginning ucd cs) (λ z f. seam z front l back f)

  -- the paragraphs of the characters before a seam: those that end, and one of no bytes
  pub record Joins (c : ℕ) (w z : List ℕ) : Type 0 where
    pub first : Lengths
    pub others : List Lengths
    pub alone : lens ucd (c ∷ w) ≡ first ∷ (others ++ unended 0 ∷ [])
    pub together : lens ucd (c ∷ w ++ z) ≡ first ∷ (others ++ lens ucd z)

  joins_at : (c d : ℕ) (w z : List ℕ) (ended paired : Bool) → ends ucd c ≡ ended → is_paired ucd c (d ∷ w) ≡ paired → Joins d w z → Joins c (d ∷ w) z
  joins_at c d w z false paired e p j = record {
    first = record j.first { body = width c + j.first.body };
    others = j.others;
    alone = lens_plain ucd c (d ∷ w) e ∙ ap (grown (width c)) j.alone;
    together = lens_plain ucd c (d ∷ w ++ z) e ∙ ap (grown (width c)) j.together;
  }
  joins_at c d w z true true e p j = record {
    first = record j.first { separator = width 13 + j.first.separator };
    others = j.others;
    alone = lens_paired ucd c (d ∷ w) e p ∙ ap (joined (width 13)) j.alone;
    together = lens_paired ucd c (d ∷ w ++ z) e p ∙ ap (joined (width 13)) j.together;
  }
  joins_at c d w z true false e p j = record {
    first = record { body = 0; separator = width c };
    others = j.first ∷ j.others;
    alone = lens_ended ucd c (d ∷ w) e p ∙ ap (λ ls. record { body = 0; separator = width c } ∷ ls) j.alone;
    together = lens_ended ucd c (d ∷ w ++ z) e p ∙ ap (λ ls. record { body = 0; separator = width c } ∷ ls) j.together;
  }

  joins : (c : ℕ) (w z : List ℕ) → parts ucd (c ∷ w) z ≡ true → Joins c w z
  joins c [] z p =
      let e : ends ucd c ≡ true = grind (arith, nat_tests) in
      let single : is_paired ucd c z ≡ false = grind (arith, nat_tests) in
      let bare : is_paired ucd c [] ≡ false = grind (arith, nat_tests) in
      record { first = record { body = 0; separator = width c }; others = []; alone = lens_ended ucd c [] e bare; together = lens_ended ucd c z e single }
  joins c (d ∷ w) z p = joins_at c d w z (ends ucd c) (is_paired ucd c (d ∷ w)) refl refl (joins d w z p)

  -- the paragraphs on both sides of a seam
  joined_at : (w z : List ℕ) (first : Lengths) (others : List Lengths) → lens ucd w ≡ first ∷ (others ++ unended 0 ∷ [])
      → before_last (lens ucd w) ≡ first ∷ others
  joined_at w z first others e = ap before_last e ∙ before_last_append (first ∷ others) (unended 0)

  pub lens_append : (w z : List ℕ) → parts ucd w z ≡ true → lens ucd (w ++ z) ≡ before_last (lens ucd w) ++ lens ucd z
  lens_append [] z p = refl
  lens_append (c ∷ w) z p =
      let j = joins c w z p in
      j.together ∙ ap (λ ls. ls ++ lens ucd z) (sym (joined_at (c ∷ w) z j.first j.others j.alone))

  pub lens_before : (w z : List ℕ) → parts ucd w z ≡ true → lens ucd w ≡ before_last (lens ucd w) ++ unended 0 ∷ []
  lens_before [] z p = refl
  lens_before (c ∷ w) z p =
      let j = joins c w z p in
      j.alone ∙ ap (λ ls. ls ++ unended 0 ∷ []) (sym (joined_at (c ∷ w) z j.first j.others j.alone))

  -- before a seam are exactly the paragraphs that end there
  pub front_of_seam : (cs x m : List ℕ) (front back : List Lengths) → lens ucd cs ≡ front ++ back → IsSeam cs x m front back
      → before_last (lens ucd x) ≡ front
  front_of_seam cs x m front back e s =
      append_cancel_right (before_last (lens ucd x)) front back
      (ap (λ ls. before_last (lens ucd x) ++ ls) (sym s.rest) ∙ sym (lens_append x m s.parts) ∙ ap (lens ucd) (sym s.whole) ∙ e)
