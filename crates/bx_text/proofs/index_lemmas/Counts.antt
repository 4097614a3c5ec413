-- The number of paragraphs of some characters, and of their bytes.
use Rattle.std.proofs.Common.{◌≡◌, ◌<◌, ◌≤◌, ◌+◌, ◌∙◌, ℕ, Bool, true, false, ◌==◌, List, [], ◌∷◌, ◌++◌, length, refl, ap, sym, subst, arith, length-append}
use Rattle.std.proofs.Common.{cond, count_by}
use Rattle.std.proofs.lemmas.List.Sums.{sum_by-cons}
use Rattle.std.proofs.lemmas.Bool.Decides.{nat_tests}
use Rattle.bx_ucd.specs.Data.{Data}
use Rattle.bx_text.specs.declared.index.lengths.Lengths.{Lengths}
use Rattle.bx_text.specs.index.Paragraphs.{total}
use Rattle.bx_text.proofs.index_lemmas.Cuts.{width, width_is_some, widths, widths_more, unended, grown, joined, lens, ends, is_paired, lens_plain, lens_paired, lens_ended}

length_grown : (w : ℕ) (ls : List Lengths) → length (grown w ls) ≡ length ls
length_grown w [] = refl
length_grown w (l ∷ ls) = refl

length_joined : (w : ℕ) (ls : List Lengths) → length (joined w ls) ≡ length ls
length_joined w [] = refl
length_joined w (l ∷ ls) = refl

-- each of some paragraphs ends with a separator
abbrev pub AreEnded : List Lengths → Type 0
AreEnded [] = Unit {0}
AreEnded (l ∷ ls) = (0 < l.separator) × AreEnded ls

-- some paragraphs that end, and one that does not
pub record IsCut (ls : List Lengths) : Type 0 where
  pub front : List Lengths
  pub last : ℕ
  pub is : ls ≡ front ++ unended last ∷ []
  pub are_ended : AreEnded front

abbrev first_separator : List Lengths → ℕ
first_separator [] = 0
first_separator (l ∷ ls) = l.separator

cut_grown : (w : ℕ) (ls front : List Lengths) (last : ℕ) → ls ≡ front ++ unended last ∷ [] → AreEnded front → IsCut (grown w ls)
cut_grown w ls [] last e h = record { front = []; last = w + last; is = ap (grown w) e; are_ended = tt }
cut_grown w ls (l ∷ front) last e h = record { front = record l { body = w + l.body } ∷ front; last = last; is = ap (grown w) e; are_ended = h }

cut_joined : (w : ℕ) (ls front : List Lengths) (l : Lengths) (last : ℕ) → ls ≡ l ∷ (front ++ unended last ∷ []) → 0 < l.separator → AreEnded front
    → IsCut (joined w ls)
cut_joined w ls front l last e s h =
    record { front = record l { separator = w + l.separator } ∷ front; last = last; is = ap (joined w) e; are_ended = (omega arith, h) }

module _ (ucd : Data) where
  -- how many paragraphs there are
  abbrev pub count : List ℕ → ℕ
  count cs = length (lens ucd cs)

  -- a pair of separators is CR and LF, and the LF ends the paragraph
  pub paired_ends : (c d : ℕ) (cs : List ℕ) → is_paired ucd c (d ∷ cs) ≡ true → lens ucd (d ∷ cs) ≡ record { body = 0; separator = width d } ∷ lens ucd cs
  paired_ends c d cs p =
      let f : ends ucd d ≡ true = grind (arith, nat_tests) in
      let lf : (d == 13) ≡ false = grind (arith, nat_tests) in
      let single : is_paired ucd d cs ≡ false = grind (arith, nat_tests) in
      lens_ended ucd d cs f single

  not_paired_alone : (c : ℕ) → is_paired ucd c [] ≡ false
  not_paired_alone c = grind (arith, nat_tests)

  -- ---- where the paragraphs that end give way to the last

  cut_pair : (c d : ℕ) (cs : List ℕ) (front : List Lengths) (last : ℕ) → ends ucd c ≡ true → is_paired ucd c (d ∷ cs) ≡ true
      → lens ucd (d ∷ cs) ≡ front ++ unended last ∷ [] → AreEnded front → IsCut (lens ucd (c ∷ d ∷ cs))
  cut_pair c d cs [] r e p f a =
      let both : record { body = 0; separator = width d } ∷ lens ucd cs ≡ unended r ∷ [] = sym (paired_ends c d cs p) ∙ f in
      let none : width d ≡ 0 = ap first_separator both in
      absurd (omega (arith, width_is_some d))
  cut_pair c d cs (l ∷ ls) r e p f a = subst IsCut (sym (lens_paired ucd c (d ∷ cs) e p)) (cut_joined (width 13) (lens ucd (d ∷ cs)) ls l r f a.0 a.1)

  cut_at : (c : ℕ) (cs : List ℕ) (ended paired : Bool) → ends ucd c ≡ ended → is_paired ucd c cs ≡ paired → IsCut (lens ucd cs)
      → IsCut (lens ucd (c ∷ cs))
  cut_at c cs false paired e p h = subst IsCut (sym (lens_plain ucd c cs e)) (cut_grown (width c) (lens ucd cs) h.front h.last h.is h.are_ended)
  cut_at c cs true false e p h = record {
    front = record { body = 0; separator = width c } ∷ h.front;
    last = h.last;
    is = lens_ended ucd c cs e p ∙ ap (λ ls. record { body = 0; separator = width c } ∷ ls) h.is;
    are_ended = (width_is_some c, h.are_ended);
  }
  cut_at c [] true true e p h = absurd (grind (arith, nat_tests, not_paired_alone c))
  cut_at c (d ∷ cs) true true e p h = cut_pair c d cs h.front h.last e p h.is h.are_ended

  pub cut_of : (cs : List ℕ) → IsCut (lens ucd cs)
  cut_of [] = record { front = []; last = 0; is = refl; are_ended = tt }
  cut_of (c ∷ cs) = cut_at c cs (ends ucd c) (is_paired ucd c cs) refl refl (cut_of cs)

  -- ---- bytes

  total_grown : (w : ℕ) (ls : List Lengths) → 0 < length ls → total (grown w ls) ≡ w + total ls
  total_grown w [] h = absurd (omega arith)
  total_grown w (l ∷ ls) h = omega arith

  total_joined : (w : ℕ) (ls : List Lengths) → 0 < length ls → total (joined w ls) ≡ w + total ls
  total_joined w [] h = absurd (omega arith)
  total_joined w (l ∷ ls) h = omega arith

  pub count_is_some : (cs : List ℕ) → 0 < count cs
  count_is_some cs = let h = cut_of cs in omega (arith, ap length h.is, length-append h.front (unended h.last ∷ []))

  total_at : (c : ℕ) (cs : List ℕ) (ended paired : Bool) → ends ucd c ≡ ended → is_paired ucd c cs ≡ paired → total (lens ucd cs) ≡ widths cs
      → total (lens ucd (c ∷ cs)) ≡ widths (c ∷ cs)
  total_at c cs false paired e p h = ap total (lens_plain ucd c cs e) ∙ total_grown (width c) (lens ucd cs) (count_is_some cs) ∙ ap (λ n. width c + n) h
      ∙ sym (widths_more c cs)
  total_at c cs true true e p h =
      let cr : c ≡ 13 = grind (arith, nat_tests) in
      ap total (lens_paired ucd c cs e p) ∙ total_joined (width 13) (lens ucd cs) (count_is_some cs) ∙ ap (λ n. width n + total (lens ucd cs)) (sym cr)
      ∙ ap (λ n. width c + n) h ∙ sym (widths_more c cs)
  total_at c cs true false e p h = omega (arith, ap total (lens_ended ucd c cs e p), h, widths_more c cs)

  pub total_lens : (cs : List ℕ) → total (lens ucd cs) ≡ widths cs
  total_lens [] = refl
  total_lens (c ∷ cs) = total_at c cs (ends ucd c) (is_paired ucd c cs) refl refl (total_lens cs)

  -- ---- more characters have more paragraphs

  count_plain : (c : ℕ) (cs : List ℕ) → ends ucd c ≡ false → count (c ∷ cs) ≡ count cs
  count_plain c cs e = ap length (lens_plain ucd c cs e) ∙ length_grown (width c) (lens ucd cs)

  count_paired : (c : ℕ) (cs : List ℕ) → ends ucd c ≡ true → is_paired ucd c cs ≡ true → count (c ∷ cs) ≡ count cs
  count_paired c cs e p = ap length (lens_paired ucd c cs e p) ∙ length_joined (width 13) (lens ucd cs)

  count_ended : (c : ℕ) (cs : List ℕ) → ends ucd c ≡ true → is_paired ucd c cs ≡ false → count (c ∷ cs) ≡ 1 + count cs
  count_ended c cs e p = omega (arith, ap length (lens_ended ucd c cs e p))

  count_alone : (c : ℕ) → ends ucd c ≡ true → count (c ∷ []) ≡ 2
  count_alone c e = count_ended c [] e (not_paired_alone c)

  -- a character adds at most one paragraph, and takes none away
  record IsNext (c : ℕ) (cs : List ℕ) : Type 0 where
    some : count cs ≤ count (c ∷ cs)
    few : count (c ∷ cs) ≤ 1 + count cs

  next_at : (c : ℕ) (cs : List ℕ) (ended paired : Bool) → ends ucd c ≡ ended → is_paired ucd c cs ≡ paired → IsNext c cs
  next_at c cs false paired e p = record { some = omega (arith, count_plain c cs e); few = omega (arith, count_plain c cs e) }
  next_at c cs true true e p = record { some = omega (arith, count_paired c cs e p); few = omega (arith, count_paired c cs e p) }
  next_at c cs true false e p = record { some = omega (arith, count_ended c cs e p); few = omega (arith, count_ended c cs e p) }

  next : (c : ℕ) (cs : List ℕ) → IsNext c cs
  next c cs = next_at c cs (ends ucd c) (is_paired ucd c cs) refl refl

  pub count_back : (cs ds : List ℕ) → count ds ≤ count (cs ++ ds)
  count_back [] ds = omega arith
  count_back (c ∷ cs) ds = omega (arith, count_back cs ds, (next c (cs ++ ds)).some)

  pub count_few : (cs : List ℕ) → count cs ≤ length cs + 1
  count_few [] = omega arith
  count_few (c ∷ cs) = omega (arith, count_few cs, (next c cs).few)

  -- there is at most one paragraph more than characters that are separators
  count_separating_at : (c : ℕ) (cs : List ℕ) (ended paired : Bool) → ends ucd c ≡ ended → is_paired ucd c cs ≡ paired
      → count cs ≤ count_by (ends ucd) cs + 1 → count (c ∷ cs) ≤ cond ended 1 0 + count_by (ends ucd) cs + 1
  count_separating_at c cs false paired e p h = omega (arith, h, count_plain c cs e)
  count_separating_at c cs true true e p h = omega (arith, h, count_paired c cs e p)
  count_separating_at c cs true false e p h = omega (arith, h, count_ended c cs e p)

  pub count_separating : (cs : List ℕ) → count cs ≤ count_by (ends ucd) cs + 1
  count_separating [] = omega arith
  count_separating (c ∷ cs) =
      subst (λ n. count (c ∷ cs) ≤ n + 1) (sym (sum_by-cons (λ d. cond (ends ucd d) 1 0) c cs))
      (count_separating_at c cs (ends ucd c) (is_paired ucd c cs) refl refl (count_separating cs))

  -- CR and LF at a seam
  pair_is_two : (c : ℕ) (ds : List ℕ) → is_paired ucd c ds ≡ true → 2 ≤ count ds
  pair_is_two c [] p = absurd (grind (arith, nat_tests, not_paired_alone c))
  pair_is_two c (d ∷ ds) p = omega (arith, ap length (paired_ends c d ds p), count_is_some ds)

  -- the front of some characters has no more paragraphs than all, and both parts have together at most one more
  record AreCounted (cs ds : List ℕ) : Type 0 where
    front : count cs ≤ count (cs ++ ds)
    together : count (cs ++ ds) + 1 ≤ count cs + count ds

  seam_at : (c : ℕ) (ds : List ℕ) (ended paired : Bool) → ends ucd c ≡ ended → is_paired ucd c ds ≡ paired → AreCounted (c ∷ []) ds
  seam_at c ds false paired e p =
      record {
        front = omega (arith, count_plain c [] e, count_plain c ds e, count_is_some ds);
        together = omega (arith, count_plain c [] e, count_plain c ds e);
      }
  seam_at c ds true true e p = record {
    front = omega (arith, count_alone c e, count_paired c ds e p, pair_is_two c ds p);
    together = omega (arith, count_alone c e, count_paired c ds e p);
  }
  seam_at c ds true false e p = record {
    front = omega (arith, count_alone c e, count_ended c ds e p, count_is_some ds);
    together = omega (arith, count_alone c e, count_ended c ds e p);
  }

  counted_at : (c d : ℕ) (cs ds : List ℕ) (ended paired : Bool) → ends ucd c ≡ ended → is_paired ucd c (d ∷ cs) ≡ paired → AreCounted (d ∷ cs) ds
      → AreCounted (c ∷ d ∷ cs) ds
  counted_at c d cs ds false paired e p h = record {
    front = omega (arith, count_plain c (d ∷ cs) e, count_plain c (d ∷ cs ++ ds) e, h.front);
    together = omega (arith, count_plain c (d ∷ cs) e, count_plain c (d ∷ cs ++ ds) e, h.together);
  }
  counted_at c d cs ds true true e p h = record {
    front = omega (arith, count_paired c (d ∷ cs) e p, count_paired c (d ∷ cs ++ ds) e p, h.front);
    together = omega (arith, count_paired c (d ∷ cs) e p, count_paired c (d ∷ cs ++ ds) e p, h.together);
  }
  counted_at c d cs ds true false e p h = record {
    front = omega (arith, count_ended c (d ∷ cs) e p, count_ended c (d ∷ cs ++ ds) e p, h.front);
    together = omega (arith, count_ended c (d ∷ cs) e p, count_ended c (d ∷ cs ++ ds) e p, h.together);
  }

  counted : (cs ds : List ℕ) → AreCounted cs ds
  counted [] ds = record { front = omega (arith, count_is_some ds); together = omega arith }
  counted (c ∷ []) ds = seam_at c ds (ends ucd c) (is_paired ucd c ds) refl refl
  counted (c ∷ d ∷ cs) ds = counted_at c d cs ds (ends ucd c) (is_paired ucd c (d ∷ cs)) refl refl (counted (d ∷ cs) ds)

  pub count_front : (cs ds : List ℕ) → count cs ≤ count (cs ++ ds)
  count_front cs ds = (counted cs ds).front

  pub count_together : (cs ds : List ℕ) → count (cs ++ ds) + 1 ≤ count cs + count ds
  count_together cs ds = (counted cs ds).together
