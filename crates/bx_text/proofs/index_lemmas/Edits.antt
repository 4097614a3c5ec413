-- The paragraphs of some characters after an edit.
use Rattle.std.proofs.Common.{◌≡◌, ◌<◌, ◌≤◌, ◌+◌, ◌-◌, ◌∙◌, ◌⊎◌, inl, inr, ℕ, Bool, true, false, nat_le, ◌==◌, List, [], ◌∷◌, ◌++◌, length, refl, ap, sym}
use Rattle.std.proofs.Common.{subst, arith, append_assoc}
use Rattle.std.proofs.lemmas.Bool.Decides.{nat_tests}
use Rattle.std.proofs.lemmas.List.{append_cancel_right}
use Rattle.bx_ucd.specs.Data.{Data}
use Rattle.bx_text.specs.declared.index.lengths.Lengths.{Lengths}
use Rattle.bx_text.specs.index.Paragraphs.{bytes_of, total}
use Rattle.bx_text.specs.index.Ended.{ended_within}
use Rattle.bx_text.proofs.index_lemmas.Cuts.{width, width_is_some, widths, widths_more, widths_append, unended, lens, parts, parts_same, parts_append, IsFirst, beginning}
use Rattle.bx_text.proofs.index_lemmas.Seams.{before_last, seam, lens_append, lens_before, front_of_seam}
use Rattle.bx_text.proofs.index_lemmas.Counts.{AreEnded, count, count_back, count_front}

-- of two ways to cut the same characters the shorter front begins the longer
pub shorter : (x m a r : List ℕ) → x ++ m ≡ a ++ r → widths x ≤ widths a → (h : List ℕ) × (a ≡ x ++ h) × (m ≡ h ++ r)
shorter [] m a r e l = (a, refl, e)
shorter (c ∷ x) m [] r e l = let none : widths [] ≡ 0 = refl in absurd (omega (arith, widths_more c x, width_is_some c))
shorter (c ∷ x) m (d ∷ a) r e l =
    let same : c ≡ d = cc in
    let rest : x ++ m ≡ a ++ r = cc in
    let (h, f, g) = shorter x m a r rest (omega (arith, widths_more c x, widths_more d a, ap width same)) in
    (h, ap (λ v. v ∷ a) (sym same) ∙ ap (λ v. c ∷ v) f, g)

-- ---- the paragraphs that end within some bytes

pub ended_all : (es rest : List Lengths) (k j : ℕ) → AreEnded es → total es + j ≡ k → ended_within k (es ++ rest) ≡ es ++ ended_within j rest
ended_all [] rest k j h e = let same : k ≡ j = omega arith in ap (λ n. ended_within n rest) same
ended_all (l ∷ es) rest k j h e =
    let some : (l.separator == 0) ≡ false = grind (arith, nat_tests, h.0) in
    let fits : nat_le (bytes_of l) k ≡ true = grind (arith, nat_tests) in
    rw (some, fits, ended_within) (ap (λ ls. l ∷ ls) (ended_all es rest (k - bytes_of l) j h.1 (omega arith)))

ended_in_none_at : (l : Lengths) (ls : List Lengths) (unending : Bool) → (l.separator == 0) ≡ unending → ended_within 0 (l ∷ ls) ≡ []
ended_in_none_at l ls true e = rw (e, ended_within) refl
ended_in_none_at l ls false e =
    let long : nat_le (bytes_of l) 0 ≡ false = grind (arith, nat_tests) in
    rw (e, long, ended_within) refl

pub ended_in_none : (ls : List Lengths) → ended_within 0 ls ≡ []
ended_in_none [] = refl
ended_in_none (l ∷ ls) = ended_in_none_at l ls (l.separator == 0) refl

module _ (ucd : Data) where
  -- ---- before an edit

  -- characters before an edit: the paragraphs in front of it stay, whatever follows
  pub record Front (a : List ℕ) (front : List Lengths) : Type 0 where
    pub x : List ℕ
    pub h : List ℕ
    pub whole : a ≡ x ++ h
    pub bytes : widths x ≡ total front
    pub kept : (r : List ℕ) → lens ucd (a ++ r) ≡ front ++ lens ucd (h ++ r)
    pub few : count ucd h ≤ 2

  -- the characters of a first paragraph, alone
  first_alone : (m : List ℕ) (k : Lengths) (w z : List ℕ) → IsFirst ucd m k w z → lens ucd w ≡ k ∷ unended 0 ∷ []
  first_alone m k w z first =
      let one : before_last (lens ucd w) ≡ k ∷ [] =
      append_cancel_right (before_last (lens ucd w)) (k ∷ []) (lens ucd z)
      (sym (lens_append ucd w z first.parts) ∙ ap (lens ucd) (sym first.whole) ∙ first.first) in
      lens_before ucd w z first.parts ∙ ap (λ ls. ls ++ unended 0 ∷ []) one

  count_of_first : (m : List ℕ) (k : Lengths) (w z : List ℕ) → IsFirst ucd m k w z → count ucd w ≡ 2
  count_of_first m k w z first = ap length (first_alone m k w z first)

  -- what stands in front of the end of a first paragraph is at most that and the rest
  few_in_first : (m h r : List ℕ) (l : Lengths) (back : List Lengths) → m ≡ h ++ r → lens ucd m ≡ l ∷ back → widths h ≤ bytes_of l
      → (lens ucd m ≡ unended (widths m) ∷ []) ⊎ ((f : Lengths) × (w : List ℕ) × (z : List ℕ) × IsFirst ucd m f w z) → count ucd h ≤ 2
  few_in_first m h r l back e f fits (inl one) = omega (arith, count_front ucd h r, ap (count ucd) e, ap length one)
  few_in_first m h r l back e f fits (inr (k, w, z, first)) =
      let both : k ∷ lens ucd z ≡ l ∷ back = sym first.first ∙ f in
      let same : k ≡ l = cc in
      let short : widths h ≤ widths w = omega (arith, first.bytes, ap bytes_of same) in
      let (s, g, _) = shorter h r w z (sym e ∙ first.whole) short in
      omega (arith, count_front ucd h s, ap (count ucd) g, count_of_first m k w z first)

  -- the paragraphs part as before where the same character follows, or where none stand in front
  still_parts : (x h rest r : List ℕ) (n : ℕ) → parts ucd x (h ++ rest) ≡ true → widths x ≡ n → n ≤ (n + widths h) - 1 → parts ucd x (h ++ r) ≡ true
  still_parts [] h rest r n p b l = refl
  still_parts (c ∷ x) [] rest r n p b l = let none : widths [] ≡ 0 = refl in absurd (omega (arith, widths_more c x, width_is_some c))
  still_parts (c ∷ x) (d ∷ h) rest r n p b l = parts_same ucd (c ∷ x) (d ∷ h ++ r) (d ∷ h ++ rest) refl ∙ p

  pub front_of : (a rest : List ℕ) (front : List Lengths) (l : Lengths) (back : List Lengths) → lens ucd (a ++ rest) ≡ front ++ l ∷ back
      → total front ≤ widths a - 1 → widths a ≤ total front + bytes_of l → Front a front
  front_of a rest front l back e start_before fits =
      let (x, m, s) = seam ucd (a ++ rest) front l back e in
      let (h, f, g) = shorter x m a rest (sym s.whole) (omega (arith, s.bytes)) in
      let sum : widths a ≡ widths x + widths h = ap widths f ∙ widths_append x h in
      let p : parts ucd x (h ++ rest) ≡ true = ap (parts ucd x) (sym g) ∙ s.parts in
      record {
        x = x;
        h = h;
        whole = f;
        bytes = s.bytes;
        kept = λ r. ap (λ v. lens ucd (v ++ r)) f ∙ ap (lens ucd) (append_assoc x h r)
            ∙ lens_append ucd x (h ++ r) (still_parts x h rest r (total front) p s.bytes (omega (arith, s.bytes)))
            ∙ ap (λ ls. ls ++ lens ucd (h ++ r)) (front_of_seam ucd (a ++ rest) x m front (l ∷ back) e s);
        few = few_in_first m h rest l back g s.rest (omega (arith, s.bytes)) (beginning ucd m);
      }

  -- ---- after an edit

  -- characters after an edit, in which a paragraph ends: those after it stay, whatever comes before
  pub record Back (d : List ℕ) (past : ℕ) (back : List Lengths) : Type 0 where
    pub t : List ℕ
    pub y : List ℕ
    pub whole : d ≡ t ++ y
    pub bytes : widths t ≡ past
    pub rest : lens ucd y ≡ back
    pub parts : (g : List ℕ) → parts ucd (g ++ t) y ≡ true
    pub few : count ucd t ≤ 2

  ends_last : (t y g s : List ℕ) → 0 < widths t → parts ucd (s ++ t) y ≡ true → parts ucd (g ++ t) y ≡ true
  ends_last [] y g s some p = let none : widths [] ≡ 0 = refl in absurd (omega arith)
  ends_last (c ∷ t) y g s some p = parts_append ucd g c t y ∙ sym (parts_append ucd s c t y) ∙ p

  back_in : (b d v k : List ℕ) (l m : Lengths) (back : List Lengths) → b ++ d ≡ v ++ k → widths v ≤ widths b → widths b < widths v + bytes_of l
      → lens ucd k ≡ l ∷ m ∷ back
      → (lens ucd k ≡ unended (widths k) ∷ []) ⊎ ((f : Lengths) × (w : List ℕ) × (z : List ℕ) × IsFirst ucd k f w z)
      → Back d ((widths v + bytes_of l) - widths b) (m ∷ back)
  back_in b d v k l m back e start_before holds f (inl one) = absurd (omega (arith, ap length (sym f ∙ one)))
  back_in b d v k l m back e start_before holds f (inr (l', w, z, first)) =
      let both : l' ∷ lens ucd z ≡ l ∷ m ∷ back = sym first.first ∙ f in
      let same : l' ≡ l = cc in
      let rest : lens ucd z ≡ m ∷ back = cc in
      let (s, g, j) = shorter v k b d (sym e) start_before in
      let sum : widths b ≡ widths v + widths s = ap widths g ∙ widths_append v s in
      let (t, i, u) = shorter s d w z (sym j ∙ first.whole) (omega (arith, first.bytes, ap bytes_of same)) in
      let long : widths w ≡ widths s + widths t = ap widths i ∙ widths_append s t in
      let p : parts ucd (s ++ t) z ≡ true = ap (λ q. parts ucd q z) (sym i) ∙ first.parts in
      record {
        t = t;
        y = z;
        whole = u;
        bytes = omega (arith, first.bytes, ap bytes_of same);
        rest = rest;
        parts = λ q. ends_last t z q s (omega (arith, first.bytes, ap bytes_of same)) p;
        few = omega (arith, count_back ucd s t, ap (count ucd) i, count_of_first k l' w z first);
      }

  pub back_of : (b d : List ℕ) (front : List Lengths) (l m : Lengths) (back : List Lengths) → lens ucd (b ++ d) ≡ front ++ l ∷ m ∷ back
      → total front ≤ widths b → widths b < total front + bytes_of l → Back d ((total front + bytes_of l) - widths b) (m ∷ back)
  back_of b d front l m back e start_before holds =
      let (v, k, s) = seam ucd (b ++ d) front l (m ∷ back) e in
      subst (λ n. Back d ((n + bytes_of l) - widths b) (m ∷ back)) s.bytes
      (back_in b d v k l m back s.whole (omega (arith, s.bytes)) (omega (arith, s.bytes)) s.rest (beginning ucd k))

  -- characters after an edit that the last paragraph holds
  last_few : (b d v k : List ℕ) (l : Lengths) → b ++ d ≡ v ++ k → widths v ≤ widths b → lens ucd k ≡ l ∷ [] → count ucd d ≤ 1
  last_few b d v k l e start_before f =
      let (s, g, j) = shorter v k b d (sym e) start_before in
      omega (arith, count_back ucd s d, ap (count ucd) j, ap length f)

  pub last_of : (b d : List ℕ) (front : List Lengths) (l : Lengths) → lens ucd (b ++ d) ≡ front ++ l ∷ [] → total front ≤ widths b → count ucd d ≤ 1
  last_of b d front l e start_before =
      let (v, k, s) = seam ucd (b ++ d) front l [] e in
      last_few b d v k l s.whole (omega (arith, s.bytes)) s.rest
