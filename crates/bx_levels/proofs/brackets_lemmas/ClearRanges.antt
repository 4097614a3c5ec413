-- Ranges that are clear of a direction, after a search in one and after a change.
use Rattle.std.proofs.Common.{◌≡◌, ◌<◌, ◌≤◌, ◌+◌, ◌-◌, ◌∙◌, ℕ, zero, suc, List, [], ◌∷◌, length, get_or, take, drop, refl, ap, arith, Bool, true, false, ◌⊎◌}
use Rattle.std.proofs.Common.{inl, inr}
use Rattle.std.specs.List.{list_any}
use Rattle.std.proofs.lemmas.List.{get_or-take, get_or-drop, get_or_default, length-take, get_or-append_right}
use Rattle.std.proofs.lemmas.List.Folds.{list_any_none, list_any_at}
use Rattle.std.proofs.Math.ListN.{get_or-append}
use Rattle.std.proofs.Math.Seq.{get_or-append_seam}
use Rattle.std.proofs.Common.{length-drop}
use Rattle.std.proofs.lemmas.Bool.{cases_lt}
use Rattle.bx_ucd.specs.declared.class.Class.{Class}
use Rattle.bx_ucd.specs.declared.class.Class.TheVariants.{L, R, EN, AN}
use Rattle.bx_levels.specs.declared.brackets.resolve.Clear.{Clear}
use Rattle.bx_levels.specs.declared.brackets.resolve.Clears.{Clears}
use Rattle.bx_levels.specs.brackets.Resolve.{counts_as, opposite, is_left, is_right, change_nsms, change_bracket}
use Rattle.bx_levels.specs.brackets.Clear.{IsClear, AreClear, AreSameFrom, between, clear_after}

-- one index more is clear
pub clear_more : (d : Class) (ts : List Class) (a n : ℕ) → ((k : ℕ) → a ≤ k → k < n → counts_as d (get_or ts k L) ≡ false) → counts_as d (get_or ts n L) ≡ false
    → (k : ℕ) → a ≤ k → k < n + 1 → counts_as d (get_or ts k L) ≡ false
clear_more d ts a n old new k low high = elim (cases_lt k n) [
  | inl x ↦ old k low x
  | inr x ↦ let s : k ≡ n = omega arith in ap (λ i. counts_as d (get_or ts i L)) s ∙ new
]

range_length : (ts : List Class) (a b : ℕ) → b ≤ length ts → length (take (b - a) (drop a ts)) ≤ b - a
range_length ts a b h = omega (arith, length-take (b - a) (drop a ts))

pub none_in : (d : Class) (ts : List Class) (a b : ℕ) → b ≤ length ts → ((k : ℕ) → a ≤ k → k < b → counts_as d (get_or ts k L) ≡ false)
    → list_any (counts_as d) (take (b - a) (drop a ts)) ≡ false
none_in d ts a b h n = list_any_none (counts_as d) (take (b - a) (drop a ts)) (λ k e l.
    let low : k < b - a = omega (arith, range_length ts a b h) in
    let at : get_or (take (b - a) (drop a ts)) k e ≡ get_or ts (a + k) L = get_or-take (b - a) (drop a ts) k e low ∙ get_or-drop a ts k e
    ∙ get_or_default ts (a + k) e L (omega arith) in
    ap (counts_as d) at ∙ n (a + k) (omega arith) (omega arith))

pub some_in : (d : Class) (ts : List Class) (a b k : ℕ) → b ≤ length ts → a ≤ k → k < b → counts_as d (get_or ts k L) ≡ true
    → list_any (counts_as d) (take (b - a) (drop a ts)) ≡ true
some_in d ts a b k h low high e =
    let l : length (drop a ts) ≡ length ts - a = length-drop a ts in
    let t : length (take (b - a) (drop a ts)) ≡ b - a = omega (arith, length-take (b - a) (drop a ts)) in
    let s : a + (k - a) ≡ k = omega arith in
    let at : get_or (take (b - a) (drop a ts)) (k - a) L ≡ get_or ts k L = get_or-take (b - a) (drop a ts) (k - a) L (omega arith) ∙ get_or-drop a ts (k - a) L
    ∙ ap (λ n. get_or ts n L) s in
    list_any_at (counts_as d) (take (b - a) (drop a ts)) (k - a) L (omega arith) (ap (counts_as d) at ∙ e)

-- a change of a bracket keeps the types before it, and keeps each other type or makes it the direction
nsms_either : (d : Class) (was : List Bool) (ts : List Class) (k : ℕ)
    → (get_or (change_nsms d was ts) k L ≡ get_or ts k L) ⊎ (get_or (change_nsms d was ts) k L ≡ d)
nsms_either d [] ts k = inl refl
nsms_either d (false ∷ was) ts k = inl refl
nsms_either d (true ∷ was) [] k = inl refl
nsms_either d (true ∷ was) (t ∷ ts) zero = inr refl
nsms_either d (true ∷ was) (t ∷ ts) (suc k) = nsms_either d was ts k

module _ (d : Class) (was : List Bool) (ts : List Class) (p : ℕ) (h : p < length ts) where
  before_long : length (take p ts) ≡ p
  before_long = omega (arith, length-take p ts)

  pub change_before : (k : ℕ) → k < p → get_or (change_bracket d was ts p) k L ≡ get_or ts k L
  change_before k l = get_or-append (take p ts) (d ∷ change_nsms d (drop (p + 1) was) (drop (p + 1) ts)) L k (omega (arith, before_long))
      ∙ get_or-take p ts k L l

  change_from : (n k : ℕ) → p + n ≡ k → (get_or (change_bracket d was ts p) k L ≡ get_or ts k L) ⊎ (get_or (change_bracket d was ts p) k L ≡ d)
  change_from zero k e =
      let at : k ≡ length (take p ts) = omega (arith, before_long) in
      inr (ap (λ i. get_or (change_bracket d was ts p) i L) at ∙ get_or-append_seam (take p ts) d (change_nsms d (drop (p + 1) was) (drop (p + 1) ts)) L)
  change_from (suc m) k e =
      let n : k - p ≡ suc m = omega arith in
      let s : p + 1 + m ≡ k = omega arith in
      let at : get_or (change_bracket d was ts p) k L ≡ get_or (change_nsms d (drop (p + 1) was) (drop (p + 1) ts)) m L =
      get_or-append_right (take p ts) (d ∷ change_nsms d (drop (p + 1) was) (drop (p + 1) ts)) p k L before_long (omega arith)
      ∙ ap (λ i. get_or (d ∷ change_nsms d (drop (p + 1) was) (drop (p + 1) ts)) i L) n in
      elim (nsms_either d (drop (p + 1) was) (drop (p + 1) ts) m) [
        | inl x ↦ inl (at ∙ x ∙ get_or-drop (p + 1) ts m L ∙ ap (λ i. get_or ts i L) s)
        | inr x ↦ inr (at ∙ x)
      ]

  pub change_either : (k : ℕ) → (get_or (change_bracket d was ts p) k L ≡ get_or ts k L) ⊎ (get_or (change_bracket d was ts p) k L ≡ d)
  change_either k = elim (cases_lt k p) [ inl x ↦ inl (change_before k x) | inr x ↦ change_from (k - p) k (omega arith) ]

-- no type counts as both directions
left_not_right : (t : Class) → is_left t ≡ true → is_right t ≡ false
left_not_right L e = refl
left_not_right _ e = absurd (cc)

right_not_left : (t : Class) → is_right t ≡ true → is_left t ≡ false
right_not_left R e = refl
right_not_left EN e = refl
right_not_left AN e = refl
right_not_left _ e = absurd (cc)

exclusive : (e d : Class) → counts_as e d ≡ true → counts_as (opposite e) d ≡ false
exclusive L d h = left_not_right d h
exclusive _ d h = right_not_left d h

-- a change to another direction leaves a range clear
kept_clear : (e d : Class) (was : List Bool) (ts us : List Class) (p : ℕ) (c : Clear) → p < length ts → us ≡ change_bracket d was ts p → counts_as e d ≡ false
    → IsClear e ts c → IsClear e us c
kept_clear e d was ts us p c h n f clear k a b = ap (λ xs. counts_as e (get_or xs k L)) n ∙ (elim (change_either d was ts p h k) [
  | inl x ↦ ap (counts_as e) x ∙ clear k a b
  | inr x ↦ ap (counts_as e) x ∙ f
])

-- any change keeps the types between its two parts
cut_clear : (e d : Class) (was : List Bool) (ts us vs : List Class) (q n : ℕ) (c : Clear) → q < length us → vs ≡ change_bracket d was us q → AreSameFrom n ts us
    → IsClear e ts c → IsClear e vs (between c n q)
cut_clear e d was ts us vs q n c h w same clear k a b =
    let low : c.from ≤ k = omega arith in
    let after : n ≤ k = omega arith in
    let high : k < c.to = omega arith in
    let before : k < q = omega arith in
    ap (λ xs. counts_as e (get_or xs k L)) w ∙ ap (counts_as e) (change_before d was us q h k before ∙ same k after) ∙ clear k low high

module _ (e d : Class) (was : List Bool) (ts us vs : List Class) (p q n : ℕ) (c : Clears) (h : p < length ts) (l : q < length us)
    (u : us ≡ change_bracket d was ts p) (v : vs ≡ change_bracket d was us q) (same : AreSameFrom n ts us) (clear : AreClear e ts c) where
  clear_by : (b : Bool) → counts_as e d ≡ b
      → AreClear e vs (elim b as (λ x. Clears) [ true ↦ record c { embedding = between c.embedding n q } | false ↦ record c { other = between c.other n q } ])
  clear_by true t = record {
    embedding_is = cut_clear e d was ts us vs q n c.embedding l v same clear.embedding_is;
    other_is = kept_clear (opposite e) d was us vs q c.other l v (exclusive e d t)
        (kept_clear (opposite e) d was ts us p c.other h u (exclusive e d t) clear.other_is);
  }
  clear_by false t = record {
    embedding_is = kept_clear e d was us vs q c.embedding l v t (kept_clear e d was ts us p c.embedding h u t clear.embedding_is);
    other_is = cut_clear (opposite e) d was ts us vs q n c.other l v same clear.other_is;
  }

  pub still_clear : AreClear e vs (clear_after e d c n q)
  still_clear = clear_by (counts_as e d) refl
