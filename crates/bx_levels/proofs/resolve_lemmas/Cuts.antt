-- A strong type cuts a list for the rules: their result is the result on the part up to that type and on the part from it on.
use Rattle.std.proofs.Common.{◌≡◌, ◌∙◌, ℕ, List, [], ◌∷◌, ◌++◌, length, map, refl, ap, sym, subst, Bool, true, false}
use Rattle.std.proofs.lemmas.List.{map-append, length-map}
use Rattle.bx_ucd.specs.declared.class.Class.{Class}
use Rattle.bx_ucd.specs.declared.class.Class.TheVariants.{L, R, AL}
use Rattle.bx_ucd.specs.Class.{is_strong, is_neutral, is_nsm}
use Rattle.bx_levels.specs.resolve.Weak.{at_each, w1, w2, w3, w4, w5, w6, w7, w1_at, w2_at, w3_at, w4_at, w5_at, w6_at, w7_at, weak, is_en, is_et}
use Rattle.bx_levels.specs.resolve.Weak.{nsm_class_at, nsm_class_after, nearest_that, number_after, left_number, is_left_or_right, beside, separator}
use Rattle.bx_levels.specs.resolve.Weak.{terminator_of, is_en_past}
use Rattle.bx_levels.specs.resolve.Neutral.{n1, n2, n1_at, n2_at, side, side_of, agreed, implicit, implicit_at}
use Rattle.bx_levels.proofs.resolve_lemmas.PlainLengths.{at_each_length}

-- a list, its part up to an index and its part from there on: both include the item at the index
pub record IsCut {A : Type 0} (x : A) (n : ℕ) (whole front back : List A) : Type 0 where
  pub before : List A
  pub after : List A
  pub whole_is : whole ≡ before ++ x ∷ after
  pub front_is : front ≡ before ++ x ∷ []
  pub back_is : back ≡ x ∷ after
  pub before_is : length before ≡ n

pub cut_map : {A B : Type 0} (f : A → B) (x : A) (n : ℕ) (whole front back : List A) → IsCut x n whole front back
    → IsCut (f x) n (map f whole) (map f front) (map f back)
cut_map f x n whole front back c = record {
  before = map f c.before;
  after = map f c.after;
  whole_is = ap (map f) c.whole_is ∙ map-append f c.before (x ∷ c.after);
  front_is = ap (map f) c.front_is ∙ map-append f c.before (x ∷ []);
  back_is = ap (map f) c.back_is;
  before_is = length-map c.before f ∙ c.before_is;
}

-- three forms of one rule, for the whole list, the front and the back: before the cut it looks no further ahead, after it no further back
module _ (f g h : List Class → Class → List Class → Class) (x y : Class)
    (ahead : (b : List Class) (t : Class) (a v : List Class) → f b t (a ++ x ∷ v) ≡ g b t (a ++ x ∷ []))
    (behind : (c d : List Class) (t : Class) (a : List Class) → f (c ++ x ∷ d) t a ≡ h (c ++ x ∷ []) t a)
    (at_f : (b a : List Class) → f b x a ≡ y) (at_g : (b a : List Class) → g b x a ≡ y) (at_h : (b a : List Class) → h b x a ≡ y) where
  abbrev rule_before : List Class → Class → List Class → Class
  rule_before b t a = g b t (a ++ x ∷ [])

  back_each : (c d ts : List Class) → at_each f (c ++ x ∷ d) ts ≡ at_each h (c ++ x ∷ []) ts
  back_each c d [] = refl
  back_each c d (t ∷ ts) =
      let e : f (c ++ x ∷ d) t ts ≡ h (c ++ x ∷ []) t ts = behind c d t ts in
      let r : at_each f (t ∷ c ++ x ∷ d) ts ≡ at_each h (t ∷ c ++ x ∷ []) ts = back_each (t ∷ c) d ts in
      ap (λ z. z ∷ at_each f (t ∷ c ++ x ∷ d) ts) e ∙ ap (λ zs. h (c ++ x ∷ []) t ts ∷ zs) r

  whole_each : (b u v : List Class) → at_each f b (u ++ x ∷ v) ≡ at_each rule_before b u ++ y ∷ at_each h (x ∷ []) v
  whole_each b [] v = ap (λ z. z ∷ at_each f (x ∷ b) v) (at_f b v) ∙ ap (λ zs. y ∷ zs) (back_each [] b v)
  whole_each b (t ∷ u) v =
      ap (λ z. z ∷ at_each f (t ∷ b) (u ++ x ∷ v)) (ahead b t u v) ∙ ap (λ zs. g b t (u ++ x ∷ []) ∷ zs) (whole_each (t ∷ b) u v)

  front_each : (b u : List Class) → at_each g b (u ++ x ∷ []) ≡ at_each rule_before b u ++ y ∷ []
  front_each b [] = ap (λ z. z ∷ []) (at_g b [])
  front_each b (t ∷ u) = ap (λ zs. g b t (u ++ x ∷ []) ∷ zs) (front_each (t ∷ b) u)

  pub cut_each : (n : ℕ) (whole front back : List Class) → IsCut x n whole front back
      → IsCut y n (at_each f [] whole) (at_each g [] front) (at_each h [] back)
  cut_each n whole front back c = record {
    before = at_each rule_before [] c.before;
    after = at_each h (x ∷ []) c.after;
    whole_is = ap (at_each f []) c.whole_is ∙ whole_each [] c.before c.after;
    front_is = ap (at_each g []) c.front_is ∙ front_each [] c.before;
    back_is = ap (at_each h []) c.back_is ∙ ap (λ z. z ∷ at_each h (x ∷ []) c.after) (at_h [] c.after);
    before_is = at_each_length rule_before [] c.before ∙ c.before_is;
  }

-- a choice of two, by a test whose answer is known
pub if_not : {A : Type 0} (b : Bool) (p q : A) → b ≡ false → elim b as (λ z. A) [ true ↦ p | false ↦ q ] ≡ q
if_not true p q e = absurd (cc)
if_not false p q e = refl

pub if_so : {A : Type 0} (b : Bool) (p q : A) → b ≡ true → elim b as (λ z. A) [ true ↦ p | false ↦ q ] ≡ p
if_so true p q e = refl
if_so false p q e = absurd (cc)

-- classes that a strong type is not
pub strong_no_nsm : (x : Class) → is_strong x ≡ true → is_nsm x ≡ false
strong_no_nsm L e = refl
strong_no_nsm R e = refl
strong_no_nsm AL e = refl
strong_no_nsm _ e = absurd (cc)

pub strong_no_en : (x : Class) → is_strong x ≡ true → is_en x ≡ false
strong_no_en L e = refl
strong_no_en R e = refl
strong_no_en AL e = refl
strong_no_en _ e = absurd (cc)

pub side_of_strong : (x : Class) → is_strong x ≡ true → is_left_or_right (w3_at x) ≡ true
side_of_strong L e = refl
side_of_strong R e = refl
side_of_strong AL e = refl
side_of_strong _ e = absurd (cc)

pub turned_strong : (x : Class) → is_left_or_right x ≡ true → is_strong x ≡ true
turned_strong L e = refl
turned_strong R e = refl
turned_strong _ e = absurd (cc)

pub turned_no_et : (x : Class) → is_left_or_right x ≡ true → is_et x ≡ false
turned_no_et L e = refl
turned_no_et R e = refl
turned_no_et _ e = absurd (cc)

pub turned_no_neutral : (x : Class) → is_left_or_right x ≡ true → is_neutral x ≡ false
turned_no_neutral L e = refl
turned_no_neutral R e = refl
turned_no_neutral _ e = absurd (cc)

pub turned_no_separator : (x b a : Class) → is_left_or_right x ≡ true → separator b x a ≡ x
turned_no_separator L b a e = refl
turned_no_separator R b a e = refl
turned_no_separator _ b a e = absurd (cc)

pub turned_by_w6 : (x : Class) → is_left_or_right x ≡ true → w6_at x ≡ x
turned_by_w6 L e = refl
turned_by_w6 R e = refl
turned_by_w6 _ e = absurd (cc)

-- W1
nsm_stops : (sos other x : Class) (c d : List Class) → is_nsm x ≡ false → nsm_class_at sos (c ++ x ∷ d) ≡ nsm_class_at other (c ++ x ∷ [])
nsm_stops sos other x [] d e = if_not (is_nsm x) (nsm_class_at sos d) (nsm_class_after x) e ∙ sym (if_not (is_nsm x) other (nsm_class_after x) e)
nsm_stops sos other x (t ∷ c) d e = ap (λ s. elim (is_nsm t) as (λ z. Class) [ true ↦ s | false ↦ nsm_class_after t ]) (nsm_stops sos other x c d e)

w1_cut : (sos other x : Class) → is_strong x ≡ true → (n : ℕ) (whole front back : List Class) → IsCut x n whole front back
    → IsCut x n (w1 sos whole) (w1 sos front) (w1 other back)
w1_cut sos other x e = cut_each (w1_at sos) (w1_at sos) (w1_at other) x x (λ b t a v. refl)
    (λ c d t a. ap (λ s. elim (is_nsm t) as (λ z. Class) [ true ↦ s | false ↦ t ]) (nsm_stops sos other x c d (strong_no_nsm x e)))
    (λ b a. if_not (is_nsm x) (nsm_class_at sos b) x (strong_no_nsm x e))
    (λ b a. if_not (is_nsm x) (nsm_class_at sos b) x (strong_no_nsm x e))
    (λ b a. if_not (is_nsm x) (nsm_class_at other b) x (strong_no_nsm x e))

-- W2 and W7
nearest_stops : (p : Class → Bool) (sos other x : Class) (c d : List Class) → p x ≡ true
    → nearest_that p sos (c ++ x ∷ d) ≡ nearest_that p other (c ++ x ∷ [])
nearest_stops p sos other x [] d e = if_so (p x) x (nearest_that p sos d) e ∙ sym (if_so (p x) x other e)
nearest_stops p sos other x (t ∷ c) d e = ap (λ s. elim (p t) as (λ z. Class) [ true ↦ t | false ↦ s ]) (nearest_stops p sos other x c d e)

w2_cut : (sos other x : Class) → is_strong x ≡ true → (n : ℕ) (whole front back : List Class) → IsCut x n whole front back
    → IsCut x n (w2 sos whole) (w2 sos front) (w2 other back)
w2_cut sos other x e = cut_each (w2_at sos) (w2_at sos) (w2_at other) x x (λ b t a v. refl)
    (λ c d t a. ap (λ s. elim (is_en t) as (λ z. Class) [ true ↦ number_after s | false ↦ t ]) (nearest_stops is_strong sos other x c d e))
    (λ b a. if_not (is_en x) (number_after (nearest_that is_strong sos b)) x (strong_no_en x e))
    (λ b a. if_not (is_en x) (number_after (nearest_that is_strong sos b)) x (strong_no_en x e))
    (λ b a. if_not (is_en x) (number_after (nearest_that is_strong other b)) x (strong_no_en x e))

-- W4
beside_stops : (x : Class) (c d : List Class) → beside (c ++ x ∷ d) ≡ beside (c ++ x ∷ [])
beside_stops x [] d = refl
beside_stops x (t ∷ c) d = refl

w4_cut : (x : Class) → is_left_or_right x ≡ true → (n : ℕ) (whole front back : List Class) → IsCut x n whole front back
    → IsCut x n (w4 whole) (w4 front) (w4 back)
w4_cut x e = cut_each w4_at w4_at w4_at x x
    (λ b t a v. ap (separator (beside b) t) (beside_stops x a v))
    (λ c d t a. ap (λ s. separator s t (beside a)) (beside_stops x c d))
    (λ b a. turned_no_separator x (beside b) (beside a) e) (λ b a. turned_no_separator x (beside b) (beside a) e)
    (λ b a. turned_no_separator x (beside b) (beside a) e)

-- W5
past_stops : (x : Class) (c d : List Class) → is_et x ≡ false → is_en_past (c ++ x ∷ d) ≡ is_en_past (c ++ x ∷ [])
past_stops x [] d e = if_not (is_et x) (is_en_past d) (is_en x) e ∙ sym (if_not (is_et x) false (is_en x) e)
past_stops x (t ∷ c) d e = ap (λ s. elim (is_et t) as (λ z. Bool) [ true ↦ s | false ↦ is_en t ]) (past_stops x c d e)

w5_cut : (x : Class) → is_left_or_right x ≡ true → (n : ℕ) (whole front back : List Class) → IsCut x n whole front back
    → IsCut x n (w5 whole) (w5 front) (w5 back)
w5_cut x e = cut_each w5_at w5_at w5_at x x
    (λ b t a v. ap (λ s. elim (is_et t) as (λ z. Class) [ true ↦ terminator_of (is_en_past b) s | false ↦ t ]) (past_stops x a v (turned_no_et x e)))
    (λ c d t a. ap (λ s. elim (is_et t) as (λ z. Class) [ true ↦ terminator_of s (is_en_past a) | false ↦ t ]) (past_stops x c d (turned_no_et x e)))
    (λ b a. if_not (is_et x) (terminator_of (is_en_past b) (is_en_past a)) x (turned_no_et x e))
    (λ b a. if_not (is_et x) (terminator_of (is_en_past b) (is_en_past a)) x (turned_no_et x e))
    (λ b a. if_not (is_et x) (terminator_of (is_en_past b) (is_en_past a)) x (turned_no_et x e))

-- W7
w7_cut : (sos other x : Class) → is_left_or_right x ≡ true → (n : ℕ) (whole front back : List Class) → IsCut x n whole front back
    → IsCut x n (w7 sos whole) (w7 sos front) (w7 other back)
w7_cut sos other x e = cut_each (w7_at sos) (w7_at sos) (w7_at other) x x (λ b t a v. refl)
    (λ c d t a. ap (λ s. elim (is_en t) as (λ z. Class) [ true ↦ left_number s | false ↦ t ]) (nearest_stops is_left_or_right sos other x c d e))
    (λ b a. if_not (is_en x) (left_number (nearest_that is_left_or_right sos b)) x (strong_no_en x (turned_strong x e)))
    (λ b a. if_not (is_en x) (left_number (nearest_that is_left_or_right sos b)) x (strong_no_en x (turned_strong x e)))
    (λ b a. if_not (is_en x) (left_number (nearest_that is_left_or_right other b)) x (strong_no_en x (turned_strong x e)))

-- a cut whose middle is another spelling of it
pub cut_as : {A : Type 0} (x y : A) (n : ℕ) (whole front back : List A) → x ≡ y → IsCut x n whole front back → IsCut y n whole front back
cut_as x y n whole front back e c = subst (λ z. IsCut z n whole front back) e c

-- W3 to W7, after which the type is L or R
weak_rest : (sos other x : Class) → is_left_or_right (w3_at x) ≡ true → (n : ℕ) (whole front back : List Class) → IsCut x n whole front back
    → IsCut (w3_at x) n (w7 sos (w6 (w5 (w4 (w3 whole))))) (w7 sos (w6 (w5 (w4 (w3 front))))) (w7 other (w6 (w5 (w4 (w3 back)))))
weak_rest sos other x s n ws fs bs c =
    let y : Class = w3_at x in
    let c3 : IsCut y n (w3 ws) (w3 fs) (w3 bs) = cut_map w3_at x n ws fs bs c in
    let c4 : IsCut y n (w4 (w3 ws)) (w4 (w3 fs)) (w4 (w3 bs)) = w4_cut y s n (w3 ws) (w3 fs) (w3 bs) c3 in
    let c5 : IsCut y n (w5 (w4 (w3 ws))) (w5 (w4 (w3 fs))) (w5 (w4 (w3 bs))) = w5_cut y s n (w4 (w3 ws)) (w4 (w3 fs)) (w4 (w3 bs)) c4 in
    let c6 : IsCut (w6_at y) n (w6 (w5 (w4 (w3 ws)))) (w6 (w5 (w4 (w3 fs)))) (w6 (w5 (w4 (w3 bs)))) =
    cut_map w6_at y n (w5 (w4 (w3 ws))) (w5 (w4 (w3 fs))) (w5 (w4 (w3 bs))) c5 in
    w7_cut sos other y s n (w6 (w5 (w4 (w3 ws)))) (w6 (w5 (w4 (w3 fs)))) (w6 (w5 (w4 (w3 bs))))
    (cut_as (w6_at y) y n (w6 (w5 (w4 (w3 ws)))) (w6 (w5 (w4 (w3 fs)))) (w6 (w5 (w4 (w3 bs)))) (turned_by_w6 y s) c6)

-- W1 to W7, for any start of sequence of the back
pub weak_cut : (sos other x : Class) → is_strong x ≡ true → (n : ℕ) (whole front back : List Class) → IsCut x n whole front back
    → IsCut (w3_at x) n (weak sos whole) (weak sos front) (weak other back)
weak_cut sos other x e n ws fs bs c0 =
    let s : is_left_or_right (w3_at x) ≡ true = side_of_strong x e in
    let c1 : IsCut x n (w1 sos ws) (w1 sos fs) (w1 other bs) = w1_cut sos other x e n ws fs bs c0 in
    let c2 : IsCut x n (w2 sos (w1 sos ws)) (w2 sos (w1 sos fs)) (w2 other (w1 other bs)) =
    w2_cut sos other x e n (w1 sos ws) (w1 sos fs) (w1 other bs) c1 in
    weak_rest sos other x s n (w2 sos (w1 sos ws)) (w2 sos (w1 sos fs)) (w2 other (w1 other bs)) c2

-- N1
side_stops : (eos other x : Class) (c d : List Class) → is_neutral x ≡ false → side eos (c ++ x ∷ d) ≡ side other (c ++ x ∷ [])
side_stops eos other x [] d e = if_not (is_neutral x) (side eos d) (side_of x) e ∙ sym (if_not (is_neutral x) other (side_of x) e)
side_stops eos other x (t ∷ c) d e = ap (λ s. elim (is_neutral t) as (λ z. Class) [ true ↦ s | false ↦ side_of t ]) (side_stops eos other x c d e)

n1_cut : (sos eos inner_sos inner_eos x : Class) → is_left_or_right x ≡ true → (n : ℕ) (whole front back : List Class) → IsCut x n whole front back
    → IsCut x n (n1 sos eos whole) (n1 sos inner_eos front) (n1 inner_sos eos back)
n1_cut sos eos inner_sos inner_eos x e = cut_each (n1_at sos eos) (n1_at sos inner_eos) (n1_at inner_sos eos) x x
    (λ b t a v. ap (λ s. elim (is_neutral t) as (λ z. Class) [ true ↦ agreed t (side sos b) s | false ↦ t ])
    (side_stops eos inner_eos x a v (turned_no_neutral x e)))
    (λ c d t a. ap (λ s. elim (is_neutral t) as (λ z. Class) [ true ↦ agreed t s (side eos a) | false ↦ t ])
    (side_stops sos inner_sos x c d (turned_no_neutral x e)))
    (λ b a. if_not (is_neutral x) (agreed x (side sos b) (side eos a)) x (turned_no_neutral x e))
    (λ b a. if_not (is_neutral x) (agreed x (side sos b) (side inner_eos a)) x (turned_no_neutral x e))
    (λ b a. if_not (is_neutral x) (agreed x (side inner_sos b) (side eos a)) x (turned_no_neutral x e))

-- N1 and N2, for any inner ends
pub neutral_cut : (embedding sos eos inner_sos inner_eos x : Class) → is_left_or_right x ≡ true → (n : ℕ) (whole front back : List Class)
    → IsCut x n whole front back
    → IsCut x n (n2 embedding (n1 sos eos whole)) (n2 embedding (n1 sos inner_eos front)) (n2 embedding (n1 inner_sos eos back))
neutral_cut embedding sos eos inner_sos inner_eos x e n ws fs bs c =
    cut_as (n2_at embedding x) x n (n2 embedding (n1 sos eos ws)) (n2 embedding (n1 sos inner_eos fs)) (n2 embedding (n1 inner_sos eos bs))
    (if_not (is_neutral x) embedding x (turned_no_neutral x e))
    (cut_map (n2_at embedding) x n (n1 sos eos ws) (n1 sos inner_eos fs) (n1 inner_sos eos bs)
    (n1_cut sos eos inner_sos inner_eos x e n ws fs bs c))

-- N1, N2, I1 and I2
pub implicit_cut : (level : ℕ) (embedding sos eos inner_sos inner_eos x : Class) → is_left_or_right x ≡ true → (n : ℕ) (whole front back : List Class)
    → IsCut x n whole front back
    → IsCut (implicit_at level x) n (implicit level (n2 embedding (n1 sos eos whole))) (implicit level (n2 embedding (n1 sos inner_eos front)))
    (implicit level (n2 embedding (n1 inner_sos eos back)))
implicit_cut level embedding sos eos inner_sos inner_eos x e n ws fs bs c =
    cut_map (implicit_at level) x n (n2 embedding (n1 sos eos ws)) (n2 embedding (n1 sos inner_eos fs)) (n2 embedding (n1 inner_sos eos bs))
    (neutral_cut embedding sos eos inner_sos inner_eos x e n ws fs bs c)
