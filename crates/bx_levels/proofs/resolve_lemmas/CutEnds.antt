-- The end of a sequence acts like a strong type: with its eos put after it, each level stays the same.
use Rattle.std.proofs.Common.{◌≡◌, ◌∙◌, ℕ, List, [], ◌∷◌, ◌++◌, refl, ap, ap₂}
use Rattle.std.proofs.Common.{Bool, true, false}
use Rattle.std.proofs.lemmas.List.{map-append}
use Rattle.bx_ucd.specs.declared.class.Class.{Class}
use Rattle.bx_ucd.specs.declared.class.Class.TheVariants.{L, R, ES, CS, ON}
use Rattle.bx_ucd.specs.Class.{is_strong, is_neutral, is_nsm}
use Rattle.bx_levels.specs.resolve.Weak.{at_each, w1, w2, w3, w4, w5, w6, w7, w1_at, w2_at, w3_at, w4_at, w5_at, w6_at, w7_at, weak, is_en, is_et}
use Rattle.bx_levels.specs.resolve.Weak.{nsm_class_at, nearest_that, number_after, left_number, is_left_or_right, beside, separator, terminator_of}
use Rattle.bx_levels.specs.resolve.Weak.{is_en_past}
use Rattle.bx_levels.specs.resolve.Neutral.{n1, n2, n1_at, n2_at, side, side_of, agreed, implicit, implicit_at}
use Rattle.bx_levels.proofs.resolve_lemmas.Cuts.{if_not, strong_no_nsm, strong_no_en, turned_strong}
use Rattle.bx_levels.proofs.resolve_lemmas.Cuts.{turned_no_et, turned_no_neutral, turned_no_separator, turned_by_w6}

-- a rule that sees a type at the end of a list as it sees the end itself
module _ (f : List Class → Class → List Class → Class) (x : Class) (last : (b : List Class) → f b x [] ≡ x)
    (end : (b : List Class) (t : Class) (a : List Class) → f b t (a ++ x ∷ []) ≡ f b t a) where
  at_end : (b ts : List Class) → at_each f b (ts ++ x ∷ []) ≡ at_each f b ts ++ x ∷ []
  at_end b [] = ap (λ z. z ∷ []) (last b)
  at_end b (t ∷ ts) = ap₂ (λ z zs. z ∷ zs) (end b t ts) (at_end (t ∷ b) ts)

side_same : (x : Class) → is_left_or_right x ≡ true → side_of x ≡ x
side_same L e = refl
side_same R e = refl
side_same _ e = absurd (cc)

w3_same : (x : Class) → is_left_or_right x ≡ true → w3_at x ≡ x
w3_same L e = refl
w3_same R e = refl
w3_same _ e = absurd (cc)

past_start : (x : Class) (c : List Class) → is_left_or_right x ≡ true → is_en_past (c ++ x ∷ []) ≡ is_en_past c
past_start x [] e = if_not (is_et x) false (is_en x) (turned_no_et x e) ∙ strong_no_en x (turned_strong x e)
past_start x (t ∷ c) e = ap (λ s. elim (is_et t) as (λ z. Bool) [ true ↦ s | false ↦ is_en t ]) (past_start x c e)

side_start : (x : Class) (c : List Class) → is_left_or_right x ≡ true → side x (c ++ x ∷ []) ≡ side x c
side_start x [] e = if_not (is_neutral x) x (side_of x) (turned_no_neutral x e) ∙ side_same x e
side_start x (t ∷ c) e = ap (λ s. elim (is_neutral t) as (λ z. Class) [ true ↦ s | false ↦ side_of t ]) (side_start x c e)

-- W4 needs of the adjacent types only whether they are numbers
separator_behind : (x b t : Class) → is_left_or_right x ≡ true → separator b t x ≡ separator b t ON
separator_behind L b ES e = refl
separator_behind L b CS e = refl
separator_behind L b t e = refl
separator_behind R b ES e = refl
separator_behind R b CS e = refl
separator_behind R b t e = refl
separator_behind x b t e = absurd (cc)

w4_end : (x : Class) (b : List Class) (t : Class) (a : List Class) → is_left_or_right x ≡ true → w4_at b t (a ++ x ∷ []) ≡ w4_at b t a
w4_end x b t [] e = separator_behind x (beside b) t e
w4_end x b t (s ∷ a) e = refl

module _ (x : Class) (e : is_left_or_right x ≡ true) where
  strong : is_strong x ≡ true
  strong = turned_strong x e

  w1_first : (sos : Class) (b a : List Class) → w1_at sos b x a ≡ x
  w1_first sos b a = if_not (is_nsm x) (nsm_class_at sos b) x (strong_no_nsm x strong)

  w2_first : (sos : Class) (b a : List Class) → w2_at sos b x a ≡ x
  w2_first sos b a = if_not (is_en x) (number_after (nearest_that is_strong sos b)) x (strong_no_en x strong)

  w4_first : (b a : List Class) → w4_at b x a ≡ x
  w4_first b a = turned_no_separator x (beside b) (beside a) e

  w5_first : (b a : List Class) → w5_at b x a ≡ x
  w5_first b a = if_not (is_et x) (terminator_of (is_en_past b) (is_en_past a)) x (turned_no_et x e)

  w7_first : (sos : Class) (b a : List Class) → w7_at sos b x a ≡ x
  w7_first sos b a = if_not (is_en x) (left_number (nearest_that is_left_or_right sos b)) x (strong_no_en x strong)

  n1_first : (sos eos : Class) (b a : List Class) → n1_at sos eos b x a ≡ x
  n1_first sos eos b a = if_not (is_neutral x) (agreed x (side sos b) (side eos a)) x (turned_no_neutral x e)

  n2_same : (embedding : Class) → n2_at embedding x ≡ x
  n2_same embedding = if_not (is_neutral x) embedding x (turned_no_neutral x e)

  -- eos after it
  w1_end : (sos : Class) (ts : List Class) → w1 sos (ts ++ x ∷ []) ≡ w1 sos ts ++ x ∷ []
  w1_end sos = at_end (w1_at sos) x (λ b. w1_first sos b []) (λ b t a. refl) []

  w2_end : (sos : Class) (ts : List Class) → w2 sos (ts ++ x ∷ []) ≡ w2 sos ts ++ x ∷ []
  w2_end sos = at_end (w2_at sos) x (λ b. w2_first sos b []) (λ b t a. refl) []

  w4_last : (ts : List Class) → w4 (ts ++ x ∷ []) ≡ w4 ts ++ x ∷ []
  w4_last = at_end w4_at x (λ b. w4_first b []) (λ b t a. w4_end x b t a e) []

  w5_end : (ts : List Class) → w5 (ts ++ x ∷ []) ≡ w5 ts ++ x ∷ []
  w5_end = at_end w5_at x (λ b. w5_first b [])
      (λ b t a. ap (λ s. elim (is_et t) as (λ z. Class) [ true ↦ terminator_of (is_en_past b) s | false ↦ t ]) (past_start x a e)) []

  w7_end : (sos : Class) (ts : List Class) → w7 sos (ts ++ x ∷ []) ≡ w7 sos ts ++ x ∷ []
  w7_end sos = at_end (w7_at sos) x (λ b. w7_first sos b []) (λ b t a. refl) []

  pub weak_end : (sos : Class) (ts : List Class) → weak sos (ts ++ x ∷ []) ≡ weak sos ts ++ x ∷ []
  weak_end sos ts =
      let w3s : (us : List Class) → w3 (us ++ x ∷ []) ≡ w3 us ++ x ∷ [] = λ us. map-append w3_at us (x ∷ []) ∙ ap (λ z. w3 us ++ z ∷ []) (w3_same x e) in
      let w6s : (us : List Class) → w6 (us ++ x ∷ []) ≡ w6 us ++ x ∷ [] = λ us. map-append w6_at us (x ∷ []) ∙ ap (λ z. w6 us ++ z ∷ []) (turned_by_w6 x e) in
      let a : List Class = w1 sos ts in
      let b : List Class = w2 sos a in
      let c : List Class = w3 b in
      let d : List Class = w4 c in
      let f : List Class = w5 d in
      ap (λ zs. w7 sos (w6 (w5 (w4 (w3 (w2 sos zs)))))) (w1_end sos ts) ∙ ap (λ zs. w7 sos (w6 (w5 (w4 (w3 zs))))) (w2_end sos a)
      ∙ ap (λ zs. w7 sos (w6 (w5 (w4 zs)))) (w3s b) ∙ ap (λ zs. w7 sos (w6 (w5 zs))) (w4_last c) ∙ ap (λ zs. w7 sos (w6 zs)) (w5_end d)
      ∙ ap (w7 sos) (w6s f) ∙ w7_end sos (w6 f)

  n1_end : (sos : Class) (ts : List Class) → n1 sos x (ts ++ x ∷ []) ≡ n1 sos x ts ++ x ∷ []
  n1_end sos = at_end (n1_at sos x) x (λ b. n1_first sos x b [])
      (λ b t a. ap (λ s. elim (is_neutral t) as (λ z. Class) [ true ↦ agreed t (side sos b) s | false ↦ t ]) (side_start x a e)) []

  pub ends_end : (level : ℕ) (embedding sos : Class) (ts : List Class)
      → implicit level (n2 embedding (n1 sos x (ts ++ x ∷ []))) ≡ implicit level (n2 embedding (n1 sos x ts)) ++ implicit_at level x ∷ []
  ends_end level embedding sos ts = ap (λ zs. implicit level (n2 embedding zs)) (n1_end sos ts)
      ∙ ap (implicit level) (map-append (n2_at embedding) (n1 sos x ts) (x ∷ []) ∙ ap (λ z. n2 embedding (n1 sos x ts) ++ z ∷ []) (n2_same embedding))
      ∙ map-append (implicit_at level) (n2 embedding (n1 sos x ts)) (x ∷ [])
