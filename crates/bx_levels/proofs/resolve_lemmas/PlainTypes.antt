-- A left-to-right sequence of plain classes, after each rule.
use Rattle.std.proofs.Common.{◌≡◌, ◌<◌, ◌+◌, ◌-◌, ◌∙◌, ℕ, zero, suc, List, [], ◌∷◌, ◌++◌, length, drop, take, map, replicate, refl, ap, sym, arith, subst, Bool}
use Rattle.std.proofs.Common.{true, false, Option, Some, None, ◌⊎◌, inl, inr}
use Rattle.std.specs.Prelude.{◌&&◌}
use Rattle.std.specs.List.{list_any}
use Rattle.bx_ucd.specs.Data.{Data}
use Rattle.bx_ucd.specs.declared.class.Class.{Class}
use Rattle.bx_ucd.specs.declared.class.Class.TheVariants.{L, R, AN, EN, ES, ET, CS, NSM, B, S, WS, ON}
use Rattle.bx_ucd.specs.Class.{is_strong, is_nsm}
use Rattle.bx_levels.specs.brackets.Pairs.{pairs}
use Rattle.bx_levels.specs.brackets.Resolve.{counts_as, opposite, context_of, pair_direction, change_nsms, change_bracket, resolve_in, resolve_pairs}
use Rattle.bx_levels.proofs.brackets_lemmas.Context.{change_length}
use Rattle.bx_levels.specs.resolve.Weak.{at_each, w1, w2, w3, w4, w5, w6, w1_at, w2_at, w3_at, w4_at, w5_at, w6_at, w7_at, weak, is_en, is_an}
use Rattle.bx_levels.specs.resolve.Weak.{nsm_class_at, nearest_that, number_after, left_number, is_left_or_right, beside, terminator_of, is_en_past}
use Rattle.bx_levels.specs.resolve.Neutral.{n1, n2, n1_at, side, agreed, implicit}
use Rattle.bx_levels.specs.resolve.Levels.{sequence_levels}
use Rattle.bx_levels.specs.resolve.Uniform.{is_plain}
use Rattle.bx_levels.proofs.resolve_lemmas.PlainKept.{Each}
use Rattle.bx_levels.proofs.resolve_lemmas.PlainPairs.{AreInside, pairs_inside}
use Rattle.bx_levels.proofs.resolve_lemmas.PlainLengths.{at_each_length, weak_length}

-- a rule that turns each class of one kind into one of another
module _ (p q : Class → Bool) (rule : List Class → Class → List Class → Class)
    (turns : (b : List Class) (t : Class) (a : List Class) → Each p b → p t ≡ true → Each p a → q (rule b t a) ≡ true) where
  pub each_by_rule : (b ts : List Class) → Each p b → Each p ts → Each q (at_each rule b ts)
  each_by_rule b [] hb h = tt
  each_by_rule b (t ∷ ts) hb h = (turns b t ts hb h.0 h.1, each_by_rule (t ∷ b) ts (h.0, hb) h.1)

pub each_map : (p q : Class → Bool) (f : Class → Class) → ((t : Class) → p t ≡ true → q (f t) ≡ true) → (ts : List Class) → Each p ts → Each q (map f ts)
each_map p q f turns [] h = tt
each_map p q f turns (t ∷ ts) h = (turns t h.0, each_map p q f turns ts h.1)

-- the plain classes but NSM; the ones left after W6; the ones left after W7
abbrev is_unmarked : Class → Bool
is_unmarked L = true
is_unmarked EN = true
is_unmarked ES = true
is_unmarked ET = true
is_unmarked CS = true
is_unmarked B = true
is_unmarked S = true
is_unmarked WS = true
is_unmarked ON = true
is_unmarked _ = false

abbrev is_number_or_rest : Class → Bool
is_number_or_rest L = true
is_number_or_rest EN = true
is_number_or_rest B = true
is_number_or_rest S = true
is_number_or_rest WS = true
is_number_or_rest ON = true
is_number_or_rest _ = false

abbrev is_rest : Class → Bool
is_rest L = true
is_rest B = true
is_rest S = true
is_rest WS = true
is_rest ON = true
is_rest _ = false

abbrev is_l : Class → Bool
is_l L = true
is_l _ = false

nsm_class_unmarked : (b : List Class) → Each is_plain b → is_unmarked (nsm_class_at L b) ≡ true
nsm_class_unmarked [] h = refl
nsm_class_unmarked (NSM ∷ b) h = nsm_class_unmarked b h.1
nsm_class_unmarked (L ∷ b) h = refl
nsm_class_unmarked (EN ∷ b) h = refl
nsm_class_unmarked (ES ∷ b) h = refl
nsm_class_unmarked (ET ∷ b) h = refl
nsm_class_unmarked (CS ∷ b) h = refl
nsm_class_unmarked (B ∷ b) h = refl
nsm_class_unmarked (S ∷ b) h = refl
nsm_class_unmarked (WS ∷ b) h = refl
nsm_class_unmarked (ON ∷ b) h = refl
nsm_class_unmarked (t ∷ b) h = let e : is_plain t ≡ true = h.0 in absurd (cc)

w1_turns : (b : List Class) (t : Class) (a : List Class) → Each is_plain b → is_plain t ≡ true → Each is_plain a → is_unmarked (w1_at L b t a) ≡ true
w1_turns b NSM a hb e ha = nsm_class_unmarked b hb
w1_turns b L a hb e ha = refl
w1_turns b EN a hb e ha = refl
w1_turns b ES a hb e ha = refl
w1_turns b ET a hb e ha = refl
w1_turns b CS a hb e ha = refl
w1_turns b B a hb e ha = refl
w1_turns b S a hb e ha = refl
w1_turns b WS a hb e ha = refl
w1_turns b ON a hb e ha = refl
w1_turns b _ a hb e ha = absurd (cc)

strong_left : (b : List Class) → Each is_unmarked b → nearest_that is_strong L b ≡ L
strong_left [] h = refl
strong_left (L ∷ b) h = refl
strong_left (EN ∷ b) h = strong_left b h.1
strong_left (ES ∷ b) h = strong_left b h.1
strong_left (ET ∷ b) h = strong_left b h.1
strong_left (CS ∷ b) h = strong_left b h.1
strong_left (B ∷ b) h = strong_left b h.1
strong_left (S ∷ b) h = strong_left b h.1
strong_left (WS ∷ b) h = strong_left b h.1
strong_left (ON ∷ b) h = strong_left b h.1
strong_left (t ∷ b) h = let e : is_unmarked t ≡ true = h.0 in absurd (cc)

w2_turns : (b : List Class) (t : Class) (a : List Class) → Each is_unmarked b → is_unmarked t ≡ true → Each is_unmarked a → is_unmarked (w2_at L b t a) ≡ true
w2_turns b EN a hb e ha = ap (λ s. is_unmarked (number_after s)) (strong_left b hb)
w2_turns b L a hb e ha = refl
w2_turns b ES a hb e ha = refl
w2_turns b ET a hb e ha = refl
w2_turns b CS a hb e ha = refl
w2_turns b B a hb e ha = refl
w2_turns b S a hb e ha = refl
w2_turns b WS a hb e ha = refl
w2_turns b ON a hb e ha = refl
w2_turns b _ a hb e ha = absurd (cc)

w3_turns : (t : Class) → is_unmarked t ≡ true → is_unmarked (w3_at t) ≡ true
w3_turns L e = refl
w3_turns EN e = refl
w3_turns ES e = refl
w3_turns ET e = refl
w3_turns CS e = refl
w3_turns B e = refl
w3_turns S e = refl
w3_turns WS e = refl
w3_turns ON e = refl
w3_turns _ e = absurd (cc)

beside_no_an : (b : List Class) → Each is_unmarked b → is_an (beside b) ≡ false
beside_no_an [] h = refl
beside_no_an (L ∷ b) h = refl
beside_no_an (EN ∷ b) h = refl
beside_no_an (ES ∷ b) h = refl
beside_no_an (ET ∷ b) h = refl
beside_no_an (CS ∷ b) h = refl
beside_no_an (B ∷ b) h = refl
beside_no_an (S ∷ b) h = refl
beside_no_an (WS ∷ b) h = refl
beside_no_an (ON ∷ b) h = refl
beside_no_an (t ∷ b) h = let e : is_unmarked t ≡ true = h.0 in absurd (cc)

es_turns : (v : Bool) → is_unmarked (elim v as (λ x. Class) [ true ↦ EN | false ↦ ES ]) ≡ true
es_turns true = refl
es_turns false = refl

abbrev separator_of : Bool → Class
separator_of v = elim v as (λ x. Class) [ true ↦ AN | false ↦ CS ]

cs_turns : (v x y : Bool) → x ≡ false → is_unmarked (elim v as (λ z. Class) [ true ↦ EN | false ↦ separator_of (x && y) ]) ≡ true
cs_turns true x y e = refl
cs_turns false false y e = refl
cs_turns false true y e = absurd (cc)

w4_turns : (b : List Class) (t : Class) (a : List Class) → Each is_unmarked b → is_unmarked t ≡ true → Each is_unmarked a → is_unmarked (w4_at b t a) ≡ true
w4_turns b ES a hb e ha = es_turns (is_en (beside b) && is_en (beside a))
w4_turns b CS a hb e ha = cs_turns (is_en (beside b) && is_en (beside a)) (is_an (beside b)) (is_an (beside a)) (beside_no_an b hb)
w4_turns b L a hb e ha = refl
w4_turns b EN a hb e ha = refl
w4_turns b ET a hb e ha = refl
w4_turns b B a hb e ha = refl
w4_turns b S a hb e ha = refl
w4_turns b WS a hb e ha = refl
w4_turns b ON a hb e ha = refl
w4_turns b _ a hb e ha = absurd (cc)

et_turns : (x y : Bool) → is_unmarked (terminator_of x y) ≡ true
et_turns true y = refl
et_turns false true = refl
et_turns false false = refl

w5_turns : (b : List Class) (t : Class) (a : List Class) → Each is_unmarked b → is_unmarked t ≡ true → Each is_unmarked a → is_unmarked (w5_at b t a) ≡ true
w5_turns b ET a hb e ha = et_turns (is_en_past b) (is_en_past a)
w5_turns b ES a hb e ha = refl
w5_turns b CS a hb e ha = refl
w5_turns b L a hb e ha = refl
w5_turns b EN a hb e ha = refl
w5_turns b B a hb e ha = refl
w5_turns b S a hb e ha = refl
w5_turns b WS a hb e ha = refl
w5_turns b ON a hb e ha = refl
w5_turns b _ a hb e ha = absurd (cc)

w6_turns : (t : Class) → is_unmarked t ≡ true → is_number_or_rest (w6_at t) ≡ true
w6_turns L e = refl
w6_turns EN e = refl
w6_turns ES e = refl
w6_turns ET e = refl
w6_turns CS e = refl
w6_turns B e = refl
w6_turns S e = refl
w6_turns WS e = refl
w6_turns ON e = refl
w6_turns _ e = absurd (cc)

side_left : (b : List Class) → Each is_number_or_rest b → nearest_that is_left_or_right L b ≡ L
side_left [] h = refl
side_left (L ∷ b) h = refl
side_left (EN ∷ b) h = side_left b h.1
side_left (B ∷ b) h = side_left b h.1
side_left (S ∷ b) h = side_left b h.1
side_left (WS ∷ b) h = side_left b h.1
side_left (ON ∷ b) h = side_left b h.1
side_left (t ∷ b) h = let e : is_number_or_rest t ≡ true = h.0 in absurd (cc)

w7_turns : (b : List Class) (t : Class) (a : List Class) → Each is_number_or_rest b → is_number_or_rest t ≡ true → Each is_number_or_rest a
    → is_rest (w7_at L b t a) ≡ true
w7_turns b EN a hb e ha = ap (λ s. is_rest (left_number s)) (side_left b hb)
w7_turns b L a hb e ha = refl
w7_turns b B a hb e ha = refl
w7_turns b S a hb e ha = refl
w7_turns b WS a hb e ha = refl
w7_turns b ON a hb e ha = refl
w7_turns b _ a hb e ha = absurd (cc)

weak_plain : (ts : List Class) → Each is_plain ts → Each is_rest (weak L ts)
weak_plain ts h =
    let a : Each is_unmarked (w1 L ts) = each_by_rule is_plain is_unmarked (w1_at L) w1_turns [] ts tt h in
    let b : Each is_unmarked (w2 L (w1 L ts)) = each_by_rule is_unmarked is_unmarked (w2_at L) w2_turns [] (w1 L ts) tt a in
    let c : Each is_unmarked (w3 (w2 L (w1 L ts))) = each_map is_unmarked is_unmarked w3_at w3_turns (w2 L (w1 L ts)) b in
    let d : Each is_unmarked (w4 (w3 (w2 L (w1 L ts)))) = each_by_rule is_unmarked is_unmarked w4_at w4_turns [] (w3 (w2 L (w1 L ts))) tt c in
    let e : Each is_unmarked (w5 (w4 (w3 (w2 L (w1 L ts))))) = each_by_rule is_unmarked is_unmarked w5_at w5_turns [] (w4 (w3 (w2 L (w1 L ts)))) tt d in
    let f : Each is_number_or_rest (w6 (w5 (w4 (w3 (w2 L (w1 L ts)))))) =
    each_map is_unmarked is_number_or_rest w6_at w6_turns (w5 (w4 (w3 (w2 L (w1 L ts))))) e in
    each_by_rule is_number_or_rest is_rest (w7_at L) w7_turns [] (w6 (w5 (w4 (w3 (w2 L (w1 L ts)))))) tt f

-- N0: with no R, EN or AN inside, a pair takes L or stays
no_right : (ts : List Class) → Each is_rest ts → list_any (counts_as R) ts ≡ false
no_right [] h = refl
no_right (L ∷ ts) h = no_right ts h.1
no_right (B ∷ ts) h = no_right ts h.1
no_right (S ∷ ts) h = no_right ts h.1
no_right (WS ∷ ts) h = no_right ts h.1
no_right (ON ∷ ts) h = no_right ts h.1
no_right (t ∷ ts) h = let e : is_rest t ≡ true = h.0 in absurd (cc)

-- the weak rules make nothing of the other direction of a plain list
pub left_kept : (ts : List Class) → Each is_plain ts → list_any (counts_as R) (weak L ts) ≡ false
left_kept ts h = no_right (weak L ts) (weak_plain ts h)

pair_by : (a b c : Bool) → b ≡ false
    → ((elim a as (λ x. Option Class) [
      | true ↦ Some L
      | false ↦ elim b as (λ x. Option Class)
          [ true ↦ elim c as (λ x. Option Class) [ true ↦ Some L | false ↦ Some (opposite L) ] | false ↦ None ]
    ]) ≡ None)
    ⊎ ((elim a as (λ x. Option Class) [
      | true ↦ Some L
      | false ↦ elim b as (λ x. Option Class)
          [ true ↦ elim c as (λ x. Option Class) [ true ↦ Some L | false ↦ Some (opposite L) ] | false ↦ None ]
    ]) ≡ Some L)
pair_by true b c e = inr refl
pair_by false false c e = inl refl
pair_by false true c e = absurd (cc)

pair_left : (context : Class) (inside : List Class) → Each is_rest inside
    → (pair_direction L context inside ≡ None) ⊎ (pair_direction L context inside ≡ Some L)
pair_left context inside h = pair_by (list_any (counts_as L) inside) (list_any (counts_as (opposite L)) inside) (counts_as L context) (no_right inside h)

pub each_take : (p : Class → Bool) (n : ℕ) (ts : List Class) → Each p ts → Each p (take n ts)
each_take p zero ts h = tt
each_take p (suc n) [] h = tt
each_take p (suc n) (t ∷ ts) h = (h.0, each_take p n ts h.1)

pub each_drop : (p : Class → Bool) (n : ℕ) (ts : List Class) → Each p ts → Each p (drop n ts)
each_drop p zero ts h = h
each_drop p (suc n) [] h = tt
each_drop p (suc n) (t ∷ ts) h = each_drop p n ts h.1

pub each_append : (p : Class → Bool) (xs ys : List Class) → Each p xs → Each p ys → Each p (xs ++ ys)
each_append p [] ys h k = k
each_append p (x ∷ xs) ys h k = (h.0, each_append p xs ys h.1 k)

nsms_rest : (was : List Bool) (ts : List Class) → Each is_rest ts → Each is_rest (change_nsms L was ts)
nsms_rest [] ts h = h
nsms_rest (false ∷ was) ts h = h
nsms_rest (true ∷ was) [] h = tt
nsms_rest (true ∷ was) (t ∷ ts) h = (refl, nsms_rest was ts h.1)

change_rest : (was : List Bool) (ts : List Class) (p : ℕ) → Each is_rest ts → Each is_rest (change_bracket L was ts p)
change_rest was ts p h = each_append is_rest (take p ts) (L ∷ change_nsms L (drop (p + 1) was) (drop (p + 1) ts)) (each_take is_rest p ts h)
    (refl, nsms_rest (drop (p + 1) was) (drop (p + 1) ts) (each_drop is_rest (p + 1) ts h))

-- types that rest, as many as before
pub record IsRest (n : ℕ) (ts : List Class) : Type 0 where
  pub each : Each is_rest ts
  pub as_long : length ts ≡ n

resolve_by : (n : ℕ) (was : List Bool) (p : ℕ × ℕ) (ts : List Class) (m : Option Class) → (m ≡ None) ⊎ (m ≡ Some L) → p.0 < p.1 → p.1 < n → IsRest n ts
    → IsRest n (elim m as (λ x. List Class) [ None ↦ ts | Some d ↦ change_bracket d was (change_bracket d was ts p.0) p.1 ])
resolve_by n was p ts None o a b h = h
resolve_by n was p ts (Some d) o a b h =
    let s : d ≡ L = elim o [ inl e ↦ absurd (cc) | inr e ↦ cc ] in
    let l : length ts ≡ n = h.as_long in
    let r : Each is_rest (change_bracket L was (change_bracket L was ts p.0) p.1) =
    change_rest was (change_bracket L was ts p.0) p.1 (change_rest was ts p.0 h.each) in
    let k : length (change_bracket L was ts p.0) ≡ length ts = change_length L was ts p.0 (omega arith) in
    let q : length (change_bracket L was (change_bracket L was ts p.0) p.1) ≡ length (change_bracket L was ts p.0) =
    change_length L was (change_bracket L was ts p.0) p.1 (omega arith) in
    subst (λ x. IsRest n (change_bracket x was (change_bracket x was ts p.0) p.1)) (sym s) (record { each = r; as_long = q ∙ k ∙ l })

pairs_rest : (n : ℕ) (was : List Bool) (ps : List (ℕ × ℕ)) (ts : List Class) → AreInside n ps → IsRest n ts → IsRest n (resolve_pairs L L was ps ts)
pairs_rest n was [] ts i h = h
pairs_rest n was (p ∷ ps) ts i h =
    let inside : List Class = take (p.1 - p.0 - 1) (drop (p.0 + 1) ts) in
    let e : Each is_rest inside = each_take is_rest (p.1 - p.0 - 1) (drop (p.0 + 1) ts) (each_drop is_rest (p.0 + 1) ts h.each) in
    pairs_rest n was ps (resolve_in L (context_of L ts p.0) was p ts) i.2
    (resolve_by n was p ts (pair_direction L (context_of L ts p.0) inside) (pair_left (context_of L ts p.0) inside e) i.0 i.1 h)

-- N1: all become L
side_l : (b : List Class) → Each is_rest b → side L b ≡ L
side_l [] h = refl
side_l (L ∷ b) h = refl
side_l (B ∷ b) h = side_l b h.1
side_l (S ∷ b) h = side_l b h.1
side_l (WS ∷ b) h = side_l b h.1
side_l (ON ∷ b) h = side_l b h.1
side_l (t ∷ b) h = let e : is_rest t ≡ true = h.0 in absurd (cc)

agreed_l : (t : Class) (b a : List Class) → Each is_rest b → Each is_rest a → is_l (agreed t (side L b) (side L a)) ≡ true
agreed_l t b a hb ha = ap (λ s. is_l (agreed t s (side L a))) (side_l b hb) ∙ ap (λ s. is_l (agreed t L s)) (side_l a ha)

n1_turns : (b : List Class) (t : Class) (a : List Class) → Each is_rest b → is_rest t ≡ true → Each is_rest a → is_l (n1_at L L b t a) ≡ true
n1_turns b L a hb e ha = refl
n1_turns b B a hb e ha = agreed_l B b a hb ha
n1_turns b S a hb e ha = agreed_l S b a hb ha
n1_turns b WS a hb e ha = agreed_l WS b a hb ha
n1_turns b ON a hb e ha = agreed_l ON b a hb ha
n1_turns b _ a hb e ha = absurd (cc)

-- so all levels are 0
levels_l : (ts : List Class) → Each is_l ts → implicit 0 (n2 L ts) ≡ replicate (length ts) 0
levels_l [] h = refl
levels_l (L ∷ ts) h = ap (λ ls. 0 ∷ ls) (levels_l ts h.1)
levels_l (t ∷ ts) h = let e : is_l t ≡ true = h.0 in absurd (cc)

pub plain_sequence : (ucd : Data) (chars : List ℕ) (ts : List Class) → Each is_plain ts
    → sequence_levels ucd 0 L L chars ts ≡ replicate (length ts) 0
plain_sequence ucd chars ts h =
    let weak_types : List Class = weak L ts in
    let was : List Bool = map is_nsm ts in
    let r : IsRest (length weak_types) (resolve_pairs L L was (pairs ucd chars weak_types) weak_types) =
    pairs_rest (length weak_types) was (pairs ucd chars weak_types) weak_types (pairs_inside ucd chars weak_types)
    (record { each = weak_plain ts h; as_long = refl }) in
    let paired : List Class = resolve_pairs L L was (pairs ucd chars weak_types) weak_types in
    let l : Each is_l (n1 L L paired) = each_by_rule is_rest is_l (n1_at L L) n1_turns [] paired tt r.each in
    levels_l (n1 L L paired) l ∙ ap (λ n. replicate n 0) (at_each_length (n1_at L L) [] paired ∙ r.as_long ∙ weak_length L ts)
