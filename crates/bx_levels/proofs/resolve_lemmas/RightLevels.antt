-- In a text from right to left without L, N0, N1 and N2 change no level: numbers rise, and nothing else does.
use Rattle.std.proofs.Common.{◌≡◌, ◌<◌, ◌+◌, ◌-◌, ◌∙◌, ℕ, zero, suc, List, [], ◌∷◌, ◌++◌, length, get_or, drop, take, map, refl, ap, sym, arith, subst}
use Rattle.std.proofs.Common.{append_assoc, Bool, true, false, Option, Some, None, ◌⊎◌, inl, inr}
use Rattle.std.proofs.lemmas.List.{drop_all, drop_more, drop-map, length-map, get_or-map, get_or_at, length_push, map-append, take-append-drop}
use Rattle.std.specs.Prelude.{◌&&◌}
use Rattle.std.specs.List.{list_any}
use Rattle.bx_ucd.specs.Data.{Data}
use Rattle.bx_ucd.specs.declared.class.Class.{Class}
use Rattle.bx_ucd.specs.declared.class.Class.TheVariants.{L, R, AL, AN, EN, ES, ET, CS, NSM, B, S, WS, ON}
use Rattle.bx_levels.specs.brackets.Pairs.{is_on, pairs}
use Rattle.bx_levels.specs.brackets.Resolve.{counts_as, opposite, context_of, pair_direction, change_nsms, change_bracket, resolve_in, resolve_pairs}
use Rattle.bx_ucd.specs.Class.{is_strong, is_nsm}
use Rattle.bx_levels.specs.resolve.Weak.{w1, w2, w3, w4, w5, w6, w1_at, w2_at, w3_at, w4_at, w5_at, w6_at, w7_at, weak, is_en, is_an}
use Rattle.bx_levels.specs.resolve.Weak.{is_left_or_right, nsm_class_at, nearest_that, number_after, left_number, beside, terminator_of, is_en_past}
use Rattle.bx_levels.specs.resolve.Weak.{at_each}
use Rattle.bx_levels.specs.resolve.Neutral.{n2, n1_at, n2_at, side, agreed, rise_odd, implicit, implicit_at}
use Rattle.bx_levels.specs.resolve.Levels.{sequence_levels}
use Rattle.bx_levels.specs.resolve.Uniform.{is_from_right}
use Rattle.bx_levels.proofs.resolve_lemmas.PlainKept.{Each}
use Rattle.bx_levels.proofs.resolve_lemmas.PlainPairs.{AreInside, pairs_inside}
use Rattle.bx_levels.proofs.resolve_lemmas.PlainTypes.{each_by_rule, each_map, each_take, each_drop, each_append}
use Rattle.bx_levels.proofs.resolve_lemmas.PairTypes.{AreOn, HaveEnds, pairs_ends}
use Rattle.bx_levels.proofs.resolve_lemmas.RightNsms.{AreNsmsLow, AreLow, weak_low}

-- these classes but NSM; the ones left after W3; the ones left after W6
abbrev is_unmarked : Class → Bool
is_unmarked R = true
is_unmarked AL = true
is_unmarked EN = true
is_unmarked AN = true
is_unmarked ES = true
is_unmarked ET = true
is_unmarked CS = true
is_unmarked B = true
is_unmarked S = true
is_unmarked WS = true
is_unmarked ON = true
is_unmarked _ = false

abbrev is_without_al : Class → Bool
is_without_al R = true
is_without_al EN = true
is_without_al AN = true
is_without_al ES = true
is_without_al ET = true
is_without_al CS = true
is_without_al B = true
is_without_al S = true
is_without_al WS = true
is_without_al ON = true
is_without_al _ = false

abbrev is_rest : Class → Bool
is_rest R = true
is_rest EN = true
is_rest AN = true
is_rest B = true
is_rest S = true
is_rest WS = true
is_rest ON = true
is_rest _ = false

nsm_class_unmarked : (b : List Class) → Each is_from_right b → is_unmarked (nsm_class_at R b) ≡ true
nsm_class_unmarked [] h = refl
nsm_class_unmarked (NSM ∷ b) h = nsm_class_unmarked b h.1
nsm_class_unmarked (R ∷ b) h = refl
nsm_class_unmarked (AL ∷ b) h = refl
nsm_class_unmarked (EN ∷ b) h = refl
nsm_class_unmarked (AN ∷ b) h = refl
nsm_class_unmarked (ES ∷ b) h = refl
nsm_class_unmarked (ET ∷ b) h = refl
nsm_class_unmarked (CS ∷ b) h = refl
nsm_class_unmarked (B ∷ b) h = refl
nsm_class_unmarked (S ∷ b) h = refl
nsm_class_unmarked (WS ∷ b) h = refl
nsm_class_unmarked (ON ∷ b) h = refl
nsm_class_unmarked (t ∷ b) h = let e : is_from_right t ≡ true = h.0 in absurd (cc)

w1_turns : (b : List Class) (t : Class) (a : List Class) → Each is_from_right b → is_from_right t ≡ true → Each is_from_right a
    → is_unmarked (w1_at R b t a) ≡ true
w1_turns b R a hb e ha = refl
w1_turns b AL a hb e ha = refl
w1_turns b EN a hb e ha = refl
w1_turns b AN a hb e ha = refl
w1_turns b ES a hb e ha = refl
w1_turns b ET a hb e ha = refl
w1_turns b CS a hb e ha = refl
w1_turns b NSM a hb e ha = nsm_class_unmarked b hb
w1_turns b B a hb e ha = refl
w1_turns b S a hb e ha = refl
w1_turns b WS a hb e ha = refl
w1_turns b ON a hb e ha = refl
w1_turns b _ a hb e ha = absurd (cc)

number_unmarked : (s : Class) → is_unmarked (number_after s) ≡ true
number_unmarked AL = refl
number_unmarked _ = refl

w2_turns : (b : List Class) (t : Class) (a : List Class) → Each is_unmarked b → is_unmarked t ≡ true → Each is_unmarked a → is_unmarked (w2_at R b t a) ≡ true
w2_turns b R a hb e ha = refl
w2_turns b AL a hb e ha = refl
w2_turns b EN a hb e ha = number_unmarked (nearest_that is_strong R b)
w2_turns b AN a hb e ha = refl
w2_turns b ES a hb e ha = refl
w2_turns b ET a hb e ha = refl
w2_turns b CS a hb e ha = refl
w2_turns b B a hb e ha = refl
w2_turns b S a hb e ha = refl
w2_turns b WS a hb e ha = refl
w2_turns b ON a hb e ha = refl
w2_turns b _ a hb e ha = absurd (cc)

w3_turns : (t : Class) → is_unmarked t ≡ true → is_without_al (w3_at t) ≡ true
w3_turns R e = refl
w3_turns AL e = refl
w3_turns EN e = refl
w3_turns AN e = refl
w3_turns ES e = refl
w3_turns ET e = refl
w3_turns CS e = refl
w3_turns B e = refl
w3_turns S e = refl
w3_turns WS e = refl
w3_turns ON e = refl
w3_turns _ e = absurd (cc)

es_turns : (v : Bool) → is_without_al (elim v as (λ z. Class) [ true ↦ EN | false ↦ ES ]) ≡ true
es_turns true = refl
es_turns false = refl

cs_turns : (v w : Bool) → is_without_al (elim v as (λ z. Class) [ true ↦ EN | false ↦ elim w as (λ z. Class) [ true ↦ AN | false ↦ CS ] ]) ≡ true
cs_turns true w = refl
cs_turns false true = refl
cs_turns false false = refl

w4_turns : (b : List Class) (t : Class) (a : List Class) → Each is_without_al b → is_without_al t ≡ true → Each is_without_al a
    → is_without_al (w4_at b t a) ≡ true
w4_turns b R a hb e ha = refl
w4_turns b EN a hb e ha = refl
w4_turns b AN a hb e ha = refl
w4_turns b ES a hb e ha = es_turns (is_en (beside b) && is_en (beside a))
w4_turns b ET a hb e ha = refl
w4_turns b CS a hb e ha = cs_turns (is_en (beside b) && is_en (beside a)) (is_an (beside b) && is_an (beside a))
w4_turns b B a hb e ha = refl
w4_turns b S a hb e ha = refl
w4_turns b WS a hb e ha = refl
w4_turns b ON a hb e ha = refl
w4_turns b _ a hb e ha = absurd (cc)

et_turns : (x y : Bool) → is_without_al (terminator_of x y) ≡ true
et_turns true y = refl
et_turns false true = refl
et_turns false false = refl

w5_turns : (b : List Class) (t : Class) (a : List Class) → Each is_without_al b → is_without_al t ≡ true → Each is_without_al a
    → is_without_al (w5_at b t a) ≡ true
w5_turns b R a hb e ha = refl
w5_turns b EN a hb e ha = refl
w5_turns b AN a hb e ha = refl
w5_turns b ES a hb e ha = refl
w5_turns b ET a hb e ha = et_turns (is_en_past b) (is_en_past a)
w5_turns b CS a hb e ha = refl
w5_turns b B a hb e ha = refl
w5_turns b S a hb e ha = refl
w5_turns b WS a hb e ha = refl
w5_turns b ON a hb e ha = refl
w5_turns b _ a hb e ha = absurd (cc)

w6_turns : (t : Class) → is_without_al t ≡ true → is_rest (w6_at t) ≡ true
w6_turns R e = refl
w6_turns EN e = refl
w6_turns AN e = refl
w6_turns ES e = refl
w6_turns ET e = refl
w6_turns CS e = refl
w6_turns B e = refl
w6_turns S e = refl
w6_turns WS e = refl
w6_turns ON e = refl
w6_turns _ e = absurd (cc)

side_right : (b : List Class) → Each is_rest b → nearest_that is_left_or_right R b ≡ R
side_right [] h = refl
side_right (R ∷ b) h = refl
side_right (EN ∷ b) h = side_right b h.1
side_right (AN ∷ b) h = side_right b h.1
side_right (B ∷ b) h = side_right b h.1
side_right (S ∷ b) h = side_right b h.1
side_right (WS ∷ b) h = side_right b h.1
side_right (ON ∷ b) h = side_right b h.1
side_right (t ∷ b) h = let e : is_rest t ≡ true = h.0 in absurd (cc)

w7_turns : (b : List Class) (t : Class) (a : List Class) → Each is_rest b → is_rest t ≡ true → Each is_rest a → is_rest (w7_at R b t a) ≡ true
w7_turns b R a hb e ha = refl
w7_turns b EN a hb e ha = ap (λ s. is_rest (left_number s)) (side_right b hb)
w7_turns b AN a hb e ha = refl
w7_turns b B a hb e ha = refl
w7_turns b S a hb e ha = refl
w7_turns b WS a hb e ha = refl
w7_turns b ON a hb e ha = refl
w7_turns b _ a hb e ha = absurd (cc)

weak_rest : (ts : List Class) → Each is_from_right ts → Each is_rest (weak R ts)
weak_rest ts h =
    let t1 : List Class = w1 R ts in
    let t2 : List Class = w2 R t1 in
    let t3 : List Class = w3 t2 in
    let t4 : List Class = w4 t3 in
    let t5 : List Class = w5 t4 in
    let a : Each is_unmarked t1 = each_by_rule is_from_right is_unmarked (w1_at R) w1_turns [] ts tt h in
    let b : Each is_unmarked t2 = each_by_rule is_unmarked is_unmarked (w2_at R) w2_turns [] t1 tt a in
    let c : Each is_without_al t3 = each_map is_unmarked is_without_al w3_at w3_turns t2 b in
    let d : Each is_without_al t4 = each_by_rule is_without_al is_without_al w4_at w4_turns [] t3 tt c in
    let e : Each is_without_al t5 = each_by_rule is_without_al is_without_al w5_at w5_turns [] t4 tt d in
    let f : Each is_rest (w6 t5) = each_map is_without_al is_rest w6_at w6_turns t5 e in
    each_by_rule is_rest is_rest (w7_at R) w7_turns [] (w6 t5) tt f

-- N0: with no L inside, a pair takes R or stays
no_left : (ts : List Class) → Each is_rest ts → list_any (counts_as L) ts ≡ false
no_left [] h = refl
no_left (R ∷ ts) h = no_left ts h.1
no_left (EN ∷ ts) h = no_left ts h.1
no_left (AN ∷ ts) h = no_left ts h.1
no_left (B ∷ ts) h = no_left ts h.1
no_left (S ∷ ts) h = no_left ts h.1
no_left (WS ∷ ts) h = no_left ts h.1
no_left (ON ∷ ts) h = no_left ts h.1
no_left (t ∷ ts) h = let e : is_rest t ≡ true = h.0 in absurd (cc)

-- the weak rules make nothing of the other direction of a list without L
pub right_kept : (ts : List Class) → Each is_from_right ts → list_any (counts_as L) (weak R ts) ≡ false
right_kept ts h = no_left (weak R ts) (weak_rest ts h)

abbrev taken_by : Bool → Bool → Bool → Option Class
taken_by a b c = elim a as (λ x. Option Class) [
  | true ↦ Some R
  | false ↦ elim b as (λ x. Option Class)
      [ true ↦ elim c as (λ x. Option Class) [ true ↦ Some R | false ↦ Some (opposite R) ] | false ↦ None ]
]

pair_by : (a b c : Bool) → b ≡ false → (taken_by a b c ≡ None) ⊎ (taken_by a b c ≡ Some R)
pair_by true b c e = inr refl
pair_by false false c e = inl refl
pair_by false true c e = absurd (cc)

pair_right : (context : Class) (inside : List Class) → Each is_rest inside
    → (pair_direction R context inside ≡ None) ⊎ (pair_direction R context inside ≡ Some R)
pair_right context inside h = pair_by (list_any (counts_as R) inside) (list_any (counts_as (opposite R)) inside) (counts_as R context) (no_left inside h)

-- the rises of types, which N0 does not change
abbrev rises : List Class → List ℕ
rises ts = map rise_odd ts

on_low : (t : Class) → is_on t ≡ true → rise_odd t ≡ 0
on_low ON e = refl
on_low _ e = absurd (cc)

are_on : (ts : List Class) (before : List ℕ) (j : ℕ) (rs : List ℕ) → length before ≡ j → before ++ rises ts ≡ rs → AreOn (λ n. get_or rs n 1 ≡ 0) j ts
are_on [] before j rs l e = tt
are_on (t ∷ ts) before j rs l e =
    let here : get_or rs j 1 ≡ rise_odd t = ap (λ xs. get_or xs j 1) (sym e) ∙ get_or_at before (rise_odd t) (rises ts) 1 j l in
    let long : length (before ++ rise_odd t ∷ []) ≡ j + 1 = length_push before (rise_odd t) ∙ ap (λ n. n + 1) l in
    (λ on. here ∙ on_low t on, are_on ts (before ++ rise_odd t ∷ []) (j + 1) rs long (append_assoc before (rise_odd t ∷ []) (rises ts) ∙ e))

abbrev no_nsms : List Bool
no_nsms = []

drop_none : (n : ℕ) → drop n no_nsms ≡ no_nsms
drop_none n = drop_all n no_nsms (omega arith)

low_at : (was : List Bool) (rs : List ℕ) (p : ℕ) → AreLow was rs → p < length rs → get_or rs p 1 ≡ 0 → AreNsmsLow (drop (p + 1) was) (drop (p + 1) rs)
low_at [] rs p a h e = let none : drop (p + 1) no_nsms ≡ no_nsms = drop_none (p + 1) in subst (λ ws. AreNsmsLow ws (drop (p + 1) rs)) (sym none) tt
low_at (m ∷ was) [] p a h e = absurd (omega arith)
low_at (m ∷ was) (r ∷ rs) zero a h e = a.0 e
low_at (m ∷ was) (r ∷ rs) (suc p) a h e =
    let one : suc p + 1 ≡ suc (p + 1) = omega arith in
    subst (λ n. AreNsmsLow (drop n (m ∷ was)) (drop n (r ∷ rs))) (sym one) (low_at was rs p a.1 (omega arith) e)

nsms_rises : (was : List Bool) (ts : List Class) → AreNsmsLow was (rises ts) → rises (change_nsms R was ts) ≡ rises ts
nsms_rises [] ts h = refl
nsms_rises (false ∷ was) ts h = refl
nsms_rises (true ∷ was) [] h = refl
nsms_rises (true ∷ was) (t ∷ ts) h = ap (λ r. r ∷ rises (change_nsms R was ts)) (sym h.0) ∙ ap (λ rs. rise_odd t ∷ rs) (nsms_rises was ts h.1)

change_rises : (was : List Bool) (ts : List Class) (p : ℕ) → p < length ts → get_or (rises ts) p 1 ≡ 0
    → AreNsmsLow (drop (p + 1) was) (drop (p + 1) (rises ts)) → rises (change_bracket R was ts p) ≡ rises ts
change_rises was ts p h e a =
    let later : List Class = drop (p + 1) ts in
    let low : AreNsmsLow (drop (p + 1) was) (rises later) = subst (AreNsmsLow (drop (p + 1) was)) (drop-map rise_odd (p + 1) ts) a in
    let here : 0 ≡ rise_odd (get_or ts p L) = sym e ∙ get_or-map rise_odd ts p L 1 h in
    let whole : take p ts ++ get_or ts p L ∷ later ≡ ts = ap (λ xs. take p ts ++ xs) (sym (drop_more ts p L h)) ∙ take-append-drop p ts in
    map-append rise_odd (take p ts) (R ∷ change_nsms R (drop (p + 1) was) later)
    ∙ ap (λ rs. rises (take p ts) ++ 0 ∷ rs) (nsms_rises (drop (p + 1) was) later low)
    ∙ ap (λ r. rises (take p ts) ++ r ∷ rises later) here
    ∙ sym (map-append rise_odd (take p ts) (get_or ts p L ∷ later))
    ∙ ap rises whole

nsms_rest : (was : List Bool) (ts : List Class) → Each is_rest ts → Each is_rest (change_nsms R was ts)
nsms_rest [] ts h = h
nsms_rest (false ∷ was) ts h = h
nsms_rest (true ∷ was) [] h = tt
nsms_rest (true ∷ was) (t ∷ ts) h = (refl, nsms_rest was ts h.1)

change_rest : (was : List Bool) (ts : List Class) (p : ℕ) → Each is_rest ts → Each is_rest (change_bracket R was ts p)
change_rest was ts p h =
    let nsms : List Class = change_nsms R (drop (p + 1) was) (drop (p + 1) ts) in
    let later : Each is_rest nsms = nsms_rest (drop (p + 1) was) (drop (p + 1) ts) (each_drop is_rest (p + 1) ts h) in
    each_append is_rest (take p ts) (R ∷ nsms) (each_take is_rest p ts h) (refl, later)

-- types that rest, and rise as is said
record IsRest (was : List Bool) (rs : List ℕ) (ts : List Class) : Type 0 where
  pub each : Each is_rest ts
  pub rise : rises ts ≡ rs

one_rest : (was : List Bool) (rs : List ℕ) (ts : List Class) (p : ℕ) → AreLow was rs → p < length rs → get_or rs p 1 ≡ 0 → IsRest was rs ts
    → IsRest was rs (change_bracket R was ts p)
one_rest was rs ts p a h e r =
    let long : length ts ≡ length rs = sym (length-map ts rise_odd) ∙ ap length r.rise in
    let zero_at : get_or (rises ts) p 1 ≡ 0 = ap (λ xs. get_or xs p 1) r.rise ∙ e in
    let nsms : AreNsmsLow (drop (p + 1) was) (drop (p + 1) (rises ts)) =
    subst (λ xs. AreNsmsLow (drop (p + 1) was) (drop (p + 1) xs)) (sym r.rise) (low_at was rs p a h e) in
    record { each = change_rest was ts p r.each; rise = change_rises was ts p (omega arith) zero_at nsms ∙ r.rise }

resolve_by : (was : List Bool) (rs : List ℕ) (p : ℕ × ℕ) (ts : List Class) (m : Option Class) → (m ≡ None) ⊎ (m ≡ Some R) → AreLow was rs → p.0 < p.1
    → p.1 < length rs → get_or rs p.0 1 ≡ 0 → get_or rs p.1 1 ≡ 0 → IsRest was rs ts
    → IsRest was rs (elim m as (λ x. List Class) [ None ↦ ts | Some d ↦ change_bracket d was (change_bracket d was ts p.0) p.1 ])
resolve_by was rs p ts None o a h k e f r = r
resolve_by was rs p ts (Some d) o a h k e f r =
    let s : d ≡ R = elim o [ inl x ↦ absurd (cc) | inr x ↦ cc ] in
    let one : IsRest was rs (change_bracket R was ts p.0) = one_rest was rs ts p.0 a (omega arith) e r in
    subst (λ x. IsRest was rs (change_bracket x was (change_bracket x was ts p.0) p.1)) (sym s) (one_rest was rs (change_bracket R was ts p.0) p.1 a k f one)

pairs_rest : (was : List Bool) (rs : List ℕ) (ps : List (ℕ × ℕ)) (ts : List Class) → AreLow was rs → AreInside (length rs) ps
    → HaveEnds (λ n. get_or rs n 1 ≡ 0) ps → IsRest was rs ts → IsRest was rs (resolve_pairs R R was ps ts)
pairs_rest was rs [] ts a i h r = r
pairs_rest was rs (p ∷ ps) ts a i h r =
    let inside : List Class = take (p.1 - p.0 - 1) (drop (p.0 + 1) ts) in
    let e : Each is_rest inside = each_take is_rest (p.1 - p.0 - 1) (drop (p.0 + 1) ts) (each_drop is_rest (p.0 + 1) ts r.each) in
    let context : Class = context_of R ts p.0 in
    pairs_rest was rs ps (resolve_in R context was p ts) a i.2 h.2
    (resolve_by was rs p ts (pair_direction R context inside) (pair_right context inside e) a i.0 i.1 h.0 h.1 r)

-- N1: neutrals become R
side_r : (b : List Class) → Each is_rest b → side R b ≡ R
side_r [] h = refl
side_r (R ∷ b) h = refl
side_r (EN ∷ b) h = refl
side_r (AN ∷ b) h = refl
side_r (B ∷ b) h = side_r b h.1
side_r (S ∷ b) h = side_r b h.1
side_r (WS ∷ b) h = side_r b h.1
side_r (ON ∷ b) h = side_r b h.1
side_r (t ∷ b) h = let e : is_rest t ≡ true = h.0 in absurd (cc)

agreed_level : (t : Class) (b a : List Class) → Each is_rest b → Each is_rest a → implicit_at 1 (n2_at R (agreed t (side R b) (side R a))) ≡ 1
agreed_level t b a hb ha = ap (λ s. implicit_at 1 (n2_at R (agreed t s (side R a)))) (side_r b hb)
    ∙ ap (λ s. implicit_at 1 (n2_at R (agreed t R s))) (side_r a ha)

one_level : (b : List Class) (t : Class) (a : List Class) → Each is_rest b → is_rest t ≡ true → Each is_rest a
    → implicit_at 1 (n2_at R (n1_at R R b t a)) ≡ implicit_at 1 t
one_level b R a hb e ha = refl
one_level b EN a hb e ha = refl
one_level b AN a hb e ha = refl
one_level b B a hb e ha = agreed_level B b a hb ha
one_level b S a hb e ha = agreed_level S b a hb ha
one_level b WS a hb e ha = agreed_level WS b a hb ha
one_level b ON a hb e ha = agreed_level ON b a hb ha
one_level b _ a hb e ha = absurd (cc)

same_levels : (b ts : List Class) → Each is_rest b → Each is_rest ts → implicit 1 (n2 R (at_each (n1_at R R) b ts)) ≡ implicit 1 ts
same_levels b [] hb h = refl
same_levels b (t ∷ ts) hb h =
    ap (λ l. l ∷ implicit 1 (n2 R (at_each (n1_at R R) (t ∷ b) ts))) (one_level b t ts hb h.0 h.1)
    ∙ ap (λ ls. implicit_at 1 t ∷ ls) (same_levels (t ∷ b) ts (h.0, hb) h.1)

by_rises : (ts : List Class) → implicit 1 ts ≡ map (λ n. 1 + n) (rises ts)
by_rises [] = refl
by_rises (t ∷ ts) = ap (λ ls. implicit_at 1 t ∷ ls) (by_rises ts)

-- the levels of a sequence without L at level 1 follow from the types after W7
pub right_sequence : (ucd : Data) (chars : List ℕ) (ts : List Class) → Each is_from_right ts
    → sequence_levels ucd 1 R R chars ts ≡ implicit 1 (weak R ts)
right_sequence ucd chars ts h =
    let ws : List Class = weak R ts in
    let was : List Bool = map is_nsm ts in
    let rs : List ℕ = rises ws in
    let found : List (ℕ × ℕ) = pairs ucd chars ws in
    let paired : List Class = resolve_pairs R R was found ws in
    let long : length ws ≡ length rs = sym (length-map ws rise_odd) in
    let inside : AreInside (length rs) found = subst (λ n. AreInside n found) long (pairs_inside ucd chars ws) in
    let ends : HaveEnds (λ n. get_or rs n 1 ≡ 0) found = pairs_ends (λ n. get_or rs n 1 ≡ 0) ucd chars ws (are_on ws [] 0 rs refl refl) in
    let r : IsRest was rs paired = pairs_rest was rs found ws (weak_low R ts) inside ends (record { each = weak_rest ts h; rise = refl }) in
    same_levels [] paired tt r.each ∙ by_rises paired ∙ ap (map (λ n. 1 + n)) r.rise ∙ sym (by_rises ws)
