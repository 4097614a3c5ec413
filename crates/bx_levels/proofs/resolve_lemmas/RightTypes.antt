-- A right-to-left sequence of plain classes, after each rule.
use Rattle.std.proofs.Common.{◌≡◌, ◌∙◌, ℕ, List, [], ◌∷◌, length, replicate, refl, ap, Bool, true, false}
use Rattle.std.specs.Prelude.{◌&&◌}
use Rattle.bx_ucd.specs.Data.{Data}
use Rattle.bx_ucd.specs.declared.class.Class.{Class}
use Rattle.bx_ucd.specs.declared.class.Class.TheVariants.{R, AL, AN, EN, ES, ET, CS, NSM, B, S, WS, ON}
use Rattle.bx_levels.specs.resolve.Weak.{w1, w2, w3, w4, w5, w6, w1_at, w2_at, w3_at, w4_at, w5_at, w6_at, w7_at, weak, is_en, is_an, nsm_class_at, beside}
use Rattle.bx_levels.specs.resolve.Weak.{terminator_of, is_en_past}
use Rattle.bx_levels.specs.resolve.Neutral.{implicit}
use Rattle.bx_levels.specs.resolve.Levels.{sequence_levels}
use Rattle.bx_levels.specs.resolve.Uniform.{is_plain_right, is_from_right}
use Rattle.bx_levels.proofs.resolve_lemmas.PlainKept.{Each}
use Rattle.bx_levels.proofs.resolve_lemmas.PlainLengths.{weak_length}
use Rattle.bx_levels.proofs.resolve_lemmas.RightLevels.{right_sequence}
use Rattle.bx_levels.proofs.resolve_lemmas.PlainTypes.{each_by_rule, each_map}

-- the plain classes but NSM; the ones left after W3; the ones left after W6
abbrev is_unmarked : Class → Bool
is_unmarked R = true
is_unmarked AL = true
is_unmarked ES = true
is_unmarked ET = true
is_unmarked CS = true
is_unmarked B = true
is_unmarked S = true
is_unmarked WS = true
is_unmarked ON = true
is_unmarked _ = false

abbrev is_weak : Class → Bool
is_weak R = true
is_weak ES = true
is_weak ET = true
is_weak CS = true
is_weak B = true
is_weak S = true
is_weak WS = true
is_weak ON = true
is_weak _ = false

abbrev is_rest : Class → Bool
is_rest R = true
is_rest B = true
is_rest S = true
is_rest WS = true
is_rest ON = true
is_rest _ = false

nsm_class_unmarked : (b : List Class) → Each is_plain_right b → is_unmarked (nsm_class_at R b) ≡ true
nsm_class_unmarked [] h = refl
nsm_class_unmarked (NSM ∷ b) h = nsm_class_unmarked b h.1
nsm_class_unmarked (R ∷ b) h = refl
nsm_class_unmarked (AL ∷ b) h = refl
nsm_class_unmarked (ES ∷ b) h = refl
nsm_class_unmarked (ET ∷ b) h = refl
nsm_class_unmarked (CS ∷ b) h = refl
nsm_class_unmarked (B ∷ b) h = refl
nsm_class_unmarked (S ∷ b) h = refl
nsm_class_unmarked (WS ∷ b) h = refl
nsm_class_unmarked (ON ∷ b) h = refl
nsm_class_unmarked (t ∷ b) h = let e : is_plain_right t ≡ true = h.0 in absurd (cc)

w1_turns : (b : List Class) (t : Class) (a : List Class) → Each is_plain_right b → is_plain_right t ≡ true → Each is_plain_right a
    → is_unmarked (w1_at R b t a) ≡ true
w1_turns b NSM a hb e ha = nsm_class_unmarked b hb
w1_turns b R a hb e ha = refl
w1_turns b AL a hb e ha = refl
w1_turns b ES a hb e ha = refl
w1_turns b ET a hb e ha = refl
w1_turns b CS a hb e ha = refl
w1_turns b B a hb e ha = refl
w1_turns b S a hb e ha = refl
w1_turns b WS a hb e ha = refl
w1_turns b ON a hb e ha = refl
w1_turns b _ a hb e ha = absurd (cc)

w2_turns : (b : List Class) (t : Class) (a : List Class) → Each is_unmarked b → is_unmarked t ≡ true → Each is_unmarked a → is_unmarked (w2_at R b t a) ≡ true
w2_turns b R a hb e ha = refl
w2_turns b AL a hb e ha = refl
w2_turns b ES a hb e ha = refl
w2_turns b ET a hb e ha = refl
w2_turns b CS a hb e ha = refl
w2_turns b B a hb e ha = refl
w2_turns b S a hb e ha = refl
w2_turns b WS a hb e ha = refl
w2_turns b ON a hb e ha = refl
w2_turns b _ a hb e ha = absurd (cc)

w3_turns : (t : Class) → is_unmarked t ≡ true → is_weak (w3_at t) ≡ true
w3_turns R e = refl
w3_turns AL e = refl
w3_turns ES e = refl
w3_turns ET e = refl
w3_turns CS e = refl
w3_turns B e = refl
w3_turns S e = refl
w3_turns WS e = refl
w3_turns ON e = refl
w3_turns _ e = absurd (cc)

-- no number is adjacent to a separator
no_number : (b : List Class) → Each is_weak b → (is_en (beside b) ≡ false) × (is_an (beside b) ≡ false)
no_number [] h = (refl, refl)
no_number (R ∷ b) h = (refl, refl)
no_number (ES ∷ b) h = (refl, refl)
no_number (ET ∷ b) h = (refl, refl)
no_number (CS ∷ b) h = (refl, refl)
no_number (B ∷ b) h = (refl, refl)
no_number (S ∷ b) h = (refl, refl)
no_number (WS ∷ b) h = (refl, refl)
no_number (ON ∷ b) h = (refl, refl)
no_number (t ∷ b) h = let e : is_weak t ≡ true = h.0 in absurd (cc)

es_turns : (x y : Bool) → x ≡ false → is_weak (elim (x && y) as (λ z. Class) [ true ↦ EN | false ↦ ES ]) ≡ true
es_turns false y e = refl
es_turns true y e = absurd (cc)

abbrev separator_of : Bool → Class
separator_of v = elim v as (λ x. Class) [ true ↦ AN | false ↦ CS ]

cs_turns : (x y v w : Bool) → x ≡ false → v ≡ false → is_weak (elim (x && y) as (λ z. Class) [ true ↦ EN | false ↦ separator_of (v && w) ]) ≡ true
cs_turns false y false w e f = refl
cs_turns false y true w e f = absurd (cc)
cs_turns true y v w e f = absurd (cc)

w4_turns : (b : List Class) (t : Class) (a : List Class) → Each is_weak b → is_weak t ≡ true → Each is_weak a → is_weak (w4_at b t a) ≡ true
w4_turns b ES a hb e ha = es_turns (is_en (beside b)) (is_en (beside a)) (no_number b hb).0
w4_turns b CS a hb e ha = cs_turns (is_en (beside b)) (is_en (beside a)) (is_an (beside b)) (is_an (beside a)) (no_number b hb).0 (no_number b hb).1
w4_turns b R a hb e ha = refl
w4_turns b ET a hb e ha = refl
w4_turns b B a hb e ha = refl
w4_turns b S a hb e ha = refl
w4_turns b WS a hb e ha = refl
w4_turns b ON a hb e ha = refl
w4_turns b _ a hb e ha = absurd (cc)

-- no number is adjacent to a run of ET
no_en_past : (b : List Class) → Each is_weak b → is_en_past b ≡ false
no_en_past [] h = refl
no_en_past (ET ∷ b) h = no_en_past b h.1
no_en_past (R ∷ b) h = refl
no_en_past (ES ∷ b) h = refl
no_en_past (CS ∷ b) h = refl
no_en_past (B ∷ b) h = refl
no_en_past (S ∷ b) h = refl
no_en_past (WS ∷ b) h = refl
no_en_past (ON ∷ b) h = refl
no_en_past (t ∷ b) h = let e : is_weak t ≡ true = h.0 in absurd (cc)

et_turns : (x y : Bool) → x ≡ false → y ≡ false → is_weak (terminator_of x y) ≡ true
et_turns false false e f = refl
et_turns false true e f = absurd (cc)
et_turns true y e f = absurd (cc)

w5_turns : (b : List Class) (t : Class) (a : List Class) → Each is_weak b → is_weak t ≡ true → Each is_weak a → is_weak (w5_at b t a) ≡ true
w5_turns b ET a hb e ha = et_turns (is_en_past b) (is_en_past a) (no_en_past b hb) (no_en_past a ha)
w5_turns b R a hb e ha = refl
w5_turns b ES a hb e ha = refl
w5_turns b CS a hb e ha = refl
w5_turns b B a hb e ha = refl
w5_turns b S a hb e ha = refl
w5_turns b WS a hb e ha = refl
w5_turns b ON a hb e ha = refl
w5_turns b _ a hb e ha = absurd (cc)

w6_turns : (t : Class) → is_weak t ≡ true → is_rest (w6_at t) ≡ true
w6_turns R e = refl
w6_turns ES e = refl
w6_turns ET e = refl
w6_turns CS e = refl
w6_turns B e = refl
w6_turns S e = refl
w6_turns WS e = refl
w6_turns ON e = refl
w6_turns _ e = absurd (cc)

w7_turns : (b : List Class) (t : Class) (a : List Class) → Each is_rest b → is_rest t ≡ true → Each is_rest a → is_rest (w7_at R b t a) ≡ true
w7_turns b R a hb e ha = refl
w7_turns b B a hb e ha = refl
w7_turns b S a hb e ha = refl
w7_turns b WS a hb e ha = refl
w7_turns b ON a hb e ha = refl
w7_turns b _ a hb e ha = absurd (cc)

weak_plain : (ts : List Class) → Each is_plain_right ts → Each is_rest (weak R ts)
weak_plain ts h =
    let t1 : List Class = w1 R ts in
    let t2 : List Class = w2 R t1 in
    let t3 : List Class = w3 t2 in
    let t4 : List Class = w4 t3 in
    let t5 : List Class = w5 t4 in
    let a : Each is_unmarked t1 = each_by_rule is_plain_right is_unmarked (w1_at R) w1_turns [] ts tt h in
    let b : Each is_unmarked t2 = each_by_rule is_unmarked is_unmarked (w2_at R) w2_turns [] t1 tt a in
    let c : Each is_weak t3 = each_map is_unmarked is_weak w3_at w3_turns t2 b in
    let d : Each is_weak t4 = each_by_rule is_weak is_weak w4_at w4_turns [] t3 tt c in
    let e : Each is_weak t5 = each_by_rule is_weak is_weak w5_at w5_turns [] t4 tt d in
    let f : Each is_rest (w6 t5) = each_map is_weak is_rest w6_at w6_turns t5 e in
    each_by_rule is_rest is_rest (w7_at R) w7_turns [] (w6 t5) tt f

-- none of these rises
level_one : (ts : List Class) → Each is_rest ts → implicit 1 ts ≡ replicate (length ts) 1
level_one [] h = refl
level_one (R ∷ ts) h = ap (λ ls. 1 ∷ ls) (level_one ts h.1)
level_one (B ∷ ts) h = ap (λ ls. 1 ∷ ls) (level_one ts h.1)
level_one (S ∷ ts) h = ap (λ ls. 1 ∷ ls) (level_one ts h.1)
level_one (WS ∷ ts) h = ap (λ ls. 1 ∷ ls) (level_one ts h.1)
level_one (ON ∷ ts) h = ap (λ ls. 1 ∷ ls) (level_one ts h.1)
level_one (t ∷ ts) h = let e : is_rest t ≡ true = h.0 in absurd (cc)

from_right : (t : Class) → is_plain_right t ≡ true → is_from_right t ≡ true
from_right R e = refl
from_right AL e = refl
from_right ES e = refl
from_right ET e = refl
from_right CS e = refl
from_right NSM e = refl
from_right B e = refl
from_right S e = refl
from_right WS e = refl
from_right ON e = refl
from_right _ e = absurd (cc)

all_from_right : (ts : List Class) → Each is_plain_right ts → Each is_from_right ts
all_from_right [] h = tt
all_from_right (t ∷ ts) h = (from_right t h.0, all_from_right ts h.1)

pub plain_right_sequence : (ucd : Data) (chars : List ℕ) (ts : List Class) → Each is_plain_right ts
    → sequence_levels ucd 1 R R chars ts ≡ replicate (length ts) 1
plain_right_sequence ucd chars ts h =
    right_sequence ucd chars ts (all_from_right ts h) ∙ level_one (weak R ts) (weak_plain ts h) ∙ ap (λ n. replicate n 1) (weak_length R ts)
