-- W1 to W7, over the types of a sequence. Of a type `t`, `before` are the types before it and `after` those after it, each list from the
-- nearest on. `wN_at` is the type that rule WN makes of `t`, `wN` the types that it makes of all.
use Rattle.std.specs.Prelude.{◌&&◌, Bool, true, false, List, [], ◌∷◌, map}
use Rattle.bx_ucd.specs.declared.class.Class.{Class}
use Rattle.bx_ucd.specs.declared.class.Class.TheVariants.{L, R, AL, EN, ES, ET, AN, CS, ON, LRI, RLI, FSI, PDI}
use Rattle.bx_ucd.specs.Class.{is_strong, is_nsm}

-- `before` has the types before the index, the nearest first, and `after` those after it, the nearest first
abbrev pub at_each : (List Class → Class → List Class → Class) → List Class → List Class → List Class
at_each rule before [] = []
at_each rule before (t ∷ after) = rule before t after ∷ at_each rule (t ∷ before) after

abbrev pub is_en : Class → Bool
is_en EN = true
is_en _ = false

abbrev pub is_an : Class → Bool
is_an AN = true
is_an _ = false

abbrev pub is_et : Class → Bool
is_et ET = true
is_et _ = false

abbrev pub is_left_or_right : Class → Bool
is_left_or_right L = true
is_left_or_right R = true
is_left_or_right _ = false

-- the first type of a list, nearest first, that passes the test, or `sos`
abbrev pub nearest_that : (Class → Bool) → Class → List Class → Class
nearest_that p sos [] = sos
nearest_that p sos (t ∷ ts) = elim (p t) [ true ↦ t | false ↦ nearest_that p sos ts ]

-- W1: an NSM takes the type of the previous character, or ON after an isolate initiator or PDI
abbrev pub nsm_class_after : Class → Class
nsm_class_after LRI = ON
nsm_class_after RLI = ON
nsm_class_after FSI = ON
nsm_class_after PDI = ON
nsm_class_after t = t

-- the type of an NSM, by the nearest character before it that is not an NSM
abbrev pub nsm_class_at : Class → List Class → Class
nsm_class_at sos [] = sos
nsm_class_at sos (t ∷ before) = elim (is_nsm t) [ true ↦ nsm_class_at sos before | false ↦ nsm_class_after t ]

abbrev pub w1_at : Class → List Class → Class → List Class → Class
w1_at sos before t after = elim (is_nsm t) [ true ↦ nsm_class_at sos before | false ↦ t ]

-- W2: an EN changes to AN if the first strong type before it is AL
abbrev pub number_after : Class → Class
number_after AL = AN
number_after _ = EN

abbrev pub w2_at : Class → List Class → Class → List Class → Class
w2_at sos before t after = elim (is_en t) [ true ↦ number_after (nearest_that is_strong sos before) | false ↦ t ]

-- W3: AL changes to R
abbrev pub w3_at : Class → Class
w3_at AL = R
w3_at t = t

-- the adjacent type, or ON at the end of the sequence
abbrev pub beside : List Class → Class
beside [] = ON
beside (t ∷ ts) = t

-- W4: a single ES between two EN changes to EN; a single CS between two numbers of the same type changes to that type. `b` is the type
-- before, `a` the type after
abbrev pub separator : Class → Class → Class → Class
separator b ES a = elim (is_en b && is_en a) [ true ↦ EN | false ↦ ES ]
separator b CS a = elim (is_en b && is_en a) [ true ↦ EN | false ↦ elim (is_an b && is_an a) [ true ↦ AN | false ↦ CS ] ]
separator b t a = t

abbrev pub w4_at : List Class → Class → List Class → Class
w4_at before t after = separator (beside before) t (beside after)

-- the first type other than ET, in a list from the nearest on, is EN
abbrev pub is_en_past : List Class → Bool
is_en_past [] = false
is_en_past (t ∷ ts) = elim (is_et t) [ true ↦ is_en_past ts | false ↦ is_en t ]

-- W5: a run of ET adjacent to an EN changes to EN; whether one is before the run, and whether one is after it
abbrev pub terminator_of : Bool → Bool → Class
terminator_of true _ = EN
terminator_of false true = EN
terminator_of false false = ET

abbrev pub w5_at : List Class → Class → List Class → Class
w5_at before t after = elim (is_et t) [ true ↦ terminator_of (is_en_past before) (is_en_past after) | false ↦ t ]

-- W6: remaining separators and terminators change to ON
abbrev pub w6_at : Class → Class
w6_at ES = ON
w6_at ET = ON
w6_at CS = ON
w6_at t = t

-- W7: an EN changes to L if the first strong type before it is L
abbrev pub left_number : Class → Class
left_number L = L
left_number _ = EN

abbrev pub w7_at : Class → List Class → Class → List Class → Class
w7_at sos before t after = elim (is_en t) [ true ↦ left_number (nearest_that is_left_or_right sos before) | false ↦ t ]

-- each rule over the whole list
abbrev pub w1 : Class → List Class → List Class
w1 sos ts = at_each (w1_at sos) [] ts

abbrev pub w2 : Class → List Class → List Class
w2 sos ts = at_each (w2_at sos) [] ts

abbrev pub w3 : List Class → List Class
w3 ts = map w3_at ts

abbrev pub w4 : List Class → List Class
w4 ts = at_each w4_at [] ts

abbrev pub w5 : List Class → List Class
w5 ts = at_each w5_at [] ts

abbrev pub w6 : List Class → List Class
w6 ts = map w6_at ts

abbrev pub w7 : Class → List Class → List Class
w7 sos ts = at_each (w7_at sos) [] ts

-- each rule is applied to the result of the one before
abbrev pub weak : Class → List Class → List Class
weak sos ts = w7 sos (w6 (w5 (w4 (w3 (w2 sos (w1 sos ts))))))
