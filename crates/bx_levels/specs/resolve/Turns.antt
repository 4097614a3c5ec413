-- W1 to W7 in one pass over a sequence: the state before each character (`Before`, what the types before it decide for it), and the type
-- written for it. `after_wN` is its type after rule WN.
use Rattle.std.specs.Prelude.{Bool, true, false, List, [], ◌∷◌}
use Rattle.bx_ucd.specs.declared.class.Class.{Class}
use Rattle.bx_ucd.specs.declared.class.Class.TheVariants.{L, R, AL, EN, ES, AN, CS, B, S, WS, ON}
use Rattle.bx_levels.specs.declared.resolve.before.Before.{Before}
use Rattle.bx_levels.specs.declared.resolve.before.Strong.{Strong}
use Rattle.bx_levels.specs.declared.resolve.before.Strong.TheVariants.{Left, Right, Arabic}
use Rattle.bx_levels.specs.declared.resolve.before.Neighbour.{Neighbour}
use Rattle.bx_levels.specs.declared.resolve.before.Neighbour.TheVariants.{EuropeanNumber, ArabicNumber, Other}
use Rattle.bx_levels.specs.declared.resolve.before.Terminators.{Terminators}
use Rattle.bx_levels.specs.declared.resolve.before.Terminators.TheVariants.{Numbers, Neutrals, Undecided}
use Rattle.bx_levels.specs.resolve.Weak.{is_en, is_et, nsm_class_after, w3_at, beside, is_en_past, w6_at}
use Rattle.bx_ucd.specs.Class.{is_nsm}

-- the type after W1, where an NSM becomes `nsm_class`, and the `nsm_class` of the next step
abbrev pub after_w1 : Class → Class → Class
after_w1 nsm_class t = elim (is_nsm t) [ true ↦ nsm_class | false ↦ t ]

abbrev pub nsm_class_next : Class → Class → Class
nsm_class_next nsm_class t = elim (is_nsm t) [ true ↦ nsm_class | false ↦ nsm_class_after t ]

-- sos as a strong type
abbrev pub strong_of : Class → Strong
strong_of L = Left
strong_of AL = Arabic
strong_of _ = Right

-- the nearest strong type before the next step: `t`, or else `strong`, the nearest before `t`
abbrev pub strong_next : Strong → Class → Strong
strong_next strong L = Left
strong_next strong R = Right
strong_next strong AL = Arabic
strong_next strong _ = strong

-- the type of an EN after W2, and of any type, where the nearest strong type before it is `strong`
abbrev pub number_by : Strong → Class
number_by Arabic = AN
number_by _ = EN

abbrev pub after_w2 : Strong → Class → Class
after_w2 strong t = elim (is_en t) [ true ↦ number_by strong | false ↦ t ]

-- the types after W3 of the rest, where an NSM at its start becomes `nsm_class` and the nearest strong type before it is `strong`
abbrev pub rest_after_w3 : Class → Strong → List Class → List Class
rest_after_w3 nsm_class strong [] = []
rest_after_w3 nsm_class strong (t ∷ ts) = w3_at (after_w2 strong (after_w1 nsm_class t)) ∷ rest_after_w3 (nsm_class_next nsm_class t) (strong_next strong (after_w1 nsm_class t)) ts

-- what a type after W3 is to a separator behind it
abbrev pub neighbour_of : Class → Neighbour
neighbour_of EN = EuropeanNumber
neighbour_of AN = ArabicNumber
neighbour_of _ = Other

-- the types that W4 may change
abbrev pub is_separator : Class → Bool
is_separator ES = true
is_separator CS = true
is_separator _ = false

-- the type after W4 of a type after W3, between its neighbour and the type after W3 that follows
abbrev pub after_w4 : Class → Neighbour → Class → Class
after_w4 ES EuropeanNumber EN = EN
after_w4 CS EuropeanNumber EN = EN
after_w4 CS ArabicNumber AN = AN
after_w4 t _ _ = t

-- what the ET of a run become, given what was known and whether an EN follows the run
abbrev pub decided : Terminators → Bool → Terminators
decided Numbers _ = Numbers
decided Neutrals _ = Neutrals
decided Undecided true = Numbers
decided Undecided false = Neutrals

-- once a type `t` after W4 is read, what the ET of a run at it or after it become, where `rest` has the types after W3 behind it
abbrev pub terminators_next : Terminators → Class → List Class → Terminators
terminators_next terminators t rest =
    elim (is_et t) [ true ↦ decided terminators (is_en_past rest) | false ↦ elim (is_en t) [ true ↦ Numbers | false ↦ Undecided ] ]

-- the type of an ET after W5 and W6, and of any type
abbrev pub terminator_by : Terminators → Class
terminator_by Numbers = EN
terminator_by _ = ON

abbrev pub after_w6 : Terminators → Class → Class
after_w6 terminators t = elim (is_et t) [ true ↦ terminator_by terminators | false ↦ w6_at t ]

-- the type of an EN after W7, and of any type, where the nearest strong type before it is `strong`
abbrev pub left_number_by : Strong → Class
left_number_by Left = L
left_number_by _ = EN

abbrev pub after_w7 : Strong → Class → Class
after_w7 strong t = elim (is_en t) [ true ↦ left_number_by strong | false ↦ t ]

-- the state before the first character, where sos counts as the type before it
abbrev pub begin : Class → Before
begin sos = record { nsm_class = sos; strong = strong_of sos; neighbour = Other; terminators = Undecided }

-- the step of a type `t` after W4, where `behind` has the types after W3 that follow it, and `before` already has `nsm_class` and the strong
-- type of the next step: the next state, and the type written
abbrev pub next_fourth : Before → Class → List Class → Before
next_fourth before t behind = record before { terminators = terminators_next before.terminators t behind }

abbrev pub written_fourth : Before → Class → List Class → Class
written_fourth before t behind = after_w7 before.strong (after_w6 (terminators_next before.terminators t behind) t)

-- the step of a type `t` after W3, with `behind` and `before` as in `next_fourth`: the next state, and the type written
abbrev pub next_third : Before → Class → List Class → Before
next_third before t behind =
    next_fourth (record before { neighbour = neighbour_of t }) (after_w4 t before.neighbour (beside behind)) behind

abbrev pub written_third : Before → Class → List Class → Class
written_third before t behind = written_fourth before (after_w4 t before.neighbour (beside behind)) behind

-- the type `t` after W3
abbrev pub third : Before → Class → Class
third before t = w3_at (after_w2 before.strong (after_w1 before.nsm_class t))

-- the state with `nsm_class` and the strong type of the next step, after the type `t`
abbrev pub moved : Before → Class → Before
moved before t = record before { nsm_class = nsm_class_next before.nsm_class t; strong = strong_next before.strong (after_w1 before.nsm_class t) }

-- the types `rest` after W3, before which the state is `before`
abbrev pub thirds : Before → List Class → List Class
thirds before rest = rest_after_w3 before.nsm_class before.strong rest

-- the whole step of a type `t` with the types `rest` behind it: the next state, and the type written
abbrev pub next : Before → Class → List Class → Before
next before t rest = next_third (moved before t) (third before t) (thirds (moved before t) rest)

abbrev pub written : Before → Class → List Class → Class
written before t rest = written_third (moved before t) (third before t) (thirds (moved before t) rest)

-- the types that W1 to W7 keep, whatever is around them
abbrev pub is_settled : Class → Bool
is_settled L = true
is_settled R = true
is_settled B = true
is_settled S = true
is_settled WS = true
is_settled ON = true
is_settled _ = false
