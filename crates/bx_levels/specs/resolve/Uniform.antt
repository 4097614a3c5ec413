-- Tests of classes, by which a text is found to have one level throughout, or no formatting character, so that it needs fewer rules.
use Rattle.std.specs.Prelude.{Bool, true, false, List, [], ◌∷◌}
use Rattle.bx_ucd.specs.declared.class.Class.{Class}
use Rattle.bx_ucd.specs.declared.class.Class.TheVariants.{L, R, AL, EN, ES, ET, AN, CS, NSM, B, S, WS, ON}

-- no explicit rule applies to the class: all but the formatting classes and BN
abbrev pub is_unformatted : Class → Bool
is_unformatted L = true
is_unformatted R = true
is_unformatted AL = true
is_unformatted EN = true
is_unformatted ES = true
is_unformatted ET = true
is_unformatted AN = true
is_unformatted CS = true
is_unformatted NSM = true
is_unformatted B = true
is_unformatted S = true
is_unformatted WS = true
is_unformatted ON = true
is_unformatted _ = false

-- the unformatted classes that keep level 0 in a left-to-right text: all but R, AL and AN
abbrev pub is_plain : Class → Bool
is_plain L = true
is_plain EN = true
is_plain ES = true
is_plain ET = true
is_plain CS = true
is_plain NSM = true
is_plain B = true
is_plain S = true
is_plain WS = true
is_plain ON = true
is_plain _ = false

-- the unformatted classes that keep level 1 in a right-to-left text: all but L, EN and AN
abbrev pub is_plain_right : Class → Bool
is_plain_right R = true
is_plain_right AL = true
is_plain_right ES = true
is_plain_right ET = true
is_plain_right CS = true
is_plain_right NSM = true
is_plain_right B = true
is_plain_right S = true
is_plain_right WS = true
is_plain_right ON = true
is_plain_right _ = false

-- the unformatted classes but L: in a right-to-left text of these every neutral becomes R
abbrev pub is_from_right : Class → Bool
is_from_right R = true
is_from_right AL = true
is_from_right EN = true
is_from_right ES = true
is_from_right ET = true
is_from_right AN = true
is_from_right CS = true
is_from_right NSM = true
is_from_right B = true
is_from_right S = true
is_from_right WS = true
is_from_right ON = true
is_from_right _ = false

-- each class passes the test
abbrev pub all_pass : (Class → Bool) → List Class → Bool
all_pass p [] = true
all_pass p (c ∷ cs) = elim (p c) [ true ↦ all_pass p cs | false ↦ false ]
