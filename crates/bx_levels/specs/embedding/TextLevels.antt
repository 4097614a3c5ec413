-- The paragraph levels that a scan from the text's end keeps, to find the direction of each FSI's isolate (X5c).
use Rattle.std.specs.Prelude.{ℕ, Bool, true, false, List, [], ◌∷◌}
use Rattle.bx_ucd.specs.declared.class.Class.{Class}
use Rattle.bx_ucd.specs.declared.class.Class.TheVariants.{L, R, AL, LRI, RLI, FSI, PDI}

-- X5c: the isolate of an FSI takes its direction from its text
abbrev pub is_fsi : Class → Bool
is_fsi FSI = true
is_fsi _ = false

-- A text is cut into parts at each PDI that matches no initiator in it. Each part has its paragraph level in a list, the first part first.
-- With one more character in front of the text: a PDI begins a new part, of level 0; an initiator drops the first part, which is its
-- isolate, so that the second becomes the first; a strong character gives the first part its level

-- the levels without the first part; if it is the only one, an empty part of level 0 is left
abbrev pub rest_levels : List ℕ → List ℕ
rest_levels [] = 0 ∷ []
rest_levels (l ∷ []) = 0 ∷ []
rest_levels (l ∷ m ∷ ls) = m ∷ ls

-- the levels with the level `n` for the first part
abbrev pub with_level : ℕ → List ℕ → List ℕ
with_level n [] = n ∷ []
with_level n (l ∷ ls) = n ∷ ls

-- the levels of the parts with a character of this class in front of the text
abbrev pub levels_before : Class → List ℕ → List ℕ
levels_before PDI ls = 0 ∷ ls
levels_before LRI ls = rest_levels ls
levels_before RLI ls = rest_levels ls
levels_before FSI ls = rest_levels ls
levels_before L ls = with_level 0 ls
levels_before R ls = with_level 1 ls
levels_before AL ls = with_level 1 ls
levels_before _ ls = ls

-- the level of the first part
abbrev pub first_level : List ℕ → ℕ
first_level [] = 0
first_level (l ∷ ls) = l
