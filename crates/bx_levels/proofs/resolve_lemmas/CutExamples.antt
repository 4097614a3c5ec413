-- Why the condition on brackets is needed, computed.
use Rattle.std.proofs.Common.{◌≡◌, ℕ, [], ◌∷◌, refl, Option, Some, None, cond, eqb, true, false}
use Rattle.bx_ucd.specs.Data.{Data}
use Rattle.bx_ucd.specs.declared.class.Class.{Class}
use Rattle.bx_ucd.specs.declared.class.Class.TheVariants.{L, R, ON}
use Rattle.bx_ucd.specs.declared.joining.Joining.TheVariants.{U}
use Rattle.bx_ucd.specs.declared.data.Side.{Side}
use Rattle.bx_ucd.specs.declared.data.Side.TheVariants.{Opener, Closer}
use Rattle.bx_levels.specs.resolve.Levels.{paragraph_levels}
use Rattle.bx_levels.specs.resolve.Edited.{one_way}

-- parentheses; 100 is a letter from right to left, and all else one from left to right
abbrev bracket : ℕ → Option (Side × ℕ)
bracket c = cond (eqb c 40) (Some (Opener, 41)) (cond (eqb c 41) (Some (Closer, 40)) None)

abbrev class : ℕ → Class
class c = cond (eqb c 40) ON (cond (eqb c 41) ON (cond (eqb c 100) R L))

abbrev ucd : Data
ucd = record { class = class; bracket = bracket; mirror = λ _. None; joining = λ _. U; form = λ _ _. None }

-- a(aa) at level 1: the pair takes L only where nothing inside is R
without : paragraph_levels ucd 1 (97 ∷ 40 ∷ 97 ∷ 97 ∷ 41 ∷ []) ≡ Some 2 ∷ Some 2 ∷ Some 2 ∷ Some 2 ∷ Some 2 ∷ []
without = refl

with_one : paragraph_levels ucd 1 (97 ∷ 40 ∷ 97 ∷ 100 ∷ 97 ∷ 41 ∷ []) ≡ Some 2 ∷ Some 1 ∷ Some 2 ∷ Some 1 ∷ Some 2 ∷ Some 1 ∷ []
with_one = refl

refused : one_way L L (R ∷ []) ≡ false
refused = refl

-- between a letter of each direction the same edit changes nothing else
two_ways : one_way L R (R ∷ []) ≡ true
two_ways = refl

around_two_ways : paragraph_levels ucd 1 (97 ∷ 40 ∷ 97 ∷ 100 ∷ 41 ∷ []) ≡ Some 2 ∷ Some 1 ∷ Some 2 ∷ Some 1 ∷ Some 1 ∷ []
around_two_ways = refl

around_two_ways_more : paragraph_levels ucd 1 (97 ∷ 40 ∷ 97 ∷ 100 ∷ 100 ∷ 41 ∷ []) ≡ Some 2 ∷ Some 1 ∷ Some 2 ∷ Some 1 ∷ Some 1 ∷ Some 1 ∷ []
around_two_ways_more = refl
