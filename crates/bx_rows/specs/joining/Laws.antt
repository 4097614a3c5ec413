-- Laws of letters that join. `ucd` is Unicode's data.
use Rattle.std.specs.Prelude.{◌≡◌, ◌↔◌, ℕ, false, true, All, List, ◌∷◌, ◌++◌, Option, Some, length, reverse, slice_get}
use Rattle.bx_ucd.specs.Data.{Data}
use Rattle.bx_ucd.specs.declared.joining.Form.{Form}
use Rattle.bx_ucd.specs.declared.joining.Form.TheVariants.{Isolated, Initial, Medial, Final}
use Rattle.bx_rows.specs.joining.Joining.{Joiner, body_forms, is_transparent, joiners, joins_after, joins_before}

-- Joining is symmetric: of two characters with only transparent ones between them, the first joins the one after it exactly
-- where the second joins the one before it, whatever levels those between have and whatever is around them.
abbrev pub JoiningIsSymmetric : Type 0
JoiningIsSymmetric = (first second : Joiner) (between before after : List Joiner) → is_transparent first.0 ≡ false → is_transparent second.0 ≡ false
    → All (λ c. is_transparent c.0 ≡ true) between
    → joins_after first (between ++ second ∷ after) ≡ joins_before (reverse between ++ first ∷ before) second

-- the form of a character between those before it and those after it
pub record HasFormBetween (form : Option Form) (before : List Joiner) (c : Joiner) (after : List Joiner) : Type 0 where
  pub medial : (form ≡ Some Medial) ↔ ((joins_before (reverse before) c ≡ true) × (joins_after c after ≡ true))
  pub final : (form ≡ Some Final) ↔ ((joins_before (reverse before) c ≡ true) × (joins_after c after ≡ false))
  pub initial : (form ≡ Some Initial) ↔ ((joins_before (reverse before) c ≡ false) × (joins_after c after ≡ true))
  pub isolated : (form ≡ Some Isolated) ↔ ((joins_before (reverse before) c ≡ false) × (joins_after c after ≡ false))

-- Forms go by what is joined: wherever a body is split, the character there is medial exactly where it joins on both sides,
-- final where it joins the one before it alone, initial where it joins the one after it alone, and isolated where it joins neither.
abbrev pub FormsGoByJoining : Type 0
FormsGoByJoining = (ucd : Data) (body : List ℕ) (each : List (Option ℕ)) (before after : List Joiner) (c : Joiner)
    → joiners ucd body each ≡ before ++ c ∷ after → HasFormBetween (slice_get (body_forms ucd body each) (length before)) before c after
