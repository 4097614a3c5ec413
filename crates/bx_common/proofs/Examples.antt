-- Worked examples: the words of base directions.
use Rattle.std.proofs.Common.{◌≡◌, ℕ, List, refl, ap, arith, slice_index}
use Rattle.std.specs.Prelude.{codes, Result, Ok, Err}
use Rattle.bx_common.specs.Directions.{NamesBase}
use Rattle.bx_common.specs.declared.base.Base.{Base}
use Rattle.bx_common.specs.declared.base.Base.TheVariants.{Auto, Ltr, Rtl}

same_first : (left right : List ℕ) → left ≡ right → slice_index left 0 ≡ slice_index right 0
same_first left right is = ap (λ word. slice_index word 0) is

-- whatever reads words so reads "rtl" as Rtl
pub rtl_is_read_from_right_to_left : {E : Type 0} (named : Result Base E) → NamesBase (codes "rtl") named → named ≡ Ok Rtl
rtl_is_read_from_right_to_left (Ok Auto) is = let no : 114 ≡ 97 = same_first (codes "rtl") (codes "auto") is in absurd (omega (arith, no))
rtl_is_read_from_right_to_left (Ok Ltr) is = let no : 114 ≡ 108 = same_first (codes "rtl") (codes "ltr") is in absurd (omega (arith, no))
rtl_is_read_from_right_to_left (Ok Rtl) is = refl
rtl_is_read_from_right_to_left (Err e) none = absurd (none Rtl refl)

-- a word in capitals names none
pub capitals_are_refused : {E : Type 0} (e : E) → NamesBase (codes "LTR") (Err e)
capitals_are_refused e Auto is = let no : 76 ≡ 97 = same_first (codes "LTR") (codes "auto") is in omega (arith, no)
capitals_are_refused e Ltr is = let no : 76 ≡ 108 = same_first (codes "LTR") (codes "ltr") is in omega (arith, no)
capitals_are_refused e Rtl is = let no : 76 ≡ 114 = same_first (codes "LTR") (codes "rtl") is in omega (arith, no)
