-- Worked examples: what options give, from what their clauses say alone, whatever clap matched.
use Rattle.std.proofs.Common.{◌≡◌, ℕ, List, refl, ap, ◌∙◌, arith, slice_index}
use Rattle.std.specs.Borrow.{Bor}
use Rattle.std.specs.Prelude.{codes, Option, Some, None}
use Rattle.std.specs.Str.Parse.{digits_value, without_leading_plus}
use Rattle.clap.specs.Words.{Row}
use Rattle.bx_common.specs.Directions.{word_of}
use Rattle.bx_common.specs.declared.base.Base.{Base}
use Rattle.bx_common.specs.declared.base.Base.TheVariants.{Auto, Ltr, Rtl}
use Rattle.bx_command.specs.shared.Arguments.{GivesDirection, GivesPaths, IsSideIn, value_in}
use Rattle.bx_command.specs.declared.shared.unicode.UnicodeFiles.{UnicodeFiles}

same_text : (option : Option (List ℕ)) (left right : List ℕ) → option ≡ Some left → option ≡ Some right → left ≡ right
same_text option left right a b = cc

same_first : (left right : List ℕ) → left ≡ right → slice_index left 0 ≡ slice_index right 0
same_first left right is = ap (λ word. slice_index word 0) is

rtl_names : (base : Base) → codes "rtl" ≡ word_of base → base ≡ Rtl
rtl_names Auto is = let no : 114 ≡ 97 = same_first (codes "rtl") (codes "auto") is in absurd (omega (arith, no))
rtl_names Ltr is = let no : 114 ≡ 108 = same_first (codes "rtl") (codes "ltr") is in absurd (omega (arith, no))
rtl_names Rtl is = refl

-- --direction rtl gives Rtl
pub rtl_is_given : (rows : List Row) (direction : Option Base) → GivesDirection rows direction
    → value_in rows (codes "direction") ≡ Some (codes "rtl") → direction ≡ Some Rtl
rtl_is_given rows None none is = absurd (none Rtl is)
rtl_is_given rows (Some base) names is =
    ap Some (rtl_names base (same_text (value_in rows (codes "direction")) (codes "rtl") (word_of base) is names))

-- --rows +80 gives 80
pub eighty_is_given : (rows : List Row) (n : ℕ) → IsSideIn rows (codes "rows") n
    → value_in rows (codes "rows") ≡ Some (codes "+80") → n ≡ 80
eighty_is_given rows n given is =
    given.value
    ∙ ap (λ text. digits_value 10 (without_leading_plus text))
    (same_text (value_in rows (codes "rows")) given.text (codes "+80") given.is_text is)

no_text : (option : Option (List ℕ)) (text : List ℕ) → option ≡ None → ¬ (option ≡ Some text)
no_text option text none some = absurd (cc)

-- without --brackets there are no paths
pub brackets_are_required : (rows : List Row) (paths : Option (UnicodeFiles (Bor (List ℕ)))) → GivesPaths rows paths
    → value_in rows (codes "brackets") ≡ None → paths ≡ None
brackets_are_required rows None given missing = refl
brackets_are_required rows (Some paths) given missing =
    absurd (no_text (value_in rows (codes "brackets")) paths.brackets.now missing given.brackets)
