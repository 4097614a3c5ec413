-- The definition of joined letters, computed on small bodies.
use Rattle.std.proofs.Common.{◌≡◌, ℕ, List, [], ◌∷◌, ◌++◌, Option, Some, refl}
use Rattle.std.specs.Prelude.{◌==◌, if◌then◌else◌}
use Rattle.unicode_segmentation.proofs.Computing.{unicode_segmentation}
use Rattle.unicode_width.proofs.Computing.{unicode_width}
use Rattle.bx_common.specs.declared.base.Base.{Base}
use Rattle.bx_common.specs.declared.base.Base.TheVariants.{Auto, Ltr}
use Rattle.bx_ucd.proofs.JoinedTables.{form_line, joined_tables, type_line}
use Rattle.bx_ucd.specs.SmallTables.{class, mirror}
use Rattle.bx_ucd.specs.declared.class.Class.{Class}
use Rattle.bx_ucd.specs.declared.class.Class.TheVariants.{L as Left, R as Right, AN, BN, ON}
use Rattle.bx_ucd.specs.declared.joining.Joining.TheVariants.{R, L, D, C, U, T}
use Rattle.bx_ucd.specs.declared.joining.Form.TheVariants.{Isolated, Initial, Medial, Final}
use Rattle.bx_ucd.specs.declared.joining_file.JoiningEntry.{JoiningEntry}
use Rattle.bx_ucd.specs.declared.characters_file.FormEntry.{FormEntry}
use Rattle.bx_rows_laws.proofs.Computed.{drawn_by, texts}

-- a letter with its forms, another with its final form, a stroke, and a letter without forms
abbrev beh : ℕ
beh = 0x628

abbrev initial : ℕ
initial = 0xfe91

abbrev medial : ℕ
medial = 0xfe92

abbrev final : ℕ
final = 0xfe90

abbrev isolated : ℕ
isolated = 0xfe8f

abbrev alef : ℕ
alef = 0x627

abbrev alef_final : ℕ
alef_final = 0xfe8e

abbrev tatweel : ℕ
tatweel = 0x640

abbrev meem : ℕ
meem = 0x645

abbrev types : List JoiningEntry
types = type_line beh D ∷ type_line alef R ∷ type_line tatweel C ∷ []

abbrev forms : List FormEntry
forms = form_line beh Initial initial ∷ form_line beh Medial medial ∷ form_line beh Final final ∷ form_line alef Final alef_final ∷ []

-- the characters of each row from left to right, with these lines after those above
abbrev shown : (ℕ → Class) → (ℕ → Option ℕ) → List JoiningEntry → List FormEntry → Base → ℕ → List ℕ → List (List ℕ)
shown classes mirrors more_types more_forms base w cs = texts (drawn_by (joined_tables classes mirrors (types ++ more_types) (forms ++ more_forms)) base w cs)

-- the small classes, but one
abbrev with_class : ℕ → Class → ℕ → Class
with_class d other c = if c == d then other else class c

-- the small classes, with the joiners as boundary neutrals
abbrev with_joiners : ℕ → Class
with_joiners c = if c == 0x200c then BN else with_class 0x200d BN c

-- the letter mirrors to another
abbrev with_mirror : ℕ → Option ℕ
with_mirror c = if c == 0x628 then Some 0x78 else mirror c

-- the four forms of a letter that joins on both sides
one_letter : shown class mirror [] [] Auto 5 (beh ∷ []) ≡ ((0x20 ∷ 0x20 ∷ 0x20 ∷ 0x20 ∷ beh ∷ []) ∷ [])
unfolding unicode_segmentation unicode_width
one_letter = refl

two_letters : shown class mirror [] [] Auto 5 (beh ∷ beh ∷ []) ≡ ((0x20 ∷ 0x20 ∷ 0x20 ∷ final ∷ initial ∷ []) ∷ [])
unfolding unicode_segmentation unicode_width
two_letters = refl

three_letters : shown class mirror [] [] Auto 5 (beh ∷ beh ∷ beh ∷ []) ≡ ((0x20 ∷ 0x20 ∷ final ∷ medial ∷ initial ∷ []) ∷ [])
unfolding unicode_segmentation unicode_width
three_letters = refl

four_letters : shown class mirror [] [] Auto 5 (beh ∷ beh ∷ beh ∷ beh ∷ []) ≡ ((0x20 ∷ final ∷ medial ∷ medial ∷ initial ∷ []) ∷ [])
unfolding unicode_segmentation unicode_width
four_letters = refl

-- a letter that joins the one before it alone
right_joining_between : shown class mirror [] [] Auto 5 (beh ∷ alef ∷ beh ∷ []) ≡ ((0x20 ∷ 0x20 ∷ beh ∷ alef_final ∷ initial ∷ []) ∷ [])
unfolding unicode_segmentation unicode_width
right_joining_between = refl

right_joining_twice : shown class mirror [] [] Auto 5 (alef ∷ alef ∷ []) ≡ ((0x20 ∷ 0x20 ∷ 0x20 ∷ alef ∷ alef ∷ []) ∷ [])
unfolding unicode_segmentation unicode_width
right_joining_twice = refl

right_joining_first : shown class mirror [] [] Auto 5 (alef ∷ beh ∷ beh ∷ []) ≡ ((0x20 ∷ 0x20 ∷ final ∷ initial ∷ alef ∷ []) ∷ [])
unfolding unicode_segmentation unicode_width
right_joining_first = refl

-- a stroke joins on both sides and needs no form
join_causing : shown class mirror [] [] Auto 5 (beh ∷ tatweel ∷ beh ∷ []) ≡ ((0x20 ∷ 0x20 ∷ final ∷ tatweel ∷ initial ∷ []) ∷ [])
unfolding unicode_segmentation unicode_width
join_causing = refl

join_causing_first : shown class mirror [] [] Auto 5 (tatweel ∷ alef ∷ []) ≡ ((0x20 ∷ 0x20 ∷ 0x20 ∷ alef_final ∷ tatweel ∷ []) ∷ [])
unfolding unicode_segmentation unicode_width
join_causing_first = refl

-- what joins nowhere is isolated, of whatever type
isolated_alone : shown class mirror [] (form_line beh Isolated isolated ∷ []) Auto 5 (beh ∷ []) ≡ ((0x20 ∷ 0x20 ∷ 0x20 ∷ 0x20 ∷ isolated ∷ []) ∷ [])
unfolding unicode_segmentation unicode_width
isolated_alone = refl

isolated_not_joined : shown class mirror [] (form_line beh Isolated isolated ∷ []) Auto 5 (beh ∷ beh ∷ []) ≡ ((0x20 ∷ 0x20 ∷ 0x20 ∷ final ∷ initial ∷ []) ∷ [])
unfolding unicode_segmentation unicode_width
isolated_not_joined = refl

isolated_beside_others : shown class mirror [] (form_line beh Isolated isolated ∷ []) Auto 5 (beh ∷ 0x78 ∷ beh ∷ []) ≡ ((0x20 ∷ 0x20 ∷ isolated ∷ 0x78 ∷ isolated ∷ []) ∷ [])
unfolding unicode_segmentation unicode_width
isolated_beside_others = refl

isolated_after_right_joining : shown class mirror [] (form_line beh Isolated isolated ∷ []) Auto 5 (beh ∷ alef ∷ beh ∷ []) ≡ ((0x20 ∷ 0x20 ∷ isolated ∷ alef_final ∷ initial ∷ []) ∷ [])
unfolding unicode_segmentation unicode_width
isolated_after_right_joining = refl

-- at an even level nothing is joined
isolated_at_an_even_level : shown class mirror [] (form_line beh Isolated isolated ∷ []) Auto 5 (0x202d ∷ beh ∷ 0x202c ∷ []) ≡ ((0x20 ∷ 0x20 ∷ beh ∷ 0x70 ∷ 0x6f ∷ []) ∷ [])
unfolding unicode_segmentation unicode_width
isolated_at_an_even_level = refl

isolated_in_an_even_paragraph : shown class mirror [] (form_line beh Isolated isolated ∷ []) Ltr 5 (beh ∷ []) ≡ ((isolated ∷ 0x20 ∷ 0x20 ∷ 0x20 ∷ 0x20 ∷ []) ∷ [])
unfolding unicode_segmentation unicode_width
isolated_in_an_even_paragraph = refl

isolated_of_type_u : shown class mirror (type_line beh U ∷ []) (form_line beh Isolated isolated ∷ []) Auto 5 (beh ∷ beh ∷ []) ≡ ((0x20 ∷ 0x20 ∷ 0x20 ∷ isolated ∷ isolated ∷ []) ∷ [])
unfolding unicode_segmentation unicode_width
isolated_of_type_u = refl

isolated_of_type_t : shown class mirror (type_line beh T ∷ []) (form_line beh Isolated isolated ∷ []) Auto 5 (beh ∷ beh ∷ []) ≡ ((0x20 ∷ 0x20 ∷ 0x20 ∷ isolated ∷ isolated ∷ []) ∷ [])
unfolding unicode_segmentation unicode_width
isolated_of_type_t = refl

isolated_of_another_letter : shown class mirror [] (form_line meem Isolated isolated ∷ []) Auto 5 (meem ∷ []) ≡ ((0x20 ∷ 0x20 ∷ 0x20 ∷ 0x20 ∷ isolated ∷ []) ∷ [])
unfolding unicode_segmentation unicode_width
isolated_of_another_letter = refl

-- a form in more columns is not shown
isolated_too_wide : shown class mirror [] (form_line beh Isolated 0x4e16 ∷ []) Auto 5 (beh ∷ []) ≡ ((0x20 ∷ 0x20 ∷ 0x20 ∷ 0x20 ∷ beh ∷ []) ∷ [])
unfolding unicode_segmentation unicode_width
isolated_too_wide = refl

-- types by a line: left joining, transparent, non joining
left_joining : shown class mirror (type_line beh L ∷ []) [] Auto 5 (beh ∷ alef ∷ []) ≡ ((0x20 ∷ 0x20 ∷ 0x20 ∷ alef_final ∷ initial ∷ []) ∷ [])
unfolding unicode_segmentation unicode_width
left_joining = refl

left_joining_twice : shown class mirror (type_line beh L ∷ []) [] Auto 5 (beh ∷ beh ∷ []) ≡ ((0x20 ∷ 0x20 ∷ 0x20 ∷ beh ∷ beh ∷ []) ∷ [])
unfolding unicode_segmentation unicode_width
left_joining_twice = refl

transparent_letter : shown class mirror (type_line 0x78 T ∷ []) [] Auto 5 (beh ∷ 0x78 ∷ beh ∷ []) ≡ ((0x20 ∷ 0x20 ∷ final ∷ 0x78 ∷ initial ∷ []) ∷ [])
unfolding unicode_segmentation unicode_width
transparent_letter = refl

non_joining_mark : shown class mirror (type_line 0x301 U ∷ []) [] Auto 5 (beh ∷ 0x301 ∷ beh ∷ []) ≡ ((0x20 ∷ 0x20 ∷ 0x20 ∷ beh ∷ beh ∷ 0x301 ∷ []) ∷ [])
unfolding unicode_segmentation unicode_width
non_joining_mark = refl

-- a letter without any form counts as non joining
dual_without_forms : shown class mirror (type_line meem D ∷ []) [] Auto 5 (beh ∷ meem ∷ beh ∷ []) ≡ ((0x20 ∷ 0x20 ∷ beh ∷ meem ∷ beh ∷ []) ∷ [])
unfolding unicode_segmentation unicode_width
dual_without_forms = refl

right_without_forms : shown class mirror (type_line meem R ∷ []) [] Auto 5 (beh ∷ meem ∷ []) ≡ ((0x20 ∷ 0x20 ∷ 0x20 ∷ meem ∷ beh ∷ []) ∷ [])
unfolding unicode_segmentation unicode_width
right_without_forms = refl

left_without_forms : shown class mirror (type_line meem L ∷ []) [] Auto 5 (meem ∷ beh ∷ []) ≡ ((0x20 ∷ 0x20 ∷ 0x20 ∷ beh ∷ meem ∷ []) ∷ [])
unfolding unicode_segmentation unicode_width
left_without_forms = refl

-- one form of any kind is enough
dual_with_isolated : shown class mirror (type_line meem D ∷ []) (form_line meem Isolated 0x78 ∷ []) Auto 5 (beh ∷ meem ∷ beh ∷ []) ≡ ((0x20 ∷ 0x20 ∷ final ∷ meem ∷ initial ∷ []) ∷ [])
unfolding unicode_segmentation unicode_width
dual_with_isolated = refl

dual_with_initial : shown class mirror (type_line meem D ∷ []) (form_line meem Initial 0x78 ∷ []) Auto 5 (beh ∷ meem ∷ beh ∷ []) ≡ ((0x20 ∷ 0x20 ∷ final ∷ meem ∷ initial ∷ []) ∷ [])
unfolding unicode_segmentation unicode_width
dual_with_initial = refl

dual_with_final : shown class mirror (type_line meem D ∷ []) (form_line meem Final 0x78 ∷ []) Auto 5 (beh ∷ meem ∷ beh ∷ []) ≡ ((0x20 ∷ 0x20 ∷ final ∷ meem ∷ initial ∷ []) ∷ [])
unfolding unicode_segmentation unicode_width
dual_with_final = refl

dual_with_medial : shown class mirror (type_line meem D ∷ []) (form_line meem Medial 0x78 ∷ []) Auto 5 (beh ∷ meem ∷ beh ∷ []) ≡ ((0x20 ∷ 0x20 ∷ final ∷ 0x78 ∷ initial ∷ []) ∷ [])
unfolding unicode_segmentation unicode_width
dual_with_medial = refl

right_with_final : shown class mirror (type_line meem R ∷ []) (form_line meem Final 0x78 ∷ []) Auto 5 (beh ∷ meem ∷ []) ≡ ((0x20 ∷ 0x20 ∷ 0x20 ∷ 0x78 ∷ initial ∷ []) ∷ [])
unfolding unicode_segmentation unicode_width
right_with_final = refl

right_with_initial : shown class mirror (type_line meem R ∷ []) (form_line meem Initial 0x78 ∷ []) Auto 5 (beh ∷ meem ∷ []) ≡ ((0x20 ∷ 0x20 ∷ 0x20 ∷ meem ∷ initial ∷ []) ∷ [])
unfolding unicode_segmentation unicode_width
right_with_initial = refl

left_with_initial : shown class mirror (type_line meem L ∷ []) (form_line meem Initial 0x78 ∷ []) Auto 5 (meem ∷ beh ∷ []) ≡ ((0x20 ∷ 0x20 ∷ 0x20 ∷ final ∷ 0x78 ∷ []) ∷ [])
unfolding unicode_segmentation unicode_width
left_with_initial = refl

left_with_final : shown class mirror (type_line meem L ∷ []) (form_line meem Final 0x78 ∷ []) Auto 5 (meem ∷ beh ∷ []) ≡ ((0x20 ∷ 0x20 ∷ 0x20 ∷ final ∷ meem ∷ []) ∷ [])
unfolding unicode_segmentation unicode_width
left_with_final = refl

-- passed over: a mark, isolates, boundary neutrals
across_a_mark : shown class mirror [] [] Auto 5 (beh ∷ 0x301 ∷ beh ∷ []) ≡ ((0x20 ∷ 0x20 ∷ 0x20 ∷ final ∷ initial ∷ 0x301 ∷ []) ∷ [])
unfolding unicode_segmentation unicode_width
across_a_mark = refl

across_isolates : shown class mirror [] [] Auto 5 (beh ∷ 0x2066 ∷ 0x2069 ∷ beh ∷ []) ≡ ((0x20 ∷ final ∷ 0x50 ∷ 0x69 ∷ initial ∷ []) ∷ [])
unfolding unicode_segmentation unicode_width
across_isolates = refl

across_a_neutral : shown (with_class 0x200b BN) mirror [] [] Auto 5 (beh ∷ 0x200b ∷ beh ∷ []) ≡ ((0x20 ∷ 0x20 ∷ final ∷ 0x7e ∷ initial ∷ []) ∷ [])
unfolding unicode_segmentation unicode_width
across_a_neutral = refl

not_across_another : shown (with_class 0x200b ON) mirror [] [] Auto 5 (beh ∷ 0x200b ∷ beh ∷ []) ≡ ((0x20 ∷ 0x20 ∷ beh ∷ 0x7e ∷ beh ∷ []) ∷ [])
unfolding unicode_segmentation unicode_width
not_across_another = refl

-- a control parts letters
not_across_a_control : shown class mirror [] [] Auto 5 (beh ∷ 0x1 ∷ beh ∷ []) ≡ ((0x20 ∷ 0x20 ∷ beh ∷ 0x3f ∷ beh ∷ []) ∷ [])
unfolding unicode_segmentation unicode_width
not_across_a_control = refl

not_across_a_line_separator : shown (with_class 0x2028 BN) mirror [] [] Auto 5 (beh ∷ 0x2028 ∷ beh ∷ []) ≡ ((0x20 ∷ 0x20 ∷ beh ∷ 0x3f ∷ beh ∷ []) ∷ [])
unfolding unicode_segmentation unicode_width
not_across_a_line_separator = refl

across_a_control_by_a_line : shown class mirror (type_line 0x1 T ∷ []) [] Auto 5 (beh ∷ 0x1 ∷ beh ∷ []) ≡ ((0x20 ∷ 0x20 ∷ final ∷ 0x3f ∷ initial ∷ []) ∷ [])
unfolding unicode_segmentation unicode_width
across_a_control_by_a_line = refl

-- a direction mark does not
across_rlm : shown class mirror [] [] Auto 5 (beh ∷ 0x200f ∷ beh ∷ []) ≡ ((0x20 ∷ 0x20 ∷ final ∷ 0x7e ∷ initial ∷ []) ∷ [])
unfolding unicode_segmentation unicode_width
across_rlm = refl

not_across_rlm_by_a_line : shown class mirror (type_line 0x200f U ∷ []) [] Auto 5 (beh ∷ 0x200f ∷ beh ∷ []) ≡ ((0x20 ∷ 0x20 ∷ beh ∷ 0x7e ∷ beh ∷ []) ∷ [])
unfolding unicode_segmentation unicode_width
not_across_rlm_by_a_line = refl

across_lrm : shown class mirror [] [] Auto 5 (beh ∷ 0x200e ∷ beh ∷ []) ≡ ((0x20 ∷ 0x20 ∷ final ∷ 0x7e ∷ initial ∷ []) ∷ [])
unfolding unicode_segmentation unicode_width
across_lrm = refl

not_across_lrm_by_a_line : shown class mirror (type_line 0x200e U ∷ []) [] Auto 5 (beh ∷ 0x200e ∷ beh ∷ []) ≡ ((0x20 ∷ 0x20 ∷ beh ∷ 0x7e ∷ beh ∷ []) ∷ [])
unfolding unicode_segmentation unicode_width
not_across_lrm_by_a_line = refl

across_alm : shown class mirror [] [] Auto 5 (beh ∷ 0x61c ∷ beh ∷ []) ≡ ((0x20 ∷ 0x20 ∷ final ∷ 0x7e ∷ initial ∷ []) ∷ [])
unfolding unicode_segmentation unicode_width
across_alm = refl

not_across_alm_by_a_line : shown class mirror (type_line 0x61c U ∷ []) [] Auto 5 (beh ∷ 0x61c ∷ beh ∷ []) ≡ ((0x20 ∷ 0x20 ∷ beh ∷ 0x7e ∷ beh ∷ []) ∷ [])
unfolding unicode_segmentation unicode_width
not_across_alm_by_a_line = refl

-- a direction mark of a lower level parts letters, of whatever forms
abbrev with_lrm : ℕ → Class
with_lrm c = with_class 0x200e Left c

parted_by_lrm : shown with_lrm mirror [] [] Auto 5 (0x78 ∷ beh ∷ 0x200e ∷ beh ∷ []) ≡ ((0x78 ∷ beh ∷ 0x7e ∷ beh ∷ 0x20 ∷ []) ∷ [])
unfolding unicode_segmentation unicode_width
parted_by_lrm = refl

isolated_by_lrm : shown with_lrm mirror [] (form_line beh Isolated isolated ∷ []) Auto 5 (0x78 ∷ beh ∷ 0x200e ∷ beh ∷ []) ≡ ((0x78 ∷ isolated ∷ 0x7e ∷ isolated ∷ 0x20 ∷ []) ∷ [])
unfolding unicode_segmentation unicode_width
isolated_by_lrm = refl

parted_by_lrm_and_a_mark : shown with_lrm mirror [] [] Auto 5 (0x78 ∷ beh ∷ 0x301 ∷ 0x200e ∷ beh ∷ []) ≡ ((0x78 ∷ beh ∷ 0x301 ∷ 0x7e ∷ beh ∷ 0x20 ∷ []) ∷ [])
unfolding unicode_segmentation unicode_width
parted_by_lrm_and_a_mark = refl

-- one of their level, or of a higher level, or that X9 removes, does not
across_rlm_of_one_level : shown (with_class 0x200f Right) mirror [] [] Auto 5 (0x78 ∷ beh ∷ 0x200f ∷ beh ∷ []) ≡ ((0x78 ∷ final ∷ 0x7e ∷ initial ∷ 0x20 ∷ []) ∷ [])
unfolding unicode_segmentation unicode_width
across_rlm_of_one_level = refl

across_lrm_of_a_higher_level : shown with_lrm mirror [] [] Auto 5 (beh ∷ 0x200e ∷ beh ∷ []) ≡ ((0x20 ∷ 0x20 ∷ final ∷ 0x7e ∷ initial ∷ []) ∷ [])
unfolding unicode_segmentation unicode_width
across_lrm_of_a_higher_level = refl

across_a_removed_mark : shown (with_class 0x200e BN) mirror [] [] Auto 5 (0x78 ∷ beh ∷ 0x200e ∷ beh ∷ []) ≡ ((0x78 ∷ final ∷ 0x7e ∷ initial ∷ 0x20 ∷ []) ∷ [])
unfolding unicode_segmentation unicode_width
across_a_removed_mark = refl

-- under an override all have one level: even, or odd
lrm_under_lro : shown with_lrm mirror [] [] Auto 7 (0x78 ∷ 0x202d ∷ beh ∷ 0x200e ∷ beh ∷ 0x202c ∷ []) ≡ ((0x78 ∷ 0x6f ∷ beh ∷ 0x7e ∷ beh ∷ 0x70 ∷ 0x20 ∷ []) ∷ [])
unfolding unicode_segmentation unicode_width
lrm_under_lro = refl

lrm_under_rlo : shown with_lrm mirror [] [] Auto 7 (0x78 ∷ 0x202e ∷ beh ∷ 0x200e ∷ beh ∷ 0x202c ∷ []) ≡ ((0x78 ∷ 0x4f ∷ 0x70 ∷ final ∷ 0x7e ∷ initial ∷ 0x20 ∷ []) ∷ [])
unfolding unicode_segmentation unicode_width
lrm_under_rlo = refl

-- in a left-to-right isolate the mark has a lower level, in a right-to-left one a higher; one between the letters has a higher
lrm_in_lri : shown with_lrm mirror [] [] Auto 7 (0x78 ∷ 0x2066 ∷ beh ∷ 0x200e ∷ beh ∷ 0x2069 ∷ []) ≡ ((0x78 ∷ 0x69 ∷ beh ∷ 0x7e ∷ beh ∷ 0x50 ∷ 0x20 ∷ []) ∷ [])
unfolding unicode_segmentation unicode_width
lrm_in_lri = refl

lrm_in_rli : shown with_lrm mirror [] [] Auto 7 (0x78 ∷ 0x2067 ∷ beh ∷ 0x200e ∷ beh ∷ 0x2069 ∷ []) ≡ ((0x78 ∷ 0x49 ∷ final ∷ 0x7e ∷ initial ∷ 0x50 ∷ 0x20 ∷ []) ∷ [])
unfolding unicode_segmentation unicode_width
lrm_in_rli = refl

across_an_isolated_lrm : shown with_lrm mirror [] [] Auto 7 (0x78 ∷ beh ∷ 0x2066 ∷ 0x200e ∷ 0x2069 ∷ beh ∷ []) ≡ ((0x78 ∷ final ∷ 0x50 ∷ 0x7e ∷ 0x69 ∷ initial ∷ 0x20 ∷ []) ∷ [])
unfolding unicode_segmentation unicode_width
across_an_isolated_lrm = refl

-- levels must be equal
levels_differ : shown class mirror [] [] Auto 5 (beh ∷ 0x202e ∷ beh ∷ 0x202c ∷ []) ≡ ((0x20 ∷ 0x70 ∷ beh ∷ 0x4f ∷ beh ∷ []) ∷ [])
unfolding unicode_segmentation unicode_width
levels_differ = refl

levels_equal : shown class mirror [] [] Ltr 5 (beh ∷ 0x202e ∷ beh ∷ 0x202c ∷ []) ≡ ((0x70 ∷ final ∷ 0x4f ∷ initial ∷ 0x20 ∷ []) ∷ [])
unfolding unicode_segmentation unicode_width
levels_equal = refl

isolate_parts : shown class mirror [] [] Auto 5 (beh ∷ 0x2067 ∷ beh ∷ 0x2069 ∷ []) ≡ ((0x20 ∷ 0x50 ∷ beh ∷ 0x49 ∷ beh ∷ []) ∷ [])
unfolding unicode_segmentation unicode_width
isolate_parts = refl

-- levels must be odd, whatever the direction
even_levels : shown class mirror [] [] Auto 5 (0x202d ∷ beh ∷ beh ∷ 0x202c ∷ []) ≡ ((0x20 ∷ beh ∷ beh ∷ 0x70 ∷ 0x6f ∷ []) ∷ [])
unfolding unicode_segmentation unicode_width
even_levels = refl

even_paragraph : shown class mirror [] [] Ltr 5 (beh ∷ beh ∷ []) ≡ ((final ∷ initial ∷ 0x20 ∷ 0x20 ∷ 0x20 ∷ []) ∷ [])
unfolding unicode_segmentation unicode_width
even_paragraph = refl

-- the level of a unit decides what is shown
cluster_at_an_even_level : shown (with_class 0x6dd AN) mirror [] [] Auto 5 (beh ∷ 0x6dd ∷ beh ∷ beh ∷ []) ≡ ((0x20 ∷ final ∷ 0x6dd ∷ beh ∷ beh ∷ []) ∷ [])
unfolding unicode_segmentation unicode_width
cluster_at_an_even_level = refl

-- type U ends a join
parted_by_a_letter : shown class mirror [] [] Auto 5 (beh ∷ 0x78 ∷ beh ∷ []) ≡ ((0x20 ∷ 0x20 ∷ beh ∷ 0x78 ∷ beh ∷ []) ∷ [])
unfolding unicode_segmentation unicode_width
parted_by_a_letter = refl

parted_by_a_digit : shown class mirror [] [] Auto 5 (beh ∷ beh ∷ 0x31 ∷ beh ∷ []) ≡ ((0x20 ∷ beh ∷ 0x31 ∷ final ∷ initial ∷ []) ∷ [])
unfolding unicode_segmentation unicode_width
parted_by_a_digit = refl

parted_by_a_blank : shown class mirror [] [] Auto 5 (beh ∷ 0x20 ∷ beh ∷ []) ≡ ((0x20 ∷ 0x20 ∷ beh ∷ 0x20 ∷ beh ∷ []) ∷ [])
unfolding unicode_segmentation unicode_width
parted_by_a_blank = refl

after_a_latin_letter : shown class mirror [] [] Auto 5 (0x78 ∷ beh ∷ beh ∷ []) ≡ ((0x78 ∷ final ∷ initial ∷ 0x20 ∷ 0x20 ∷ []) ∷ [])
unfolding unicode_segmentation unicode_width
after_a_latin_letter = refl

-- a row's end ends no join
over_a_row_end : shown class mirror [] [] Auto 2 (beh ∷ beh ∷ beh ∷ beh ∷ []) ≡ ((medial ∷ initial ∷ []) ∷ (final ∷ medial ∷ []) ∷ [])
unfolding unicode_segmentation unicode_width
over_a_row_end = refl

-- ZWNJ and ZWJ; a joiner has no level and joins
zwnj : shown with_joiners mirror (type_line 0x200c U ∷ type_line 0x200d C ∷ []) [] Auto 5 (beh ∷ 0x200c ∷ beh ∷ []) ≡ ((0x20 ∷ 0x20 ∷ 0x20 ∷ beh ∷ beh ∷ 0x200c ∷ []) ∷ [])
unfolding unicode_segmentation unicode_width
zwnj = refl

zwj_after : shown with_joiners mirror (type_line 0x200c U ∷ type_line 0x200d C ∷ []) [] Auto 5 (beh ∷ 0x200d ∷ []) ≡ ((0x20 ∷ 0x20 ∷ 0x20 ∷ 0x20 ∷ initial ∷ 0x200d ∷ []) ∷ [])
unfolding unicode_segmentation unicode_width
zwj_after = refl

zwj_before : shown with_joiners mirror (type_line 0x200c U ∷ type_line 0x200d C ∷ []) [] Auto 5 (0x200d ∷ beh ∷ []) ≡ ((0x20 ∷ 0x20 ∷ 0x20 ∷ final ∷ 0x7e ∷ []) ∷ [])
unfolding unicode_segmentation unicode_width
zwj_before = refl

zwj_then_latin : shown with_joiners mirror (type_line 0x200c U ∷ type_line 0x200d C ∷ []) [] Auto 5 (beh ∷ 0x200d ∷ 0x20 ∷ 0x78 ∷ []) ≡ ((0x20 ∷ 0x20 ∷ 0x78 ∷ 0x20 ∷ initial ∷ 0x200d ∷ []) ∷ [])
unfolding unicode_segmentation unicode_width
zwj_then_latin = refl

joiner_by_class : shown with_joiners mirror [] [] Auto 5 (beh ∷ 0x200c ∷ beh ∷ []) ≡ ((0x20 ∷ 0x20 ∷ 0x20 ∷ final ∷ initial ∷ 0x200c ∷ []) ∷ [])
unfolding unicode_segmentation unicode_width
joiner_by_class = refl

-- a form in another number of columns, or in none, or a mark, is not shown
form_too_wide : shown class mirror [] (form_line beh Final 0x4e16 ∷ []) Auto 5 (beh ∷ beh ∷ []) ≡ ((0x20 ∷ 0x20 ∷ 0x20 ∷ beh ∷ initial ∷ []) ∷ [])
unfolding unicode_segmentation unicode_width
form_too_wide = refl

form_without_columns : shown class mirror [] (form_line beh Final 0x301 ∷ []) Auto 5 (beh ∷ beh ∷ []) ≡ ((0x20 ∷ 0x20 ∷ 0x20 ∷ beh ∷ initial ∷ []) ∷ [])
unfolding unicode_segmentation unicode_width
form_without_columns = refl

form_that_is_a_mark : shown class mirror [] (form_line beh Final 0x202b ∷ []) Auto 5 (beh ∷ beh ∷ []) ≡ ((0x20 ∷ 0x20 ∷ 0x20 ∷ beh ∷ initial ∷ []) ∷ [])
unfolding unicode_segmentation unicode_width
form_that_is_a_mark = refl

-- mirrored, then joined by the own character
mirrored_alone : shown class with_mirror [] [] Auto 5 (beh ∷ []) ≡ ((0x20 ∷ 0x20 ∷ 0x20 ∷ 0x20 ∷ 0x78 ∷ []) ∷ [])
unfolding unicode_segmentation unicode_width
mirrored_alone = refl

mirrored_and_joined : shown class with_mirror [] [] Auto 5 (beh ∷ beh ∷ []) ≡ ((0x20 ∷ 0x20 ∷ 0x20 ∷ final ∷ initial ∷ []) ∷ [])
unfolding unicode_segmentation unicode_width
mirrored_and_joined = refl

mirrored_not_joined : shown class with_mirror [] (form_line beh Final 0x4e16 ∷ []) Auto 5 (beh ∷ beh ∷ []) ≡ ((0x20 ∷ 0x20 ∷ 0x20 ∷ 0x78 ∷ initial ∷ []) ∷ [])
unfolding unicode_segmentation unicode_width
mirrored_not_joined = refl

-- the later line wins
later_type : shown class mirror (type_line beh U ∷ []) [] Auto 5 (beh ∷ beh ∷ []) ≡ ((0x20 ∷ 0x20 ∷ 0x20 ∷ beh ∷ beh ∷ []) ∷ [])
unfolding unicode_segmentation unicode_width
later_type = refl

later_form : shown class mirror [] (form_line beh Final 0x78 ∷ []) Auto 5 (beh ∷ beh ∷ []) ≡ ((0x20 ∷ 0x20 ∷ 0x20 ∷ 0x78 ∷ initial ∷ []) ∷ [])
unfolding unicode_segmentation unicode_width
later_form = refl
