-- The definitions, computed on small bodies.
use Rattle.std.proofs.Common.{◌≡◌, ℕ, true, false, List, [], ◌∷◌, All, Option, Some, None, map, refl}
use Rattle.std.specs.Prelude.{◌++◌, ◌==◌, if◌then◌else◌, length, reverse, slice_get}
use Rattle.std.specs.Str.{chars}
use Rattle.std.proofs.lemmas.List.Elements.{All-nil, All-cons}
use Rattle.bx_ucd.specs.Data.{Data}
use Rattle.bx_ucd.proofs.JoinedTables.{form_line, joined_tables, type_line}
use Rattle.bx_ucd.specs.declared.class.Class.{Class}
use Rattle.bx_ucd.specs.declared.class.Class.TheVariants.{AL, NSM}
use Rattle.bx_ucd.specs.declared.joining.Joining.{Joining}
use Rattle.bx_ucd.specs.declared.joining.Joining.TheVariants.{R, L, D, C, U, T}
use Rattle.bx_ucd.specs.declared.joining.Form.{Form}
use Rattle.bx_ucd.specs.declared.joining.Form.TheVariants.{Isolated, Initial, Medial, Final}
use Rattle.bx_rows.specs.joining.Joining.{Joiner, body_forms, forms_behind, is_transparent, join, joiners, joins_after, joins_before, neighbour, passed_over, text_forms}
use Rattle.bx_rows.specs.joining.Nearest.{nearest}
use Rattle.bx_rows.specs.joining.JoinedText.{joined_image}
use Rattle.bx_rows.specs.joining.Laws.{FormsGoByJoining, JoiningIsSymmetric}

-- ---- characters by their types

abbrev forms : List Joiner → List Form
forms cs = forms_behind [] cs

-- all of them at a level
abbrev leveled : ℕ → List Joining → List Form
leveled level types = forms (map (λ t. (t, Some level)) types)

alone : leveled 1 (D ∷ []) ≡ Isolated ∷ []
alone = refl

three_letters : leveled 1 (D ∷ D ∷ D ∷ []) ≡ Initial ∷ Medial ∷ Final ∷ []
three_letters = refl

-- a letter that joins back alone ends what it joins
joins_back_alone : leveled 1 (D ∷ R ∷ D ∷ []) ≡ Initial ∷ Final ∷ Isolated ∷ []
joins_back_alone = refl

joins_on_alone : leveled 1 (D ∷ L ∷ D ∷ []) ≡ Isolated ∷ Initial ∷ Final ∷ []
joins_on_alone = refl

-- a non-joiner parts two letters
non_joiner : forms ((D, Some 1) ∷ (U, None) ∷ (D, Some 1) ∷ []) ≡ Isolated ∷ Isolated ∷ Isolated ∷ []
non_joiner = refl

-- a joiner joins the letter before it, and the one after it; X9 removes it, so it has no level
joiner : forms ((D, Some 1) ∷ (C, None) ∷ []) ≡ Initial ∷ Final ∷ []
joiner = refl

joiner_first : forms ((C, None) ∷ (D, Some 1) ∷ []) ≡ Initial ∷ Final ∷ []
joiner_first = refl

joiner_at_even : forms ((D, Some 2) ∷ (C, None) ∷ []) ≡ Isolated ∷ Isolated ∷ []
joiner_at_even = refl

-- two letters join across marks
marks : forms ((D, Some 1) ∷ (T, Some 1) ∷ (T, None) ∷ (D, Some 1) ∷ []) ≡ Initial ∷ Isolated ∷ Isolated ∷ Final ∷ []
marks = refl

-- a direction mark of a lower level parts two letters, even after another mark
lower_between : forms ((D, Some 1) ∷ (T, Some 0) ∷ (D, Some 1) ∷ []) ≡ Isolated ∷ Isolated ∷ Isolated ∷ []
lower_between = refl

lower_behind_a_mark : forms ((D, Some 3) ∷ (T, Some 3) ∷ (T, Some 2) ∷ (T, None) ∷ (D, Some 3) ∷ []) ≡ Isolated ∷ Isolated ∷ Isolated ∷ Isolated ∷ Isolated ∷ []
lower_behind_a_mark = refl

lower_before_a_joiner : forms ((D, Some 1) ∷ (T, Some 0) ∷ (C, None) ∷ []) ≡ Isolated ∷ Isolated ∷ Isolated ∷ []
lower_before_a_joiner = refl

lower_behind_a_joiner : forms ((C, None) ∷ (T, Some 0) ∷ (D, Some 1) ∷ []) ≡ Isolated ∷ Isolated ∷ Isolated ∷ []
lower_behind_a_joiner = refl

-- two letters join across one of their level, or of a higher one, or of none
equal_between : forms ((D, Some 1) ∷ (T, Some 1) ∷ (D, Some 1) ∷ []) ≡ Initial ∷ Isolated ∷ Final ∷ []
equal_between = refl

higher_between : forms ((D, Some 1) ∷ (T, Some 2) ∷ (D, Some 1) ∷ []) ≡ Initial ∷ Isolated ∷ Final ∷ []
higher_between = refl

removed_between : forms ((D, Some 1) ∷ (T, None) ∷ (D, Some 1) ∷ []) ≡ Initial ∷ Isolated ∷ Final ∷ []
removed_between = refl

-- a lower one that is not between them parts nothing
lower_outside : forms ((T, Some 0) ∷ (D, Some 1) ∷ (D, Some 1) ∷ (T, Some 0) ∷ []) ≡ Isolated ∷ Initial ∷ Final ∷ Isolated ∷ []
lower_outside = refl

-- no letters join at an even level, nor at two levels
even_level : leveled 2 (D ∷ D ∷ []) ≡ Isolated ∷ Isolated ∷ []
even_level = refl

two_levels : forms ((D, Some 1) ∷ (D, Some 3) ∷ []) ≡ Isolated ∷ Isolated ∷ []
two_levels = refl

third_level : leveled 3 (D ∷ D ∷ []) ≡ Initial ∷ Final ∷ []
third_level = refl

-- ---- neighbours

first_letter : neighbour ((T, Some 1) ∷ (T, None) ∷ (R, Some 1) ∷ (D, Some 1) ∷ []) ≡ Some (R, Some 1)
first_letter = refl

no_neighbour : neighbour ((T, Some 1) ∷ []) ≡ None
no_neighbour = refl

between : passed_over ((T, Some 1) ∷ (T, None) ∷ (R, Some 1) ∷ (T, Some 0) ∷ (D, Some 1) ∷ []) ≡ (T, Some 1) ∷ (T, None) ∷ []
between = refl

lowest_between : nearest ((T, Some 2) ∷ (T, None) ∷ (T, Some 1) ∷ (R, Some 1) ∷ (T, Some 0) ∷ []) ≡ Some ((R, Some 1), Some 1)
lowest_between = refl

no_level_between : nearest ((T, None) ∷ (R, Some 1) ∷ []) ≡ Some ((R, Some 1), None)
no_level_between = refl

joined : join (D, Some 1) [] (R, Some 1) ≡ true
joined = refl

not_joined : join (R, Some 1) [] (D, Some 1) ≡ false
not_joined = refl

apart : join (D, Some 1) ((T, Some 1) ∷ (T, Some 0) ∷ []) (R, Some 1) ≡ false
apart = refl

-- ---- bodies

-- BEH, which joins on both sides, ALEF, which joins back, and FATHA, which is a mark
abbrev class_of : ℕ → Class
class_of c = if c == 0x64E then NSM else AL

abbrev ucd : Data
ucd = joined_tables class_of (λ _. None) (type_line 0x628 D ∷ type_line 0x627 R ∷ []) (form_line 0x628 Initial 0xFE91 ∷ form_line 0x627 Final 0xFE8E ∷ [])

-- BEH FATHA ALEF, in UTF-8
abbrev word : List ℕ
word = 0xD8 ∷ 0xA8 ∷ 0xD9 ∷ 0x8E ∷ 0xD8 ∷ 0xA7 ∷ []

abbrev at_one : List (Option ℕ)
at_one = Some 1 ∷ Some 1 ∷ Some 1 ∷ []

word_forms : body_forms ucd word at_one ≡ Initial ∷ Isolated ∷ Final ∷ []
unfolding chars
word_forms = refl

-- its last letter, with two characters before it
letter_forms : text_forms ucd word at_one 2 (0xD8 ∷ 0xA7 ∷ []) ≡ Final ∷ []
unfolding chars
letter_forms = refl

-- a letter past the levels is isolated
past_levels : text_forms ucd word (Some 1 ∷ []) 0 word ≡ Isolated ∷ Isolated ∷ Isolated ∷ []
unfolding chars
past_levels = refl

-- the initial form of BEH, FATHA, the final form of ALEF
word_joined : joined_image ucd (body_forms ucd word at_one) word word ≡ 0xEF ∷ 0xBA ∷ 0x91 ∷ 0xD9 ∷ 0x8E ∷ 0xEF ∷ 0xBA ∷ 0x8E ∷ []
unfolding chars lib.Utf8.encode
word_joined = refl

-- BEH LRM BEH
abbrev parted_word : List ℕ
parted_word = 0xD8 ∷ 0xA8 ∷ 0xE2 ∷ 0x80 ∷ 0x8E ∷ 0xD8 ∷ 0xA8 ∷ []

-- the mark at a level
abbrev mark_at : Option ℕ → List (Option ℕ)
mark_at level = Some 1 ∷ level ∷ Some 1 ∷ []

parted_image : joined_image ucd (body_forms ucd parted_word (mark_at (Some 0))) parted_word parted_word ≡ parted_word
unfolding chars lib.Utf8.encode
parted_image = refl

-- ---- by the laws

one_mark : All (λ (c : Joiner). is_transparent c.0 ≡ true) ((T, Some 1) ∷ [])
one_mark = All-cons (λ (c : Joiner). is_transparent c.0 ≡ true) (T, Some 1) [] refl (All-nil (λ (c : Joiner). is_transparent c.0 ≡ true))

-- of two letters with a mark between them, the first joins the second exactly where the second joins the first
across_a_mark : JoiningIsSymmetric → (first second : Option ℕ)
    → joins_after (D, first) ((T, Some 1) ∷ (R, second) ∷ []) ≡ joins_before ((T, Some 1) ∷ (D, first) ∷ []) (R, second)
across_a_mark law first second = law (D, first) (R, second) ((T, Some 1) ∷ []) [] [] refl refl one_mark

-- so too where the mark has any level
across_any_mark : JoiningIsSymmetric → (level : Option ℕ)
    → joins_after (D, Some 1) ((T, level) ∷ (D, Some 1) ∷ []) ≡ joins_before ((T, level) ∷ (D, Some 1) ∷ []) (D, Some 1)
across_any_mark law level =
    law (D, Some 1) (D, Some 1) ((T, level) ∷ []) [] [] refl refl
    (All-cons (λ (c : Joiner). is_transparent c.0 ≡ true) (T, level) [] refl (All-nil (λ (c : Joiner). is_transparent c.0 ≡ true)))

-- around a mark of a lower level both letters are isolated
apart_around_a_mark : FormsGoByJoining → (slice_get (body_forms ucd parted_word (mark_at (Some 0))) 0 ≡ Some Isolated)
    × (slice_get (body_forms ucd parted_word (mark_at (Some 0))) 2 ≡ Some Isolated)
unfolding chars
apart_around_a_mark law = (
  (law ucd parted_word (mark_at (Some 0)) [] ((T, Some 0) ∷ (D, Some 1) ∷ []) (D, Some 1) refl).isolated.1 (refl, refl),
  (law ucd parted_word (mark_at (Some 0)) ((D, Some 1) ∷ (T, Some 0) ∷ []) [] (D, Some 1) refl).isolated.1 (refl, refl),
)

-- around one of their level, of a higher level, or that X9 removes, they join
joined_around_a_mark : FormsGoByJoining → (slice_get (body_forms ucd parted_word (mark_at (Some 1))) 0 ≡ Some Initial)
    × ((slice_get (body_forms ucd parted_word (mark_at (Some 2))) 2 ≡ Some Final) × (slice_get (body_forms ucd parted_word (mark_at None)) 0 ≡ Some Initial))
unfolding chars
joined_around_a_mark law = (
  (law ucd parted_word (mark_at (Some 1)) [] ((T, Some 1) ∷ (D, Some 1) ∷ []) (D, Some 1) refl).initial.1 (refl, refl),
  (
    (law ucd parted_word (mark_at (Some 2)) ((D, Some 1) ∷ (T, Some 2) ∷ []) [] (D, Some 1) refl).final.1 (refl, refl),
    (law ucd parted_word (mark_at None) [] ((T, None) ∷ (D, Some 1) ∷ []) (D, Some 1) refl).initial.1 (refl, refl),
  ),
)

-- a character that has the medial form joins on both sides
both_from_medial : FormsGoByJoining → (before after : List Joiner) (c : Joiner) (body : List ℕ) (each : List (Option ℕ))
    → joiners ucd body each ≡ before ++ c ∷ after → slice_get (body_forms ucd body each) (length before) ≡ Some Medial
    → (joins_before (reverse before) c ≡ true) × (joins_after c after ≡ true)
both_from_medial law before after c body each split form = (law ucd body each before after c split).medial.0 form
