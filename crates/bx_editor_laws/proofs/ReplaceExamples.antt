-- Worked examples: replacing, with its question, its matches and its undo groups.
use Rattle.std.proofs.Common.{◌≡◌, ℕ, List, [], ◌∷◌, ◌++◌, length, replicate, Option, Some, None, refl}
use Rattle.std.specs.Prelude.{codes, encode_utf8_all}
use Rattle.std.specs.Fmt.{digits}
use Rattle.ucd_case.proofs.Computing.{ucd_case}
use Rattle.unicode_normalization.proofs.Computing.{unicode_normalization}
use Rattle.unicode_segmentation.proofs.Computing.{unicode_segmentation}
use Rattle.unicode_width.proofs.Computing.{unicode_width}
use Rattle.bx_keys.specs.declared.key.Key.{Key}
use Rattle.bx_keys.specs.declared.key.Key.TheVariants.{Insert, Erase, Delete, Copy, Find, FindBack, FindNext, Forward, Mark, Quit, Replace, Repaint, Right, TextEnd, UndoEdit}
use Rattle.bx_keys.specs.declared.key.Key.TheVariants.{Cancel, NewLine, PasteStart, PasteEnd, Redo, Undo}
use Rattle.bx_editor.specs.declared.search_state.SearchPurpose.{SearchPurpose}
use Rattle.bx_editor.specs.declared.search_state.SearchPurpose.TheVariants as purposes
use Rattle.bx_editor.specs.declared.message.Message.{Message}
use Rattle.bx_editor.specs.declared.message.Message.TheVariants.{FromStart, FromEnd, NoLetter, NotFound, Replaced}
use Rattle.bx_editor.specs.declared.search_state.SearchState.{SearchState}
use Rattle.bx_editor.specs.declared.search_state.SearchState.TheVariants.{Off, Begun, Typed, WithBegun, WithTyped, Replacing}
use Rattle.bx_editor.specs.Editor.{Editor}
use Rattle.bx_editor.proofs.Computed.{start, after, letters}

abbrev from : List ℕ → List Key → Editor
from text keys = after (start text 2 60) keys

-- text, place, state, and what is told
abbrev replaced : List ℕ → List Key → List ℕ × ℕ × SearchState × Option Message
replaced text keys = let e = from text keys in (e.content.text, e.place, e.search_state, e.message)

-- state, purpose, place, and the message
abbrev asked : List ℕ → List Key → SearchState × SearchPurpose × ℕ × Option Message
asked text keys = let e = from text keys in (e.search_state, e.purpose, e.place, e.message)

abbrev runs : List ℕ → List Key → List ℕ × ℕ
runs text keys = let e = from text keys in (e.undo_groups, length e.content.past)

-- text, place, mark, and where the search began
abbrev marked : List ℕ → List Key → List ℕ × ℕ × Option ℕ × ℕ
marked text keys = let e = from text keys in (e.content.text, e.place, e.mark, e.origin)

-- place, where the match begins, and how many were replaced
abbrev matched : List ℕ → List Key → ℕ × ℕ × ℕ
matched text keys = let e = from text keys in (e.place, e.at, e.count)

-- state, purpose, and the replacement
abbrev typed : List ℕ → List Key → SearchState × SearchPurpose × List ℕ
typed text keys = let e = from text keys in (e.search_state, e.purpose, e.replacement)

abbrev pub enter : Key
enter = Insert 10

-- what is sought, the replacement, and the first match shown
abbrev pub showing : List ℕ → List ℕ → List Key
showing query other = Replace ∷ letters query ++ (enter ∷ letters other) ++ (enter ∷ [])

-- ---- one by one

pub replace_begins : asked (codes "abcabc") (Replace ∷ []) ≡ (Begun, purposes.Replace, 0, None)
unfolding unicode_segmentation unicode_width digits
replace_begins = refl

pub the_query_is_sought : asked (codes "abcabc") (Replace ∷ letters (codes "b")) ≡ (Typed, purposes.Replace, 1, None)
unfolding unicode_segmentation unicode_width digits
the_query_is_sought = refl

pub enter_asks_for_the_replacement : asked (codes "abcabc") (Replace ∷ letters (codes "b") ++ (enter ∷ [])) ≡ (WithBegun, purposes.Replace, 1, None)
unfolding unicode_segmentation unicode_width digits
enter_asks_for_the_replacement = refl

pub the_replacement_is_typed : asked (codes "abcabc") (Replace ∷ letters (codes "b") ++ (enter ∷ letters (codes "XY"))) ≡ (WithTyped, purposes.Replace, 1, None)
unfolding unicode_segmentation unicode_width digits
the_replacement_is_typed = refl

pub enter_shows_the_match : replaced (codes "abcabc") (showing (codes "b") (codes "XY")) ≡ (codes "abcabc", 1, Replacing, None)
unfolding unicode_segmentation unicode_width digits
enter_shows_the_match = refl

pub enter_replaces_it : replaced (codes "abcabc") (showing (codes "b") (codes "XY") ++ (enter ∷ [])) ≡ (codes "aXYcabc", 5, Replacing, None)
unfolding unicode_segmentation unicode_width digits
enter_replaces_it = refl

pub at_the_last_one_the_number_is_told : replaced (codes "abcabc") (showing (codes "b") (codes "XY") ++ (enter ∷ enter ∷ [])) ≡ (codes "aXYcaXYc", 7, Off, Some (Replaced 2))
unfolding unicode_segmentation unicode_width digits
at_the_last_one_the_number_is_told = refl

pub each_is_a_run_of_two_edits : runs (codes "abcabc") (showing (codes "b") (codes "XY") ++ (enter ∷ enter ∷ [])) ≡ (0 ∷ 2 ∷ [], 4)
unfolding unicode_segmentation unicode_width digits
each_is_a_run_of_two_edits = refl

pub an_edit_is_taken_back : replaced (codes "abcabc") (showing (codes "b") (codes "XY") ++ (enter ∷ enter ∷ UndoEdit ∷ [])) ≡ (codes "aXYcac", 5, Off, None)
unfolding unicode_segmentation unicode_width digits
an_edit_is_taken_back = refl

pub a_run_is_taken_back : replaced (codes "abcabc") (showing (codes "b") (codes "XY") ++ (enter ∷ enter ∷ UndoEdit ∷ Undo ∷ Undo ∷ [])) ≡ (codes "abcabc", 1, Off, None)
unfolding unicode_segmentation unicode_width digits
a_run_is_taken_back = refl

pub a_run_comes_again : replaced (codes "abcabc") (showing (codes "b") (codes "XY") ++ (enter ∷ enter ∷ Undo ∷ Undo ∷ Redo ∷ [])) ≡ (codes "aXYcabc", 3, Off, None)
unfolding unicode_segmentation unicode_width digits
a_run_comes_again = refl

-- ---- one is passed over, and all are replaced

pub one_is_passed_over : replaced (codes "b b b") (showing (codes "b") (codes "x") ++ (Find ∷ enter ∷ [])) ≡ (codes "b x b", 4, Replacing, None)
unfolding unicode_segmentation unicode_width digits unicode_normalization ucd_case
one_is_passed_over = refl

pub the_last_one_is_passed_over : replaced (codes "b b b") (showing (codes "b") (codes "x") ++ (Find ∷ enter ∷ Find ∷ [])) ≡ (codes "b x b", 4, Off, Some (Replaced 1))
unfolding unicode_segmentation unicode_width digits unicode_normalization ucd_case
the_last_one_is_passed_over = refl

pub all_after_some_count_together : replaced (codes "b b b b") (showing (codes "b") (codes "x") ++ (enter ∷ Find ∷ Replace ∷ [])) ≡ (codes "x b x x", 7, Off, Some (Replaced 3))
unfolding unicode_segmentation unicode_width digits unicode_normalization ucd_case
all_after_some_count_together = refl

pub all_from_the_place_on : replaced (codes "b b b") (Forward ∷ Forward ∷ showing (codes "b") (codes "xy") ++ (Replace ∷ [])) ≡ (codes "b xy xy", 7, Off, Some (Replaced 2))
unfolding unicode_segmentation unicode_width digits
all_from_the_place_on = refl

pub all_are_one_run : runs (codes "b b b") (Forward ∷ Forward ∷ showing (codes "b") (codes "xy") ++ (Replace ∷ [])) ≡ (0 ∷ [], 2)
unfolding unicode_segmentation unicode_width digits
all_are_one_run = refl

pub all_are_taken_back_at_once : replaced (codes "b b b") (Forward ∷ Forward ∷ showing (codes "b") (codes "xy") ++ (Replace ∷ []) ++ (Undo ∷ [])) ≡ (codes "b b b", 2, Off, None)
unfolding unicode_segmentation unicode_width digits
all_are_taken_back_at_once = refl

pub all_come_again : replaced (codes "b b b") (Forward ∷ Forward ∷ showing (codes "b") (codes "xy") ++ (Replace ∷ []) ++ (Undo ∷ Redo ∷ [])) ≡ (codes "b xy xy", 7, Off, None)
unfolding unicode_segmentation unicode_width digits
all_come_again = refl

pub all_give_way_to_nothing : replaced (codes "b b") (TextEnd ∷ showing (codes "b") [] ++ (Replace ∷ [])) ≡ (codes " ", 1, Off, Some (Replaced 2))
unfolding unicode_segmentation unicode_width digits
all_give_way_to_nothing = refl

pub what_stood_between_is_put_in : runs (codes "b b") (TextEnd ∷ showing (codes "b") [] ++ (Replace ∷ [])) ≡ (0 ∷ [], 2)
unfolding unicode_segmentation unicode_width digits
what_stood_between_is_put_in = refl

pub nothing_is_put_in : runs (codes "ab") (showing (codes "b") [] ++ (Replace ∷ [])) ≡ (0 ∷ [], 1)
unfolding unicode_segmentation unicode_width digits
nothing_is_put_in = refl

pub each_gives_way_to_nothing : replaced (codes "abab") (showing (codes "a") [] ++ (enter ∷ enter ∷ [])) ≡ (codes "bb", 1, Off, Some (Replaced 2))
unfolding unicode_segmentation unicode_width digits
each_gives_way_to_nothing = refl

pub what_was_put_in_is_not_sought : replaced (codes "aa") (showing (codes "a") (codes "aa") ++ (enter ∷ enter ∷ [])) ≡ (codes "aaaa", 4, Off, Some (Replaced 2))
unfolding unicode_segmentation unicode_width digits
what_was_put_in_is_not_sought = refl

pub nor_by_all : replaced (codes "aa") (showing (codes "a") (codes "aa") ++ (Replace ∷ [])) ≡ (codes "aaaa", 4, Off, Some (Replaced 2))
unfolding unicode_segmentation unicode_width digits
nor_by_all = refl

pub nor_what_comes_together : replaced (codes "aabb") (showing (codes "ab") [] ++ (enter ∷ [])) ≡ (codes "ab", 1, Off, Some (Replaced 1))
unfolding unicode_segmentation unicode_width digits
nor_what_comes_together = refl

pub matches_lie_apart : replaced (codes "aaaaa") (showing (codes "aa") (codes "b") ++ (Replace ∷ [])) ≡ (codes "bba", 2, Off, Some (Replaced 2))
unfolding unicode_segmentation unicode_width digits
matches_lie_apart = refl

pub but_for_one_that_was_passed_over : replaced (codes "aaaaa") (showing (codes "aa") (codes "b") ++ (Find ∷ enter ∷ enter ∷ [])) ≡ (codes "abb", 3, Off, Some (Replaced 2))
unfolding unicode_segmentation unicode_width digits unicode_normalization ucd_case
but_for_one_that_was_passed_over = refl

-- ---- a mark and where the search began

pub an_edit_takes_the_mark : marked (codes "bab") (TextEnd ∷ Mark ∷ showing (codes "a") [] ++ (enter ∷ [])) ≡ (codes "bb", 1, None, 0)
unfolding unicode_segmentation unicode_width digits
an_edit_takes_the_mark = refl

pub until_then_both_stay : marked (codes "bab") (TextEnd ∷ Mark ∷ Replace ∷ letters (codes "a")) ≡ (codes "bab", 1, Some 3, 3)
unfolding unicode_segmentation unicode_width digits
until_then_both_stay = refl

-- ---- matches inside a cluster, with points, strokes and marks

pub points_go_with_a_match :
    replaced (codes "x" ++ (0x5d0 ∷ 0x301 ∷ 0x5d1 ∷ 0x301 ∷ 0x5d2 ∷ [])) (showing (0x5d0 ∷ 0x5d1 ∷ []) (0x5d2 ∷ []) ++ (enter ∷ []))
    ≡ (encode_utf8_all (0x78 ∷ 0x5d2 ∷ 0x5d2 ∷ []), 3, Off, Some (Replaced 1))
unfolding unicode_segmentation unicode_width digits
points_go_with_a_match = refl

pub strokes_behind_a_match_go : replaced (0x628 ∷ 0x640 ∷ 0x628 ∷ 0x640 ∷ 0x79 ∷ []) (showing (0x628 ∷ 0x628 ∷ []) (codes "z") ++ (enter ∷ [])) ≡ (codes "zy", 1, Off, Some (Replaced 1))
unfolding unicode_segmentation unicode_width digits
strokes_behind_a_match_go = refl

pub a_mark_of_direction_behind_it_stays :
    replaced (0x5d0 ∷ 0x200f ∷ 0x5d1 ∷ 0x200f ∷ 0x79 ∷ []) (showing (0x5d0 ∷ 0x5d1 ∷ []) (codes "z") ++ (Replace ∷ []))
    ≡ (encode_utf8_all (0x7a ∷ 0x200f ∷ 0x79 ∷ []), 1, Off, Some (Replaced 1))
unfolding unicode_segmentation unicode_width digits
a_mark_of_direction_behind_it_stays = refl

pub inside_a_cluster : replaced (0x915 ∷ 0x93f ∷ 0x78 ∷ []) (showing (0x93f ∷ []) (codes "k") ++ (enter ∷ [])) ≡ (encode_utf8_all (0x915 ∷ 0x6b ∷ 0x78 ∷ []), 4, Off, Some (Replaced 1))
unfolding unicode_segmentation unicode_width digits
inside_a_cluster = refl

pub the_match_is_behind_the_place : matched (0x915 ∷ 0x93f ∷ 0x93f ∷ 0x78 ∷ []) (showing (0x93f ∷ []) (0x93f ∷ 0x93f ∷ [])) ≡ (0, 3, 0)
unfolding unicode_segmentation unicode_width digits
the_match_is_behind_the_place = refl

pub the_next_in_the_same_cluster : matched (0x915 ∷ 0x93f ∷ 0x93f ∷ 0x78 ∷ []) (showing (0x93f ∷ []) (0x93f ∷ 0x93f ∷ []) ++ (enter ∷ [])) ≡ (0, 9, 1)
unfolding unicode_segmentation unicode_width digits
the_next_in_the_same_cluster = refl

pub two_in_a_cluster :
    replaced (0x915 ∷ 0x93f ∷ 0x93f ∷ 0x78 ∷ []) ((showing (0x93f ∷ []) (0x93f ∷ 0x93f ∷ [])) ++ (enter ∷ enter ∷ []))
    ≡ (encode_utf8_all (0x915 ∷ 0x93f ∷ 0x93f ∷ 0x93f ∷ 0x93f ∷ 0x78 ∷ []), 15, Off, Some (Replaced 2))
unfolding unicode_segmentation unicode_width digits
two_in_a_cluster = refl

pub one_in_a_cluster_is_passed_over :
    replaced (0x915 ∷ 0x93f ∷ 0x93f ∷ 0x78 ∷ []) (showing (0x93f ∷ []) (codes "k") ++ (Find ∷ enter ∷ []))
    ≡ (encode_utf8_all (0x915 ∷ 0x93f ∷ 0x6b ∷ 0x78 ∷ []), 7, Off, Some (Replaced 1))
unfolding unicode_segmentation unicode_width digits unicode_normalization ucd_case
one_in_a_cluster_is_passed_over = refl

pub places_are_the_least : replaced (0x61 ∷ 0x62 ∷ 0x93f ∷ []) (showing (codes "b") (codes "k") ++ (enter ∷ [])) ≡ (encode_utf8_all (0x61 ∷ 0x6b ∷ 0x93f ∷ []), 5, Off, Some (Replaced 1))
unfolding unicode_segmentation unicode_width digits
places_are_the_least = refl

pub the_place_between_them : replaced (0x61 ∷ 0x62 ∷ 0x93f ∷ []) (showing (codes "b") (codes "k") ++ (enter ∷ UndoEdit ∷ [])) ≡ (encode_utf8_all (0x61 ∷ 0x93f ∷ []), 4, Off, None)
unfolding unicode_segmentation unicode_width digits
the_place_between_them = refl

-- ---- the questions

pub the_old_query_and_the_old_replacement : asked (codes "abab") (showing (codes "a") (codes "x") ++ (Replace ∷ Undo ∷ Replace ∷ enter ∷ Replace ∷ [])) ≡ (Replacing, purposes.Replace, 0, None)
unfolding unicode_segmentation unicode_width digits
the_old_query_and_the_old_replacement = refl

pub copy_ends_with_the_number : replaced (codes "abab") (showing (codes "a") (codes "x") ++ (Copy ∷ [])) ≡ (codes "abab", 0, Off, Some (Replaced 0))
unfolding unicode_segmentation unicode_width digits
copy_ends_with_the_number = refl

pub a_letter_takes_the_old_replacements_place : (from (codes "abab") (showing (codes "a") (codes "x") ++ (Copy ∷ Replace ∷ enter ∷ Insert 0x79 ∷ []))).replacement ≡ codes "y"
unfolding unicode_segmentation unicode_width digits
a_letter_takes_the_old_replacements_place = refl

pub an_erase_takes_its_last_letter : typed (codes "abab") (showing (codes "a") (codes "xy") ++ (Copy ∷ Replace ∷ enter ∷ Erase ∷ [])) ≡ (WithTyped, purposes.Replace, codes "x")
unfolding unicode_segmentation unicode_width digits
an_erase_takes_its_last_letter = refl

pub without_letters_nothing_is_asked : asked (codes "abab") (Replace ∷ enter ∷ Replace ∷ []) ≡ (Begun, purposes.Replace, 0, None)
unfolding unicode_segmentation unicode_width digits
without_letters_nothing_is_asked = refl

pub a_query_without_letters : asked (codes "abab") (Replace ∷ Insert 0x301 ∷ enter ∷ []) ≡ (Typed, purposes.Replace, 0, Some NoLetter)
unfolding unicode_segmentation unicode_width digits
a_query_without_letters = refl

pub without_a_match_nothing_is_asked : asked (codes "abab") (Replace ∷ Insert 0x7a ∷ Repaint ∷ enter ∷ []) ≡ (Typed, purposes.Replace, 0, Some NotFound)
unfolding unicode_segmentation unicode_width digits
without_a_match_nothing_is_asked = refl

pub the_old_query_is_sought_from_the_place : asked (codes "abab") (Replace ∷ Insert 0x62 ∷ Quit ∷ Replace ∷ enter ∷ []) ≡ (WithBegun, purposes.Replace, 1, None)
unfolding unicode_segmentation unicode_width digits
the_old_query_is_sought_from_the_place = refl

pub find_back_before_the_question : asked (codes "abab") (Replace ∷ Insert 0x62 ∷ Quit ∷ Replace ∷ Find ∷ FindBack ∷ []) ≡ (Typed, purposes.Replace, 3, Some FromEnd)
unfolding unicode_segmentation unicode_width digits unicode_normalization ucd_case
find_back_before_the_question = refl

pub replace_asks_in_a_search : asked (codes "abab") (Find ∷ Insert 0x62 ∷ Replace ∷ []) ≡ (WithBegun, purposes.Replace, 1, None)
unfolding unicode_segmentation unicode_width digits unicode_normalization ucd_case
replace_asks_in_a_search = refl

pub a_search_without_a_match_is_one_to_replace : asked (codes "abab") (Find ∷ Insert 0x7a ∷ Replace ∷ []) ≡ (Typed, purposes.Replace, 0, Some NotFound)
unfolding unicode_segmentation unicode_width digits unicode_normalization ucd_case
a_search_without_a_match_is_one_to_replace = refl

pub asking_goes_round : asked (codes "b a") (Find ∷ Insert 0x62 ∷ enter ∷ TextEnd ∷ Replace ∷ enter ∷ []) ≡ (WithBegun, purposes.Replace, 0, Some FromStart)
unfolding unicode_segmentation unicode_width digits unicode_normalization ucd_case
asking_goes_round = refl

pub giving_the_question_up : asked (codes "b a") (Find ∷ Insert 0x62 ∷ enter ∷ TextEnd ∷ Replace ∷ enter ∷ Cancel ∷ []) ≡ (Off, purposes.Replace, 3, None)
unfolding unicode_segmentation unicode_width digits unicode_normalization ucd_case
giving_the_question_up = refl

pub tabs_and_separators_are_no_letters_of_it : typed (codes "ab") (Replace ∷ Insert 0x61 ∷ enter ∷ Insert 9 ∷ Insert 0x2029 ∷ []) ≡ (WithBegun, purposes.Replace, [])
unfolding unicode_segmentation unicode_width digits
tabs_and_separators_are_no_letters_of_it = refl

pub it_has_at_most_64_characters : (from (codes "ab") (Replace ∷ Insert 0x61 ∷ enter ∷ replicate 65 (Insert 0x78))).replacement ≡ replicate 64 0x78
unfolding unicode_segmentation unicode_width digits
it_has_at_most_64_characters = refl

pub it_loses_its_last_character : (from (codes "ab") (Replace ∷ Insert 0x61 ∷ enter ∷ letters (codes "xy") ++ (Erase ∷ []))).replacement ≡ codes "x"
unfolding unicode_segmentation unicode_width digits
it_loses_its_last_character = refl

-- ---- other keys

pub a_question_is_given_up : asked (codes "abc") (Forward ∷ Replace ∷ letters (codes "c") ++ (enter ∷ Insert 0x78 ∷ Quit ∷ [])) ≡ (Off, purposes.Replace, 1, None)
unfolding unicode_segmentation unicode_width digits
a_question_is_given_up = refl

pub in_replacing_the_place_stays : replaced (codes "b b b") (showing (codes "b") (codes "x") ++ (enter ∷ Quit ∷ [])) ≡ (codes "x b b", 2, Off, Some (Replaced 1))
unfolding unicode_segmentation unicode_width digits
in_replacing_the_place_stays = refl

pub letters_do_nothing : replaced (codes "abab") (showing (codes "b") (codes "x") ++ (Insert 0x79 ∷ Insert 9 ∷ Erase ∷ Delete ∷ [])) ≡ (codes "abab", 1, Replacing, None)
unfolding unicode_segmentation unicode_width digits
letters_do_nothing = refl

pub a_move_ends_it : asked (codes "abab") (showing (codes "b") (codes "x") ++ (Right ∷ [])) ≡ (Off, purposes.Replace, 2, None)
unfolding unicode_segmentation unicode_width digits
a_move_ends_it = refl

pub find_back_begins_a_search : asked (codes "abab") (showing (codes "b") (codes "x") ++ (Right ∷ Replace ∷ Find ∷ enter ∷ enter ∷ FindBack ∷ [])) ≡ (Begun, purposes.Find, 3, None)
unfolding unicode_segmentation unicode_width digits unicode_normalization ucd_case
find_back_begins_a_search = refl

pub find_begins_a_search_while_the_replacement_is_asked : typed (codes "abab") (Replace ∷ Insert 0x62 ∷ enter ∷ Insert 0x7a ∷ Find ∷ []) ≡ (Begun, purposes.Find, codes "z")
unfolding unicode_segmentation unicode_width digits unicode_normalization ucd_case
find_begins_a_search_while_the_replacement_is_asked = refl

pub find_next_does_so_too : typed (codes "abab") (Replace ∷ Insert 0x62 ∷ enter ∷ Insert 0x7a ∷ FindNext ∷ []) ≡ (Begun, purposes.Find, codes "z")
unfolding unicode_segmentation unicode_width digits unicode_normalization ucd_case
find_next_does_so_too = refl

pub undo_ends_it : replaced (codes "b b") (showing (codes "b") (codes "x") ++ (enter ∷ Undo ∷ [])) ≡ (codes "b b", 0, Off, None)
unfolding unicode_segmentation unicode_width digits
undo_ends_it = refl

-- ---- pastes

pub a_paste_asks_nothing : asked (codes "abab") (Replace ∷ PasteStart ∷ Insert 0x62 ∷ enter ∷ enter ∷ PasteEnd ∷ []) ≡ (Typed, purposes.Replace, 1, None)
unfolding unicode_segmentation unicode_width digits
a_paste_asks_nothing = refl

pub a_paste_shows_no_match : typed (codes "abab") (Replace ∷ Insert 0x62 ∷ enter ∷ PasteStart ∷ enter ∷ Insert 0x78 ∷ enter ∷ Insert 0x79 ∷ PasteEnd ∷ []) ≡ (WithBegun, purposes.Replace, [])
unfolding unicode_segmentation unicode_width digits
a_paste_shows_no_match = refl

pub a_paste_replaces_nothing : replaced (codes "abab") (showing (codes "b") (codes "xy") ++ (PasteStart ∷ Insert 0x7a ∷ enter ∷ NewLine ∷ PasteEnd ∷ [])) ≡ (codes "abab", 1, Replacing, None)
unfolding unicode_segmentation unicode_width digits
a_paste_replaces_nothing = refl

pub a_paste_ends_no_search : asked (codes "abab") (Find ∷ PasteStart ∷ Insert 0x62 ∷ enter ∷ []) ≡ (Typed, purposes.Find, 1, None)
unfolding unicode_segmentation unicode_width digits unicode_normalization ucd_case
a_paste_ends_no_search = refl

-- ---- the next match

pub find_next_finds_again : asked (codes "abab") (Replace ∷ Insert 0x62 ∷ Cancel ∷ FindNext ∷ []) ≡ (Off, purposes.Find, 1, None)
unfolding unicode_segmentation unicode_width digits unicode_normalization ucd_case
find_next_finds_again = refl
