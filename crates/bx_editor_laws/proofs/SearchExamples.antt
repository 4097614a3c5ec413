-- Worked examples: places, queries and messages of searches.
use Rattle.std.proofs.Common.{◌≡◌, ℕ, List, [], ◌∷◌, ◌++◌, Option, Some, None, refl, replicate, length}
use Rattle.std.specs.Prelude.{codes}
use Rattle.std.specs.Fmt.{digits}
use Rattle.ucd_case.proofs.Computing.{ucd_case}
use Rattle.unicode_normalization.proofs.Computing.{unicode_normalization}
use Rattle.unicode_segmentation.proofs.Computing.{unicode_segmentation}
use Rattle.unicode_width.proofs.Computing.{unicode_width}
use Rattle.bx_keys.specs.declared.key.Key.{Key}
use Rattle.bx_keys.specs.declared.key.Key.TheVariants.{Insert, Erase, Delete, Forward, Left, Save, Quit, Repaint, Size, Mark, Copy, Cut, Find, FindBack, TextEnd}
use Rattle.bx_editor.specs.declared.message.Message.{Message}
use Rattle.bx_editor.specs.declared.message.Message.TheVariants.{FromStart, FromEnd, NotFound, Unsaved}
use Rattle.bx_editor.specs.declared.search_state.SearchState.TheVariants.{Off}
use Rattle.bx_editor.specs.Editor.{Editor}
use Rattle.bx_editor.proofs.Computed.{start, after, letters}

-- place, query and message
abbrev sought : Editor → ℕ × List ℕ × Option Message
sought e = (e.place, e.query, e.message)

abbrev from : List ℕ → List Key → Editor
from text keys = after (start text 2 40) keys

-- Find and letters
abbrev finding : List ℕ → List Key
finding cs = Find ∷ letters cs

-- ---- from match to match

pub a_letter_is_sought_from_the_place_on : sought (from (codes "abcabc") (finding (codes "c"))) ≡ (2, codes "c", None)
unfolding unicode_segmentation unicode_width digits unicode_normalization ucd_case
a_letter_is_sought_from_the_place_on = refl

pub find_goes_to_the_next : sought (from (codes "abcabc") (finding (codes "c") ++ (Find ∷ []))) ≡ (5, codes "c", None)
unfolding unicode_segmentation unicode_width digits unicode_normalization ucd_case
find_goes_to_the_next = refl

pub find_goes_round : sought (from (codes "abcabc") (finding (codes "c") ++ (Find ∷ Find ∷ []))) ≡ (2, codes "c", Some FromStart)
unfolding unicode_segmentation unicode_width digits unicode_normalization ucd_case
find_goes_round = refl

pub find_back_goes_round : sought (from (codes "abcabc") (finding (codes "c") ++ (FindBack ∷ []))) ≡ (5, codes "c", Some FromEnd)
unfolding unicode_segmentation unicode_width digits unicode_normalization ucd_case
find_back_goes_round = refl

pub find_back_goes_back : sought (from (codes "abcabc") (finding (codes "c") ++ (FindBack ∷ FindBack ∷ []))) ≡ (2, codes "c", None)
unfolding unicode_segmentation unicode_width digits unicode_normalization ucd_case
find_back_goes_back = refl

pub find_at_the_text_s_end_is_no_way_round : sought (from (codes "ab") (finding (codes "b") ++ (Insert 10 ∷ TextEnd ∷ Find ∷ Find ∷ []))) ≡ (1, codes "b", None)
unfolding unicode_segmentation unicode_width digits unicode_normalization ucd_case
find_at_the_text_s_end_is_no_way_round = refl

pub a_letter_goes_round : sought (from (codes "ab") (TextEnd ∷ finding (codes "a"))) ≡ (0, codes "a", Some FromStart)
unfolding unicode_segmentation unicode_width digits unicode_normalization ucd_case
a_letter_goes_round = refl

pub not_found_stays : sought (from (codes "abc") (Forward ∷ finding (codes "x"))) ≡ (1, codes "x", Some NotFound)
unfolding unicode_segmentation unicode_width digits unicode_normalization ucd_case
not_found_stays = refl

pub matches_overlap : (from (codes "aaa") (finding (codes "aa") ++ (Find ∷ []))).place ≡ 1
unfolding unicode_segmentation unicode_width digits unicode_normalization ucd_case
matches_overlap = refl

-- U+0915 U+093F is a cluster of 6 bytes
pub a_match_inside_a_cluster : sought (from (0x915 ∷ 0x93f ∷ 0x78 ∷ 0x915 ∷ 0x93f ∷ []) (TextEnd ∷ finding (0x93f ∷ []) ++ (Find ∷ [])))
    ≡ (7, 0xe0 ∷ 0xa4 ∷ 0xbf ∷ [], None)
unfolding unicode_segmentation unicode_width digits unicode_normalization ucd_case
a_match_inside_a_cluster = refl

-- ---- the query

pub a_longer_query_goes_on : sought (from (codes "ab ac") (finding (codes "ac"))) ≡ (3, codes "ac", None)
unfolding unicode_segmentation unicode_width digits unicode_normalization ucd_case
a_longer_query_goes_on = refl

pub a_shorter_query_begins_again : sought (from (codes "ab ac") (finding (codes "ac") ++ (Erase ∷ []))) ≡ (0, codes "a", None)
unfolding unicode_segmentation unicode_width digits unicode_normalization ucd_case
a_shorter_query_begins_again = refl

pub delete_at_its_end_removes_nothing : sought (from (codes "abab") (finding (codes "ab") ++ (Find ∷ Delete ∷ []))) ≡ (2, codes "ab", None)
unfolding unicode_segmentation unicode_width digits unicode_normalization ucd_case
delete_at_its_end_removes_nothing = refl

pub an_empty_query_finds_nothing : sought (from (codes "ab") (Forward ∷ finding (codes "b") ++ (Erase ∷ Erase ∷ Find ∷ FindBack ∷ []))) ≡ (1, [], None)
unfolding unicode_segmentation unicode_width digits unicode_normalization ucd_case
an_empty_query_finds_nothing = refl

pub marks_and_case_make_no_difference : sought (from (0x78 ∷ 0x61 ∷ 0x42 ∷ 0x301 ∷ 0x7a ∷ []) (finding (codes "AbZ"))) ≡ (1, codes "AbZ", None)
unfolding unicode_segmentation unicode_width digits unicode_normalization ucd_case
marks_and_case_make_no_difference = refl

pub the_query_is_kept_for_the_next_search : sought (from (codes "abab") (finding (codes "b") ++ (Insert 10 ∷ Find ∷ Find ∷ []))) ≡ (3, codes "b", None)
unfolding unicode_segmentation unicode_width digits unicode_normalization ucd_case
the_query_is_kept_for_the_next_search = refl

pub a_letter_begins_a_new_one : sought (from (codes "abab") (finding (codes "b") ++ (Insert 10 ∷ finding (codes "a")))) ≡ (2, codes "a", None)
unfolding unicode_segmentation unicode_width digits unicode_normalization ucd_case
a_letter_begins_a_new_one = refl

pub erase_in_a_new_search_empties_it : sought (from (codes "abab") (finding (codes "b") ++ (Insert 10 ∷ Find ∷ Erase ∷ []))) ≡ (1, [], None)
unfolding unicode_segmentation unicode_width digits unicode_normalization ucd_case
erase_in_a_new_search_empties_it = refl

pub sixty_four_characters_are_all : length (from [] (finding (replicate 65 0x61))).query ≡ 64
unfolding unicode_segmentation unicode_width digits unicode_normalization ucd_case
sixty_four_characters_are_all = refl

-- U+2029 and a tab
pub separators_and_tabs_are_no_letters : sought (from (codes "a\nb") (finding (codes "ab") ++ (Insert 0x2029 ∷ Insert 9 ∷ []))) ≡ (0, codes "ab", None)
unfolding unicode_segmentation unicode_width digits unicode_normalization ucd_case
separators_and_tabs_are_no_letters = refl

-- ---- the end of a search

pub a_line_feed_ends_it : (from (codes "abc") (finding (codes "c") ++ (Insert 10 ∷ []))).search_state ≡ Off
unfolding unicode_segmentation unicode_width digits unicode_normalization ucd_case
a_line_feed_ends_it = refl

pub a_line_feed_is_not_inserted : (from (codes "abc") (finding (codes "c") ++ (Insert 10 ∷ []))).content.text ≡ codes "abc"
unfolding unicode_segmentation unicode_width digits unicode_normalization ucd_case
a_line_feed_is_not_inserted = refl

pub quit_gives_it_up : sought (from (codes "abc") (Forward ∷ finding (codes "c") ++ (Quit ∷ []))) ≡ (1, codes "c", None)
unfolding unicode_segmentation unicode_width digits unicode_normalization ucd_case
quit_gives_it_up = refl

pub such_a_quit_is_none : (from (codes "ab") (Insert 0x78 ∷ Quit ∷ Find ∷ Quit ∷ Quit ∷ [])).message ≡ Some Unsaved
unfolding unicode_segmentation unicode_width digits unicode_normalization ucd_case
such_a_quit_is_none = refl

pub copy_gives_it_up : sought (from (codes "abc") (Forward ∷ Mark ∷ finding (codes "c") ++ (Copy ∷ []))) ≡ (1, codes "c", None)
unfolding unicode_segmentation unicode_width digits unicode_normalization ucd_case
copy_gives_it_up = refl

pub such_a_copy_holds_nothing : (from (codes "abc") (Forward ∷ Mark ∷ finding (codes "c") ++ (Copy ∷ []))).held ≡ []
unfolding unicode_segmentation unicode_width digits unicode_normalization ucd_case
such_a_copy_holds_nothing = refl

-- the place, and the one in the query
abbrev places_of : Editor → ℕ × ℕ
places_of e = (e.place, e.input_cursor)

pub an_arrow_moves_in_the_query : places_of (from (codes "abc") (finding (codes "b") ++ (Left ∷ []))) ≡ (1, 0)
unfolding unicode_segmentation unicode_width digits unicode_normalization ucd_case
an_arrow_moves_in_the_query = refl

pub cut_does_nothing_in_it : (from (codes "abxc") (TextEnd ∷ Mark ∷ finding (codes "a") ++ (Cut ∷ []))).content.text ≡ codes "abxc"
unfolding unicode_segmentation unicode_width digits unicode_normalization ucd_case
cut_does_nothing_in_it = refl

pub a_save_ends_it : (from (codes "abc") (finding (codes "c") ++ (Save ∷ letters (codes "x")))).content.text ≡ codes "abxc"
unfolding unicode_segmentation unicode_width digits unicode_normalization ucd_case
a_save_ends_it = refl

pub a_size_keeps_it : sought (from (codes "ab") (finding (codes "bx") ++ (Size 2 25 ∷ []))) ≡ (1, codes "bx", Some NotFound)
unfolding unicode_segmentation unicode_width digits unicode_normalization ucd_case
a_size_keeps_it = refl

pub repaint_clears_the_message_alone : sought (from (codes "ab") (finding (codes "bx") ++ (Repaint ∷ []))) ≡ (1, codes "bx", None)
unfolding unicode_segmentation unicode_width digits unicode_normalization ucd_case
repaint_clears_the_message_alone = refl
