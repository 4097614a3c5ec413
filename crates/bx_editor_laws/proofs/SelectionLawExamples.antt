-- Worked examples: selections, from the definitions and each from a law alone.
use Rattle.std.proofs.Common.{◌≡◌, ℕ, ◌<◌, ◌≤◌, List, [], ◌∷◌, ◌++◌, refl, arith}
use Rattle.std.specs.Prelude.{codes, Option, Some, None}
use Rattle.std.specs.Fmt.{digits}
use Rattle.ucd_case.proofs.Computing.{ucd_case}
use Rattle.unicode_normalization.proofs.Computing.{unicode_normalization}
use Rattle.unicode_segmentation.proofs.Computing.{unicode_segmentation}
use Rattle.unicode_width.proofs.Computing.{unicode_width}
use Rattle.bx_common.specs.Characters.{largest_text}
use Rattle.bx_keys.specs.declared.key.Key.{Key}
use Rattle.bx_keys.specs.declared.key.Key.TheVariants.{Insert, Erase, Delete, Back, Forward, Mark, Copy, Cancel, Find, Put, TextEnd, EraseWord, DeleteWord, ErasePoint, NewLine}
use Rattle.bx_keys.specs.declared.key.Key.TheVariants.{Select, Undo, PasteStart, PasteEnd, Help}
use Rattle.bx_editor.specs.declared.message.Message.TheVariants.{Pasting}
use Rattle.bx_editor.specs.declared.cursor.Soft.{Soft}
use Rattle.bx_editor.specs.declared.cursor.Soft.TheVariants.{Off, Fresh, Old}
use Rattle.bx_editor.specs.Editor.{Editor}
use Rattle.bx_editor_laws.specs.SelectionLaws.{HasSelection, MoveTakesSelectionOff, SeekingTakesSelectionOff, SelectionComesBack, SelectionGivesWay, SelectionIsRemoved}
use Rattle.bx_editor.proofs.Computed.{tables, start, after, letters}

abbrev edited : List ℕ → List Key → List ℕ × (ℕ × Option ℕ)
edited text keys = let e = after (start text 4 40) keys in (e.content.text, (e.place, e.mark))

abbrev selected : List ℕ → List Key → Option ℕ × Soft
selected text keys = let e = after (start text 4 40) keys in (e.mark, e.soft)

-- two of four letters
abbrev two : List Key
two = Forward ∷ Select ∷ Forward ∷ Select ∷ Forward ∷ []

-- ---- moves

pub select_sets_a_mark : selected (codes "abcd") (Forward ∷ Select ∷ []) ≡ (Some 1, Fresh)
unfolding unicode_segmentation unicode_width digits
select_sets_a_mark = refl

pub a_move_behind_it_ages_it : selected (codes "abcd") (Select ∷ Forward ∷ []) ≡ (Some 0, Old)
unfolding unicode_segmentation unicode_width digits
a_move_behind_it_ages_it = refl

pub the_next_move_takes_it_off : selected (codes "abcd") (Select ∷ Forward ∷ Forward ∷ []) ≡ (None, Off)
unfolding unicode_segmentation unicode_width digits
the_next_move_takes_it_off = refl

pub a_hard_mark_stays : selected (codes "abcd") (Mark ∷ Select ∷ Forward ∷ Forward ∷ []) ≡ (Some 0, Off)
unfolding unicode_segmentation unicode_width digits
a_hard_mark_stays = refl

pub a_search_takes_an_old_one_off : selected (codes "abcd") (Select ∷ Forward ∷ Find ∷ []) ≡ (None, Off)
unfolding unicode_segmentation unicode_width digits
a_search_takes_an_old_one_off = refl

pub a_search_leaves_a_fresh_one : selected (codes "abcd") (Select ∷ Find ∷ []) ≡ (Some 0, Old)
unfolding unicode_segmentation unicode_width digits
a_search_leaves_a_fresh_one = refl

pub help_leaves_an_old_one : selected (codes "abcd") (Select ∷ Forward ∷ Help ∷ []) ≡ (Some 0, Old)
unfolding unicode_segmentation unicode_width digits
help_leaves_an_old_one = refl

pub cancel_takes_it_off : selected (codes "abcd") (Select ∷ Forward ∷ Cancel ∷ []) ≡ (None, Off)
unfolding unicode_segmentation unicode_width digits
cancel_takes_it_off = refl

pub cancel_ends_a_search_first : selected (codes "abcd") (Select ∷ Find ∷ Insert 0x63 ∷ Cancel ∷ []) ≡ (Some 0, Old)
unfolding unicode_segmentation unicode_width digits unicode_normalization ucd_case
cancel_ends_a_search_first = refl

pub then_the_selection : selected (codes "abcd") (Select ∷ Find ∷ Insert 0x63 ∷ Cancel ∷ Cancel ∷ []) ≡ (None, Off)
unfolding unicode_segmentation unicode_width digits unicode_normalization ucd_case
then_the_selection = refl

-- ---- what is typed and put in

pub a_letter_takes_its_place : edited (codes "abcd") (two ++ Insert 0x78 ∷ []) ≡ (codes "axd", (2, None))
unfolding unicode_segmentation unicode_width digits
a_letter_takes_its_place = refl

pub all_of_one_run : (after (start (codes "abcd") 4 40) (two ++ letters (codes "xy"))).undo_groups ≡ 0 ∷ []
unfolding unicode_segmentation unicode_width digits
all_of_one_run = refl

pub it_comes_back : edited (codes "abcd") (two ++ letters (codes "xy") ++ Undo ∷ []) ≡ (codes "abcd", (3, None))
unfolding unicode_segmentation unicode_width digits
it_comes_back = refl

pub a_line_end_of_what_is_left : edited (codes "a\r\nb\nc") (Select ∷ Forward ∷ Select ∷ Forward ∷ NewLine ∷ []) ≡ (codes "\nb\nc", (1, None))
unfolding unicode_segmentation unicode_width digits
a_line_end_of_what_is_left = refl

pub the_held_text_takes_its_place : edited (codes "abcd") (Mark ∷ Forward ∷ Copy ∷ Select ∷ Forward ∷ Put ∷ []) ≡ (codes "aacd", (2, None))
unfolding unicode_segmentation unicode_width digits
the_held_text_takes_its_place = refl

pub a_put_of_nothing_removes_nothing : edited (codes "abcd") (Select ∷ Forward ∷ Put ∷ []) ≡ (codes "abcd", (1, Some 0))
unfolding unicode_segmentation unicode_width digits
a_put_of_nothing_removes_nothing = refl

pub a_hard_region_stays : edited (codes "abcd") (Mark ∷ Forward ∷ Insert 0x78 ∷ []) ≡ (codes "axbcd", (2, None))
unfolding unicode_segmentation unicode_width digits
a_hard_region_stays = refl

pub an_empty_region_gives_no_way : edited (codes "abcd") (Select ∷ Insert 0x79 ∷ []) ≡ (codes "yabcd", (1, None))
unfolding unicode_segmentation unicode_width digits
an_empty_region_gives_no_way = refl

pub a_selection_given_up_stays : edited (codes "abcd") (Select ∷ Forward ∷ Cancel ∷ Insert 0x78 ∷ []) ≡ (codes "axbcd", (2, None))
unfolding unicode_segmentation unicode_width digits
a_selection_given_up_stays = refl

pub a_line_end_of_the_text : edited (codes "abcd\r\n") (Select ∷ Forward ∷ Select ∷ Forward ∷ NewLine ∷ []) ≡ (codes "\r\ncd\r\n", (2, None))
unfolding unicode_segmentation unicode_width digits
a_line_end_of_the_text = refl

pub a_paste_takes_its_place : edited (codes "abcd") (Select ∷ Forward ∷ Select ∷ Forward ∷ PasteStart ∷ letters (codes "xy z") ++ PasteEnd ∷ []) ≡ (codes "xy zcd", (4, None))
unfolding unicode_segmentation unicode_width digits
a_paste_takes_its_place = refl

pub letters_of_a_query_take_no_place : edited (codes "abcd") (Select ∷ Find ∷ Insert 0x64 ∷ Erase ∷ []) ≡ (codes "abcd", (0, Some 0))
unfolding unicode_segmentation unicode_width digits unicode_normalization ucd_case
letters_of_a_query_take_no_place = refl

pub behind_a_search_it_gives_way : edited (codes "abcd") (Select ∷ Find ∷ Insert 0x64 ∷ Insert 0xA ∷ Insert 0x78 ∷ []) ≡ (codes "xd", (1, None))
unfolding unicode_segmentation unicode_width digits unicode_normalization ucd_case
behind_a_search_it_gives_way = refl

-- ---- what is removed

pub erase_removes_it_alone : edited (codes "abcd") (two ++ Erase ∷ []) ≡ (codes "ad", (1, None))
unfolding unicode_segmentation unicode_width digits
erase_removes_it_alone = refl

pub a_word_before_it_stays : edited (codes "ab cd ef") (TextEnd ∷ Select ∷ Back ∷ EraseWord ∷ []) ≡ (codes "ab cd e", (7, None))
unfolding unicode_segmentation unicode_width digits
a_word_before_it_stays = refl

pub from_its_other_end : edited (codes "abcd") (TextEnd ∷ Select ∷ Back ∷ Select ∷ Back ∷ Delete ∷ []) ≡ (codes "ab", (2, None))
unfolding unicode_segmentation unicode_width digits
from_its_other_end = refl

-- two letters of the second of three words
abbrev in_a_word : List Key
in_a_word = Forward ∷ Forward ∷ Forward ∷ Select ∷ Forward ∷ Select ∷ Forward ∷ []

pub erase_point_removes_no_more : edited (codes "ab cd ef") (in_a_word ++ ErasePoint ∷ []) ≡ (codes "ab  ef", (3, None))
unfolding unicode_segmentation unicode_width digits
erase_point_removes_no_more = refl

pub delete_removes_no_more : edited (codes "ab cd ef") (in_a_word ++ Delete ∷ []) ≡ (codes "ab  ef", (3, None))
unfolding unicode_segmentation unicode_width digits
delete_removes_no_more = refl

pub erase_word_removes_no_more : edited (codes "ab cd ef") (in_a_word ++ EraseWord ∷ []) ≡ (codes "ab  ef", (3, None))
unfolding unicode_segmentation unicode_width digits
erase_word_removes_no_more = refl

pub delete_word_removes_no_more : edited (codes "ab cd ef") (in_a_word ++ DeleteWord ∷ []) ≡ (codes "ab  ef", (3, None))
unfolding unicode_segmentation unicode_width digits
delete_word_removes_no_more = refl

pub the_next_erasure_is_another_run : (after (start (codes "ab cd ef") 4 40) (in_a_word ++ Erase ∷ Erase ∷ [])).undo_groups ≡ 0 ∷ 1 ∷ []
unfolding unicode_segmentation unicode_width digits
the_next_erasure_is_another_run = refl

-- ---- the marks of a paste

pub it_is_told : (after (start (codes "ab") 2 40) (Mark ∷ PasteStart ∷ [])).message ≡ Some Pasting
unfolding unicode_segmentation unicode_width digits
it_is_told = refl

pub a_mark_stays : (after (start (codes "ab") 2 40) (Mark ∷ PasteStart ∷ PasteEnd ∷ [])).mark ≡ Some 0
unfolding unicode_segmentation unicode_width digits
a_mark_stays = refl

-- ---- from the laws

-- two of four letters are selected
abbrev two_selected : Editor
two_selected = after (start (codes "abcd") 4 40) two

two_are_a_selection : HasSelection two_selected
unfolding unicode_segmentation unicode_width digits
two_are_a_selection =
    let some : 1 < 3 = omega arith in
    let inside : 3 ≤ 4 = omega arith in
    record { no_question = refl; no_search = refl; no_paste = refl; writes = refl; soft = λ off. cc off; part = record { some = some; inside = inside } }

pub the_move_takes_it_off : MoveTakesSelectionOff → (after two_selected (Forward ∷ [])).mark ≡ None
unfolding unicode_segmentation unicode_width digits
the_move_takes_it_off law = (law tables two_selected Forward refl (λ over. cc over) refl tt refl).old refl

pub behind_select_it_stays : MoveTakesSelectionOff → (after two_selected (Select ∷ Forward ∷ [])).mark ≡ Some 1
unfolding unicode_segmentation unicode_width digits
behind_select_it_stays law = (law tables two_selected Forward refl (λ over. cc over) refl tt refl).selecting refl

pub a_word_key_removes_it_alone : SelectionIsRemoved → (after two_selected (DeleteWord ∷ [])).content.text ≡ codes "ad"
unfolding unicode_segmentation unicode_width digits
a_word_key_removes_it_alone law = (law tables two_selected DeleteWord two_are_a_selection refl).text_is

pub a_letter_stands_in_its_place : SelectionGivesWay → (after two_selected (Insert 0x78 ∷ [])).content.text ≡ codes "axd"
unfolding unicode_segmentation unicode_width digits
a_letter_stands_in_its_place law =
    let fit : 3 ≤ largest_text = omega arith in
    ((law tables two_selected (Insert 0x78) two_are_a_selection (λ none. cc none)).fits fit).text_is

pub a_search_takes_it_off : SeekingTakesSelectionOff → (after two_selected (Find ∷ [])).mark ≡ None
unfolding unicode_segmentation unicode_width digits
a_search_takes_it_off law = (law tables two_selected Find refl refl (λ over. cc over) refl (λ is. refl)).old refl

pub a_replaced_one_comes_back : SelectionComesBack → let e = after two_selected (Insert 0x78 ∷ Undo ∷ []) in (e.content.text ≡ codes "abcd") × (e.place ≡ 3)
unfolding unicode_segmentation unicode_width digits
a_replaced_one_comes_back law =
    let fit : 3 ≤ largest_text = omega arith in
    let back = (law tables two_selected (Insert 0x78) two_are_a_selection).replaced (λ none. cc none) fit in
    (back.text_is, back.unmarked.place_is)

pub a_removed_one_comes_back : SelectionComesBack → (after two_selected (Delete ∷ Undo ∷ [])).content.text ≡ codes "abcd"
unfolding unicode_segmentation unicode_width digits
a_removed_one_comes_back law = ((law tables two_selected Delete two_are_a_selection).removed refl).text_is
