-- Worked examples: pastes, and what goes out to a clipboard, from the definitions alone.
use Rattle.std.proofs.Common.{◌≡◌, ℕ, Bool, true, false, List, [], ◌∷◌, ◌++◌, length, refl}
use Rattle.std.specs.Prelude.{codes, Option, Some, None}
use Rattle.std.specs.Fmt.{digits}
use Rattle.unicode_segmentation.proofs.Computing.{unicode_segmentation}
use Rattle.unicode_width.proofs.Computing.{unicode_width}
use Rattle.bx_keys.specs.declared.key.Key.{Key}
use Rattle.bx_keys.specs.declared.key.Key.TheVariants.{Back, Copy, Cut, Down, Erase, Find, Forward, GoTo, LineDown, Mark, Name, NewLine, Point, Quit}
use Rattle.bx_keys.specs.declared.key.Key.TheVariants.{PasteStart, PasteEnd, RedoEdit, Repaint, Right, RowEnd, Save, Select, Size, TextEnd, UndoEdit, Undo}
use Rattle.bx_editor.specs.declared.questions.answers.Prompt.{Prompt}
use Rattle.bx_editor.specs.declared.questions.answers.Prompt.TheVariants as prompts
use Rattle.bx_editor.specs.declared.undo_groups.typing.Typing.{Typing}
use Rattle.bx_editor.specs.declared.undo_groups.typing.Typing.TheVariants as typings
use Rattle.bx_editor.specs.declared.message.Message.{Message}
use Rattle.bx_editor.specs.declared.message.Message.TheVariants.{Pasting, Saved, Unsaved}
use Rattle.bx_editor.specs.declared.search_state.SearchState.{SearchState}
use Rattle.bx_editor.specs.declared.search_state.SearchState.TheVariants.{Begun}
use Rattle.bx_editor.specs.declared.cursor.Soft.{Soft}
use Rattle.bx_editor.specs.declared.cursor.Soft.TheVariants.{Off, Fresh, Old}
use Rattle.bx_view.specs.declared.moves.Goal.{Goal}
use Rattle.bx_view.specs.declared.moves.Goal.TheVariants.{End}
use Rattle.bx_editor.specs.Region.{clip_of}
use Rattle.bx_editor.specs.Editor.{Editor, with_clipboard}
use Rattle.bx_editor.specs.Functions.{has_changes}
use Rattle.bx_editor.proofs.Computed.{start, after, letters}

abbrev edited : List ℕ → List Key → Editor
edited text keys = after (start text 2 40) keys

-- text and place
abbrev text_at : Editor → List ℕ × ℕ
text_at e = (e.content.text, e.place)

-- where runs begin, the number of edits, and what the next may go on with
abbrev undo_groups_of : Editor → List ℕ × ℕ × Typing
undo_groups_of e = (e.undo_groups, length e.content.past, e.typing)

-- what a paste has brought, the message, and whether changes are told
abbrev paste_of : Editor → Option (List ℕ) × Option Message × Bool
paste_of e = (e.pasted, e.message, has_changes e)

-- the mark, and how fresh a selection is
abbrev mark_of : Editor → Option ℕ × Soft
mark_of e = (e.mark, e.soft)

abbrev paste : List ℕ → List Key
paste cs = PasteStart ∷ (letters cs ++ PasteEnd ∷ [])

-- ---- a paste is one edit

abbrev half : Editor
half = edited (codes "ab") (Forward ∷ PasteStart ∷ letters (codes "xy\n"))

nothing_is_put_in_till_its_end : text_at half ≡ (codes "ab", 1)
unfolding unicode_segmentation unicode_width digits
nothing_is_put_in_till_its_end = refl

what_it_brings_counts_as_changed : paste_of half ≡ (Some (codes "xy\n"), Some Pasting, true)
unfolding unicode_segmentation unicode_width digits
what_it_brings_counts_as_changed = refl

an_empty_one_does_not : paste_of (edited (codes "ab") (PasteStart ∷ [])) ≡ (Some [], Some Pasting, false)
unfolding unicode_segmentation unicode_width digits
an_empty_one_does_not = refl

abbrev whole : Editor
whole = after half (PasteEnd ∷ [])

its_end_puts_it_in : text_at whole ≡ (codes "axy\nb", 4)
unfolding unicode_segmentation unicode_width digits
its_end_puts_it_in = refl

as_one_edit : undo_groups_of whole ≡ (0 ∷ [], 1, typings.Off)
unfolding unicode_segmentation unicode_width digits
as_one_edit = refl

and_it_is_over : paste_of whole ≡ (None, None, true)
unfolding unicode_segmentation unicode_width digits
and_it_is_over = refl

undone_at_once : text_at (after whole (UndoEdit ∷ [])) ≡ (codes "ab", 1)
unfolding unicode_segmentation unicode_width digits
undone_at_once = refl

made_again : text_at (after whole (UndoEdit ∷ RedoEdit ∷ [])) ≡ (codes "axy\nb", 4)
unfolding unicode_segmentation unicode_width digits
made_again = refl

abbrev whole_undone : Editor
whole_undone = after whole (Undo ∷ [])

and_undone_as_a_run : text_at whole_undone ≡ (codes "ab", 1)
unfolding unicode_segmentation unicode_width digits
and_undone_as_a_run = refl

so_that_nothing_is_unsaved : paste_of whole_undone ≡ (None, None, false)
unfolding unicode_segmentation unicode_width digits
so_that_nothing_is_unsaved = refl

between_words : undo_groups_of (edited [] (letters (codes "a") ++ paste (codes "b c\n\nd") ++ letters (codes "e"))) ≡ (0 ∷ 1 ∷ 2 ∷ [], 3, typings.Word)
unfolding unicode_segmentation unicode_width digits
between_words = refl

an_empty_one_ends_a_run : undo_groups_of (edited (codes "ab") (letters (codes "x") ++ paste [] ++ letters (codes "y"))) ≡ (0 ∷ 1 ∷ [], 2, typings.Word)
unfolding unicode_segmentation unicode_width digits
an_empty_one_ends_a_run = refl

abbrev empty_paste : Editor
empty_paste = edited (codes "ab") (Forward ∷ Mark ∷ paste [])

and_puts_nothing_in : text_at empty_paste ≡ (codes "ab", 1)
unfolding unicode_segmentation unicode_width digits
and_puts_nothing_in = refl

and_leaves_the_mark : mark_of empty_paste ≡ (Some 1, Off)
unfolding unicode_segmentation unicode_width digits
and_leaves_the_mark = refl

abbrev two_pastes : Editor
two_pastes =
    edited [] (PasteStart ∷ letters (codes "a") ++ Repaint ∷ Size 2 30 ∷ letters (codes "b") ++ PasteEnd ∷ paste (codes "c"))

each_is_a_run : undo_groups_of two_pastes ≡ (0 ∷ 1 ∷ [], 2, typings.Off)
unfolding unicode_segmentation unicode_width digits
each_is_a_run = refl

-- ---- a selection gives way

abbrev selected : List Key
selected = Select ∷ Forward ∷ Select ∷ Forward ∷ Select ∷ []

it_stays_fresh_at_the_start : mark_of (edited (codes "abcd") (selected ++ PasteStart ∷ [])) ≡ (Some 0, Fresh)
unfolding unicode_segmentation unicode_width digits
it_stays_fresh_at_the_start = refl

it_ages_while_a_paste_brings : mark_of (edited (codes "abcd") (selected ++ PasteStart ∷ letters (codes "xy"))) ≡ (Some 0, Old)
unfolding unicode_segmentation unicode_width digits
it_ages_while_a_paste_brings = refl

abbrev in_its_place : Editor
in_its_place = edited (codes "abcd") (selected ++ paste (codes "xy z"))

in_place_of_a_selection : text_at in_its_place ≡ (codes "xy zcd", 4)
unfolding unicode_segmentation unicode_width digits
in_place_of_a_selection = refl

two_edits_of_one_run : undo_groups_of in_its_place ≡ (0 ∷ [], 2, typings.Off)
unfolding unicode_segmentation unicode_width digits
two_edits_of_one_run = refl

both_undone_at_once : text_at (after in_its_place (Undo ∷ [])) ≡ (codes "abcd", 2)
unfolding unicode_segmentation unicode_width digits
both_undone_at_once = refl

abbrev at_a_hard_mark : Editor
at_a_hard_mark = edited (codes "abcd") (Forward ∷ Forward ∷ Mark ∷ Forward ∷ paste (codes "z"))

a_hard_marks_region_stays : text_at at_a_hard_mark ≡ (codes "abczd", 4)
unfolding unicode_segmentation unicode_width digits
a_hard_marks_region_stays = refl

without_the_mark : mark_of at_a_hard_mark ≡ (None, Off)
unfolding unicode_segmentation unicode_width digits
without_the_mark = refl

a_selection_does_not_give_way_to_nothing : mark_of (after at_a_hard_mark (Select ∷ Back ∷ paste [])) ≡ (Some 4, Old)
unfolding unicode_segmentation unicode_width digits
a_selection_does_not_give_way_to_nothing = refl

-- ---- line ends

as_the_texts_are : text_at (edited (codes "a\r\n") (paste (codes "\nb\n"))) ≡ (codes "\r\nb\r\na\r\n", 5)
unfolding unicode_segmentation unicode_width digits
as_the_texts_are = refl

as_the_first_is : (edited (codes "a\nb\r\n") (paste (codes "x\ny"))).content.text ≡ codes "x\nya\nb\r\n"
unfolding unicode_segmentation unicode_width digits
as_the_first_is = refl

also_where_that_gives_way : text_at (edited (codes "a\r\n") (Select ∷ Forward ∷ Select ∷ Forward ∷ paste (codes "\n"))) ≡ (codes "\r\n", 2)
unfolding unicode_segmentation unicode_width digits
also_where_that_gives_way = refl

and_beside_what_gives_way : text_at (edited (codes "abcd\r\n") (Select ∷ Forward ∷ Select ∷ Forward ∷ paste (codes "\n"))) ≡ (codes "\r\ncd\r\n", 2)
unfolding unicode_segmentation unicode_width digits
and_beside_what_gives_way = refl

other_separators_stay : text_at (edited (codes "a\r\nb") (TextEnd ∷ paste (0xA ∷ 0x63 ∷ 0xA ∷ 0x2029 ∷ [])))
    ≡ (codes "a\r\nb\r\nc\r\n" ++ 0xE2 ∷ 0x80 ∷ 0xA9 ∷ [], 12)
unfolding unicode_segmentation unicode_width digits
other_separators_stay = refl

-- ---- in a question and a search

abbrev asked_paste : Editor
asked_paste = edited (codes "ab\nc") (GoTo ∷ PasteStart ∷ letters (codes "2\n"))

-- what is asked, the answer as far as it is typed, and what a paste has brought
abbrev asked_of : Editor → Prompt × List ℕ × Option (List ℕ)
asked_of e = (e.prompt, e.answer, e.pasted)

a_question_is_not_answered : asked_of asked_paste ≡ (prompts.Line, codes "2", None)
unfolding unicode_segmentation unicode_width digits
a_question_is_not_answered = refl

till_its_end : text_at (after asked_paste (PasteEnd ∷ letters (codes "\n"))) ≡ (codes "ab\nc", 3)
unfolding unicode_segmentation unicode_width digits
till_its_end = refl

abbrev sought_paste : Editor
sought_paste = edited (codes "ab ab") (Find ∷ PasteStart ∷ [])

-- how far a search is, what the next edit may go on with, and what a paste has brought
abbrev sought_of : Editor → SearchState × Typing × Option (List ℕ)
sought_of e = (e.search_state, e.typing, e.pasted)

in_a_search_none_begins : sought_of sought_paste ≡ (Begun, typings.Paste, None)
unfolding unicode_segmentation unicode_width digits
in_a_search_none_begins = refl

-- ---- what leaves a paste, and what ends it

abbrev left_alone : Editor
left_alone = edited (codes "ab") (PasteStart ∷ letters (codes "x") ++ Size 3 20 ∷ PasteStart ∷ Repaint ∷ letters (codes "y") ++ PasteStart ∷ [])

sizes_and_paintings_leave_it : paste_of left_alone ≡ (Some (codes "xy"), None, true)
unfolding unicode_segmentation unicode_width digits
sizes_and_paintings_leave_it = refl

and_its_end_ends_it : text_at (after left_alone (PasteEnd ∷ PasteEnd ∷ [])) ≡ (codes "xyab", 2)
unfolding unicode_segmentation unicode_width digits
and_its_end_ends_it = refl

-- a paste of one letter, which another key then ends
abbrev cut_off_by : Key → Editor
cut_off_by key = edited (codes "ab") (PasteStart ∷ letters (codes "x") ++ key ∷ [])

a_move_ends_it : text_at (cut_off_by Right) ≡ (codes "xab", 2)
unfolding unicode_segmentation unicode_width digits
a_move_ends_it = refl

an_erasure_ends_it : undo_groups_of (cut_off_by Erase) ≡ (0 ∷ 1 ∷ [], 2, typings.Erasing)
unfolding unicode_segmentation unicode_width digits
an_erasure_ends_it = refl

enter_ends_it : text_at (cut_off_by NewLine) ≡ (codes "x\nab", 2)
unfolding unicode_segmentation unicode_width digits
enter_ends_it = refl

a_quit_ends_it : (cut_off_by Quit).message ≡ Some Unsaved
unfolding unicode_segmentation unicode_width digits
a_quit_ends_it = refl

an_undo_takes_it_back : text_at (cut_off_by UndoEdit) ≡ (codes "ab", 0)
unfolding unicode_segmentation unicode_width digits
an_undo_takes_it_back = refl

a_save_has_it : text_at (cut_off_by Save) ≡ (codes "xab", 1)
unfolding unicode_segmentation unicode_width digits
a_save_has_it = refl

and_it_is_stored : paste_of (cut_off_by Save) ≡ (None, Some Saved, false)
unfolding unicode_segmentation unicode_width digits
and_it_is_stored = refl

a_selection_begins_after_it : mark_of (cut_off_by Select) ≡ (Some 1, Fresh)
unfolding unicode_segmentation unicode_width digits
a_selection_begins_after_it = refl

abbrev pointed : List Key → List ℕ × ℕ
pointed ahead = text_at (after (start (codes "1\n2\n3") 3 4) (ahead ++ PasteStart ∷ letters (codes "x\ny\n") ++ Point 2 1 ∷ []))

at_rows_of_the_text_with_it : pointed [] ≡ (codes "x\ny\n1\n2\n3", 2)
unfolding unicode_segmentation unicode_width digits
at_rows_of_the_text_with_it = refl

from_the_top_as_it_was : pointed (Down ∷ []) ≡ (codes "1\nx\ny\n2\n3", 2)
unfolding unicode_segmentation unicode_width digits
from_the_top_as_it_was = refl

abbrev in_parts : Editor
in_parts = edited [] (letters (codes "a") ++ PasteStart ∷ letters (codes "b") ++ NewLine ∷ letters (codes "c") ++ PasteEnd ∷ [])

what_comes_after_is_typed : undo_groups_of in_parts ≡ (0 ∷ 1 ∷ 2 ∷ 3 ∷ [], 4, typings.Off)
unfolding unicode_segmentation unicode_width digits
what_comes_after_is_typed = refl

in_runs_of_its_own : text_at (after in_parts (Undo ∷ Undo ∷ Undo ∷ [])) ≡ (codes "a", 1)
unfolding unicode_segmentation unicode_width digits
in_runs_of_its_own = refl

abbrev erased : Editor
erased = after two_pastes (Undo ∷ PasteStart ∷ letters (codes "x") ++ Erase ∷ Erase ∷ letters (codes "y"))

erasures_after_it_are_a_run : undo_groups_of erased ≡ (0 ∷ 1 ∷ 2 ∷ 4 ∷ [], 5, typings.Word)
unfolding unicode_segmentation unicode_width digits
erasures_after_it_are_a_run = refl

undone_up_to_it : text_at (after erased (Undo ∷ Undo ∷ [])) ≡ (codes "abx", 3)
unfolding unicode_segmentation unicode_width digits
undone_up_to_it = refl

-- ---- what a paste resets

two_quits_around_it : (edited (codes "ab") (letters (codes "x") ++ Quit ∷ PasteStart ∷ PasteEnd ∷ Quit ∷ [])).ended ≡ true
unfolding unicode_segmentation unicode_width digits
two_quits_around_it = refl

not_around_what_it_brings : (edited (codes "ab") (letters (codes "x") ++ Quit ∷ paste (codes "y") ++ Quit ∷ [])).ended ≡ false
unfolding unicode_segmentation unicode_width digits
not_around_what_it_brings = refl

abbrev goal_after : List Key → Option Goal
goal_after keys = (edited (codes "abcdef\nab\nabcdef") (RowEnd ∷ LineDown ∷ PasteStart ∷ keys)).goal

the_rows_end_is_kept_at_its_start : goal_after [] ≡ Some End
unfolding unicode_segmentation unicode_width digits
the_rows_end_is_kept_at_its_start = refl

and_let_go_with_what_it_brings : goal_after (letters (codes "x")) ≡ None
unfolding unicode_segmentation unicode_width digits
and_let_go_with_what_it_brings = refl

-- ---- put in whole: a cluster that typing would make with what follows is not made

abbrev syllable : List Key → List ℕ × ℕ
syllable keys = text_at (edited (0x1161 ∷ []) keys)

typed_into_a_syllable : syllable (letters (0x1112 ∷ 0x78 ∷ [])) ≡ (0xE1 ∷ 0x84 ∷ 0x92 ∷ 0xE1 ∷ 0x85 ∷ 0xA1 ∷ 0x78 ∷ [], 7)
unfolding unicode_segmentation unicode_width digits
typed_into_a_syllable = refl

pasted_before_it : syllable (paste (0x1112 ∷ 0x78 ∷ [])) ≡ (0xE1 ∷ 0x84 ∷ 0x92 ∷ 0x78 ∷ 0xE1 ∷ 0x85 ∷ 0xA1 ∷ [], 4)
unfolding unicode_segmentation unicode_width digits
pasted_before_it = refl

abbrev with_a_mark : Editor
with_a_mark = edited (codes "e") (Forward ∷ paste (0x301 ∷ 0x66 ∷ []))

a_mark_joins_the_letter_before : text_at with_a_mark ≡ (0x65 ∷ 0xCC ∷ 0x81 ∷ 0x66 ∷ [], 4)
unfolding unicode_segmentation unicode_width digits
a_mark_joins_the_letter_before = refl

and_is_taken_back : text_at (after with_a_mark (Undo ∷ [])) ≡ (codes "e", 1)
unfolding unicode_segmentation unicode_width digits
and_is_taken_back = refl

-- ---- a clipboard

abbrev copying : Key → List ℕ → Option (List ℕ)
copying key text = clip_of (after (with_clipboard (start text 2 40)) (key ∷ [])) key

a_copy_goes_out : copying Copy (codes "ab") ≡ Some (codes "ab")
unfolding unicode_segmentation unicode_width digits
a_copy_goes_out = refl

a_cut_goes_out : copying Cut (codes "a\nb") ≡ Some (codes "a\n")
unfolding unicode_segmentation unicode_width digits
a_cut_goes_out = refl

abbrev copying_after : List ℕ → List Key → Key → Option (List ℕ)
copying_after text keys key = clip_of (after (with_clipboard (start text 2 40)) (keys ++ key ∷ [])) key

the_region_is_cut : copying_after (codes "abcd") (Mark ∷ Forward ∷ Forward ∷ []) Cut ≡ Some (codes "ab")
unfolding unicode_segmentation unicode_width digits
the_region_is_cut = refl

with_its_line_end : copying Copy (0x5D0 ∷ 0xD ∷ 0xA ∷ 0x62 ∷ []) ≡ Some (0xD7 ∷ 0x90 ∷ 0xD ∷ 0xA ∷ [])
unfolding unicode_segmentation unicode_width digits
with_its_line_end = refl

not_mirrored : copying Copy (0x28 ∷ 0x5D0 ∷ 0x29 ∷ []) ≡ Some (0x28 ∷ 0xD7 ∷ 0x90 ∷ 0x29 ∷ [])
unfolding unicode_segmentation unicode_width digits
not_mirrored = refl

abbrev in_two_directions : List ℕ
in_two_directions = 0x61 ∷ 0x20 ∷ 0x5D0 ∷ 0x5D1 ∷ 0x20 ∷ 0x62 ∷ []

in_stored_order : copying_after in_two_directions (Mark ∷ Forward ∷ Forward ∷ Forward ∷ []) Copy ≡ Some (0x61 ∷ 0x20 ∷ 0xD7 ∷ 0x90 ∷ [])
unfolding unicode_segmentation unicode_width digits
in_stored_order = refl

and_from_the_end : copying_after in_two_directions (RowEnd ∷ Mark ∷ Back ∷ Back ∷ Back ∷ []) Copy ≡ Some (0xD7 ∷ 0x91 ∷ 0x20 ∷ 0x62 ∷ [])
unfolding unicode_segmentation unicode_width digits
and_from_the_end = refl

what_is_pasted_goes_out : copying_after (codes "ab") (PasteStart ∷ letters (codes "x")) Copy ≡ Some (codes "xab")
unfolding unicode_segmentation unicode_width digits
what_is_pasted_goes_out = refl

nothing_is_copied : copying Copy [] ≡ None
unfolding unicode_segmentation unicode_width digits
nothing_is_copied = refl

nothing_is_cut : copying Cut [] ≡ None
unfolding unicode_segmentation unicode_width digits
nothing_is_cut = refl

a_copy_in_a_question_gives_it_up : clip_of (after (with_clipboard (start (codes "ab") 2 40)) (Name ∷ Copy ∷ [])) Copy ≡ None
unfolding unicode_segmentation unicode_width digits
a_copy_in_a_question_gives_it_up = refl

without_a_clipboard : clip_of (edited (codes "ab") (Copy ∷ [])) Copy ≡ None
unfolding unicode_segmentation unicode_width digits
without_a_clipboard = refl
