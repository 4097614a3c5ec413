-- Worked examples: texts, places, status rows and pictures after keys.
use Rattle.std.proofs.Common.{◌≡◌, ℕ, true, false, List, [], ◌∷◌, ◌++◌, Some, refl}
use Rattle.std.specs.Prelude.{codes, Option, None}
use Rattle.std.specs.Fmt.{digits}
use Rattle.unicode_segmentation.proofs.Computing.{unicode_segmentation}
use Rattle.unicode_width.proofs.Computing.{unicode_width}
use Rattle.bx_keys.specs.declared.key.Key.TheVariants.{Insert, Erase, Delete, Forward, Down, RowEnd, Save, Quit, UndoEdit, RedoEdit, Direction, Size, Find, Notice}
use Rattle.bx_keys.specs.declared.notice.Notice.TheVariants as notices
use Rattle.bx_store.specs.declared.cause.SaveCause.{SaveCause}
use Rattle.bx_store.specs.declared.cause.SaveCause.TheVariants.{NoSpace}
use Rattle.bx_editor.specs.declared.message.Message.TheVariants.{NothingToUndo, NothingToRedo, Unsaved}
use Rattle.bx_editor.specs.Editor.{Editor}
use Rattle.bx_editor.specs.declared.undo_groups.typing.Typing.TheVariants.{Off}
use Rattle.bx_editor.specs.Keys.{after_key}
use Rattle.bx_editor.proofs.Computed.{tables, start, after, letters, shown, ascii_columns}

abbrev text_and_place : Editor → List ℕ × ℕ
text_and_place e = (e.content.text, e.place)

abbrev wide : ℕ
wide = 0x4e16

abbrev acute : ℕ
acute = 0x301

-- flags of regions are pairs of these: D, E
abbrev region_d : ℕ
region_d = 0x1f1e9

abbrev region_e : ℕ
region_e = 0x1f1ea

-- ---- editing

pub delete_takes_cr_lf_at_once : text_and_place (after (start (codes "a\r\nb") 2 10) (RowEnd ∷ Delete ∷ [])) ≡ (codes "ab", 1)
unfolding unicode_segmentation unicode_width digits
delete_takes_cr_lf_at_once = refl

pub a_mark_joins_its_letter : text_and_place (after (start (codes "e") 2 10) (RowEnd ∷ Insert acute ∷ [])) ≡ (0x65 ∷ 0xcc ∷ 0x81 ∷ [], 3)
unfolding unicode_segmentation unicode_width digits
a_mark_joins_its_letter = refl

pub erase_takes_a_cluster : text_and_place (after (start (codes "e") 2 10) (RowEnd ∷ Insert acute ∷ Erase ∷ [])) ≡ ([], 0)
unfolding unicode_segmentation unicode_width digits
erase_takes_a_cluster = refl

pub undo_gives_the_cluster_back : text_and_place (after (start (codes "e") 2 10) (RowEnd ∷ Insert acute ∷ Erase ∷ UndoEdit ∷ []))
    ≡ (0x65 ∷ 0xcc ∷ 0x81 ∷ [], 3)
unfolding unicode_segmentation unicode_width digits
undo_gives_the_cluster_back = refl

pub redo_takes_it_again : text_and_place (after (start (codes "e") 2 10) (RowEnd ∷ Insert acute ∷ Erase ∷ UndoEdit ∷ RedoEdit ∷ [])) ≡ ([], 0)
unfolding unicode_segmentation unicode_width digits
redo_takes_it_again = refl

pub a_letter_before_a_mark_takes_it : text_and_place (after (start (acute ∷ []) 2 10) (letters (codes "e"))) ≡ (0x65 ∷ 0xcc ∷ 0x81 ∷ [], 3)
unfolding unicode_segmentation unicode_width digits
a_letter_before_a_mark_takes_it = refl

pub a_region_before_a_flag : (after (start (region_d ∷ region_e ∷ []) 2 10) (Insert region_e ∷ [])).place ≡ 8
unfolding unicode_segmentation unicode_width digits
a_region_before_a_flag = refl

pub lf_joins_a_cr_before_it : text_and_place (after (start (codes "1\r2") 3 10) (Forward ∷ Forward ∷ Insert 10 ∷ [])) ≡ (codes "1\r\n2", 3)
unfolding unicode_segmentation unicode_width digits
lf_joins_a_cr_before_it = refl

pub delete_joins_cr_and_lf : text_and_place (after (start (codes "1\rx\n2") 3 10) (Forward ∷ Forward ∷ Delete ∷ [])) ≡ (codes "1\r\n2", 3)
unfolding unicode_segmentation unicode_width digits
delete_joins_cr_and_lf = refl

pub erase_joins_a_mark_to_a_letter : text_and_place (after (start ((0x65 ∷ 10 ∷ acute ∷ [])) 3 10) (Forward ∷ Forward ∷ Erase ∷ []))
    ≡ (0x65 ∷ 0xcc ∷ 0x81 ∷ [], 3)
unfolding unicode_segmentation unicode_width digits
erase_joins_a_mark_to_a_letter = refl

pub erase_at_the_start_does_nothing : (after (start (codes "ab") 2 10) (Erase ∷ [])).changed ≡ false
unfolding unicode_segmentation unicode_width digits
erase_at_the_start_does_nothing = refl

pub an_edit_empties_the_future : after (start (codes "ab") 2 30) (letters (codes "x") ++ (UndoEdit ∷ Insert 0x79 ∷ RedoEdit ∷ []))
    ≡ record (after (start (codes "ab") 2 30) (letters (codes "x") ++ (UndoEdit ∷ Insert 0x79 ∷ []))) { typing = Off; message = Some NothingToRedo }
unfolding unicode_segmentation unicode_width digits
an_edit_empties_the_future = refl

pub a_saved_text_that_is_undone_is_changed : (after (start [] 2 10) (letters (codes "x") ++ (Save ∷ UndoEdit ∷ []))).changed ≡ true
unfolding unicode_segmentation unicode_width digits
a_saved_text_that_is_undone_is_changed = refl

pub nothing_to_undo : (after (start (codes "ab") 2 30) (UndoEdit ∷ [])).message ≡ Some NothingToUndo
unfolding unicode_segmentation unicode_width digits
nothing_to_undo = refl

-- ---- quitting

pub quit_ends_what_is_unchanged : (after (start (codes "ab") 1 5) (Quit ∷ [])).ended ≡ true
unfolding unicode_segmentation unicode_width digits
quit_ends_what_is_unchanged = refl

pub quit_asks_again : (after (start (codes "ab") 2 30) (Insert 0x78 ∷ Quit ∷ [])).message ≡ Some Unsaved
unfolding unicode_segmentation unicode_width digits
quit_asks_again = refl

pub a_size_between_two_quits_does_not_count : (after (start (codes "ab") 2 30) (Insert 0x78 ∷ Quit ∷ Size 2 25 ∷ Quit ∷ [])).ended ≡ true
unfolding unicode_segmentation unicode_width digits
a_size_between_two_quits_does_not_count = refl

pub a_direction_between_two_quits_counts : (after (start (codes "ab") 2 30) (Insert 0x78 ∷ Quit ∷ Direction ∷ Quit ∷ [])).ended ≡ false
unfolding unicode_segmentation unicode_width digits
a_direction_between_two_quits_counts = refl

pub a_notice_between_two_quits_does_not_count :
    (after (start (codes "ab") 2 30) (Insert 0x78 ∷ Quit ∷ Notice notices.NoSpace ∷ Quit ∷ [])).ended ≡ true
unfolding unicode_segmentation unicode_width digits
a_notice_between_two_quits_does_not_count = refl

-- ---- notices

pub a_notice_is_the_message : (shown (after (start (codes "ab") 2 32) (Insert 0x78 ∷ Notice notices.NoSpace ∷ [])) 0).columns
    ≡ ascii_columns (codes "xab                             " ++ codes "* 1:2 no crash copy: no space   ")
unfolding unicode_segmentation unicode_width digits
a_notice_is_the_message = refl

-- the search goes on, and its next letter is sought
pub a_notice_in_a_search : after (start (codes "abc") 2 30) (Find ∷ Insert 0x62 ∷ Notice notices.KeptAgain ∷ Insert 0x63 ∷ [])
    ≡ after (start (codes "abc") 2 30) (Find ∷ Insert 0x62 ∷ Insert 0x63 ∷ [])
unfolding unicode_segmentation unicode_width digits
a_notice_in_a_search = refl

-- ---- pictures

pub an_empty_file : (shown (start [] 2 10) 0).columns ≡ ascii_columns (codes "          - 1:1     ")
unfolding unicode_segmentation unicode_width digits
an_empty_file = refl

pub a_row_alone_has_no_status : (shown (start (codes "ab") 1 5) 0).columns ≡ ascii_columns (codes "ab   ")
unfolding unicode_segmentation unicode_width digits
a_row_alone_has_no_status = refl

pub the_question_is_seen : (shown (after (start (codes "ab") 2 30) (Insert 0x78 ∷ Quit ∷ [])) 0).columns
    ≡ ascii_columns (codes "xab                           " ++ codes "* 1:2 unsaved: ^Q again       ")
unfolding unicode_segmentation unicode_width digits
the_question_is_seen = refl

pub a_size_keeps_the_message : (shown (after (start (codes "ab") 2 30) (Insert 0x78 ∷ Quit ∷ Size 2 25 ∷ [])) 0).columns
    ≡ ascii_columns (codes "xab                      " ++ codes "* 1:2 unsaved: ^Q again  ")
unfolding unicode_segmentation unicode_width digits
a_size_keeps_the_message = refl

pub three_lines_from_the_top : shown (start (codes "1\n2\n3") 3 4) 0
    ≡ record { height = 3; width = 4; columns = ascii_columns (codes "1   2   - 1:"); row = 0; column = 0 }
unfolding unicode_segmentation unicode_width digits
three_lines_from_the_top = refl

pub the_top_follows_the_cursor : shown (after (start (codes "1\n2\n3") 3 4) (Down ∷ Down ∷ [])) 0
    ≡ record { height = 3; width = 4; columns = ascii_columns (codes "2   3   - 3:"); row = 1; column = 0 }
unfolding unicode_segmentation unicode_width digits
the_top_follows_the_cursor = refl

pub a_line_before_the_others : shown (after (start (codes "1\n2") 3 4) (Insert 10 ∷ [])) 0
    ≡ record { height = 3; width = 4; columns = ascii_columns (codes "    1   * 2:"); row = 1; column = 0 }
unfolding unicode_segmentation unicode_width digits
a_line_before_the_others = refl

pub a_long_line_wraps : (shown (start (codes "abcdef") 3 4) 0).columns ≡ ascii_columns (codes "abcdef  - 1:")
unfolding unicode_segmentation unicode_width digits
a_long_line_wraps = refl

pub a_save_is_told : (shown (after (start (codes "ab") 2 20) (Insert 0x78 ∷ Save ∷ [])) 0).columns
    ≡ ascii_columns (codes "xab                 " ++ codes "- 1:2 saved         ")
unfolding unicode_segmentation unicode_width digits
a_save_is_told = refl

-- a letter and a Save that fails
abbrev after_failed_save : ℕ → Option SaveCause → Editor
after_failed_save width cause =
    after_key tables (Some (record { cause = cause })) (after (start (codes "ab") 2 width) (Insert 0x78 ∷ [])) Save

pub a_failed_save_is_told : (shown (after_failed_save 20 None) 0).columns
    ≡ ascii_columns (codes "xab                 " ++ codes "* 1:2 save failed   ")
unfolding unicode_segmentation unicode_width digits
a_failed_save_is_told = refl

pub its_cause_is_told : (shown (after_failed_save 30 (Some NoSpace)) 0).columns
    ≡ ascii_columns (codes "xab                           " ++ codes "* 1:2 save failed: no space   ")
unfolding unicode_segmentation unicode_width digits
its_cause_is_told = refl

pub directions_take_turns : (shown (after (start (codes "ab") 2 30) (Direction ∷ [])) 0).columns
    ≡ ascii_columns (codes "ab                            " ++ codes "- 1:1 direction ltr           ")
unfolding unicode_segmentation unicode_width digits
directions_take_turns = refl

pub the_third_direction_is_the_first : (shown (after (start (codes "ab") 2 30) (Direction ∷ Direction ∷ Direction ∷ [])) 0).columns
    ≡ ascii_columns (codes "ab                            " ++ codes "- 1:1 direction auto          ")
unfolding unicode_segmentation unicode_width digits
the_third_direction_is_the_first = refl

pub an_ended_session_is_blank : shown (after (start (codes "ab") 1 5) (Quit ∷ [])) 0
    ≡ record { height = 1; width = 5; columns = ascii_columns (codes "     "); row = 0; column = 0 }
unfolding unicode_segmentation unicode_width digits
an_ended_session_is_blank = refl

-- A B in Hebrew letters, and cd
pub hebrew_begins_at_the_right : (shown (start (0x5d0 ∷ 0x5d1 ∷ codes " cd") 3 4) 0).column ≡ 3
unfolding unicode_segmentation unicode_width digits
hebrew_begins_at_the_right = refl

pub a_wide_glyph_moves_right : (shown (after (start (wide ∷ []) 1 4) (letters (codes "x"))) 0).column ≡ 1
unfolding unicode_segmentation unicode_width digits
a_wide_glyph_moves_right = refl
