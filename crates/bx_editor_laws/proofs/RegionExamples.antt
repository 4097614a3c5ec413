-- Worked examples: marks, and texts that are copied, cut and put.
use Rattle.std.proofs.Common.{◌≡◌, ℕ, false, List, [], ◌∷◌, ◌++◌, Option, Some, None, refl}
use Rattle.std.specs.Prelude.{codes}
use Rattle.std.specs.Fmt.{digits}
use Rattle.unicode_segmentation.proofs.Computing.{unicode_segmentation}
use Rattle.unicode_width.proofs.Computing.{unicode_width}
use Rattle.bx_keys.specs.declared.key.Key.{Key}
use Rattle.bx_keys.specs.declared.key.Key.TheVariants.{Insert, Erase, Delete, Forward, Down, RowEnd, Save, Quit, UndoEdit, RedoEdit, Direction, Size}
use Rattle.bx_keys.specs.declared.key.Key.TheVariants.{Mark, Copy, Cut, Put, Help}
use Rattle.bx_editor.specs.declared.message.Message.{Message}
use Rattle.bx_editor.specs.declared.message.Message.TheVariants as messages
use Rattle.bx_editor.specs.Editor.{Editor}
use Rattle.bx_editor.proofs.Computed.{start, after, letters, shown, ascii_columns}

-- text, place, mark and message
abbrev marked : Editor → List ℕ × ℕ × Option ℕ × Option Message
marked e = (e.content.text, e.place, e.mark, e.message)

-- text, place and what is held
abbrev held : Editor → List ℕ × ℕ × List ℕ
held e = (e.content.text, e.place, e.held)

abbrev from : List ℕ → List Key → Editor
from text keys = after (start text 3 30) keys

-- ---- the mark

pub a_mark_is_set : marked (from (codes "ab") (Forward ∷ Mark ∷ [])) ≡ (codes "ab", 1, Some 1, Some messages.MarkSet)
unfolding unicode_segmentation unicode_width digits
a_mark_is_set = refl

pub a_mark_is_taken_away : marked (from (codes "ab") (Mark ∷ Mark ∷ [])) ≡ (codes "ab", 0, None, Some messages.MarkOff)
unfolding unicode_segmentation unicode_width digits
a_mark_is_taken_away = refl

pub a_mark_is_moved : marked (from (codes "ab") (Mark ∷ Forward ∷ Mark ∷ [])) ≡ (codes "ab", 1, Some 1, Some messages.MarkSet)
unfolding unicode_segmentation unicode_width digits
a_mark_is_moved = refl

pub a_letter_takes_the_mark_away : marked (from (codes "ab") (Mark ∷ letters (codes "x"))) ≡ (codes "xab", 1, None, None)
unfolding unicode_segmentation unicode_width digits
a_letter_takes_the_mark_away = refl

pub undo_takes_the_mark_away : marked (from (codes "ab") (Insert 0x78 ∷ Mark ∷ UndoEdit ∷ [])) ≡ (codes "ab", 0, None, None)
unfolding unicode_segmentation unicode_width digits
undo_takes_the_mark_away = refl

pub redo_takes_the_mark_away : marked (from (codes "ab") (Insert 0x78 ∷ UndoEdit ∷ Mark ∷ RedoEdit ∷ [])) ≡ (codes "xab", 1, None, None)
unfolding unicode_segmentation unicode_width digits
redo_takes_the_mark_away = refl

pub nothing_to_redo_leaves_the_mark : marked (from (codes "ab") (Mark ∷ RedoEdit ∷ [])) ≡ (codes "ab", 0, Some 0, Some messages.NothingToRedo)
unfolding unicode_segmentation unicode_width digits
nothing_to_redo_leaves_the_mark = refl

pub what_removes_nothing_leaves_the_mark : marked (from (codes "ab") (Mark ∷ Erase ∷ RowEnd ∷ Delete ∷ [])) ≡ (codes "ab", 2, Some 0, None)
unfolding unicode_segmentation unicode_width digits
what_removes_nothing_leaves_the_mark = refl

pub nothing_to_put_leaves_the_mark : marked (from (codes "ab") (Mark ∷ Put ∷ [])) ≡ (codes "ab", 0, Some 0, Some messages.NothingToPut)
unfolding unicode_segmentation unicode_width digits
nothing_to_put_leaves_the_mark = refl

pub the_mark_stays_over_save_size_and_direction : (from (codes "ab") (Mark ∷ RowEnd ∷ Save ∷ Size 2 10 ∷ Direction ∷ [])).mark ≡ Some 0
unfolding unicode_segmentation unicode_width digits
the_mark_stays_over_save_size_and_direction = refl

-- ---- copying

-- A B in Hebrew letters
pub a_region_is_copied : held (from (codes "a " ++ 0x5d0 ∷ 0x5d1 ∷ codes " b") (Mark ∷ Forward ∷ Forward ∷ Forward ∷ Copy ∷ []))
    ≡ (codes "a " ++ 0xd7 ∷ 0x90 ∷ 0xd7 ∷ 0x91 ∷ codes " b", 4, codes "a " ++ 0xd7 ∷ 0x90 ∷ [])
unfolding unicode_segmentation unicode_width digits
a_region_is_copied = refl

pub copying_takes_the_mark_away : marked (from (codes "ab") (Mark ∷ Forward ∷ Copy ∷ [])) ≡ (codes "ab", 1, None, Some messages.Copied)
unfolding unicode_segmentation unicode_width digits
copying_takes_the_mark_away = refl

pub a_line_is_copied_with_its_separator : held (from (codes "ab\ncd") (Copy ∷ [])) ≡ (codes "ab\ncd", 0, codes "ab\n")
unfolding unicode_segmentation unicode_width digits
a_line_is_copied_with_its_separator = refl

pub the_last_line_has_none : held (from (codes "ab\ncd") (Down ∷ Copy ∷ [])) ≡ (codes "ab\ncd", 3, codes "cd")
unfolding unicode_segmentation unicode_width digits
the_last_line_has_none = refl

pub nothing_to_copy_leaves_what_is_held : held (from (codes "a\n") (Copy ∷ Down ∷ Mark ∷ Copy ∷ [])) ≡ (codes "a\n", 2, codes "a\n")
unfolding unicode_segmentation unicode_width digits
nothing_to_copy_leaves_what_is_held = refl

pub nothing_to_copy_takes_the_mark_away : marked (from (codes "a\n") (Down ∷ Mark ∷ Copy ∷ [])) ≡ (codes "a\n", 2, None, Some messages.NothingToCopy)
unfolding unicode_segmentation unicode_width digits
nothing_to_copy_takes_the_mark_away = refl

-- ---- cutting

pub a_region_is_cut : held (from (codes "abcd") (Forward ∷ Mark ∷ Forward ∷ Forward ∷ Cut ∷ [])) ≡ (codes "ad", 1, codes "bc")
unfolding unicode_segmentation unicode_width digits
a_region_is_cut = refl

pub a_cut_takes_the_mark_away : marked (from (codes "abcd") (Mark ∷ Forward ∷ Cut ∷ [])) ≡ (codes "bcd", 0, None, Some messages.Cut)
unfolding unicode_segmentation unicode_width digits
a_cut_takes_the_mark_away = refl

pub a_cut_is_one_edit : held (from (codes "abcd") (Forward ∷ Mark ∷ Forward ∷ Forward ∷ Cut ∷ UndoEdit ∷ [])) ≡ (codes "abcd", 3, codes "bc")
unfolding unicode_segmentation unicode_width digits
a_cut_is_one_edit = refl

pub a_line_is_cut : held (from (codes "a\nb\nc") (Down ∷ Cut ∷ [])) ≡ (codes "a\nc", 2, codes "b\n")
unfolding unicode_segmentation unicode_width digits
a_line_is_cut = refl

pub nothing_to_cut : marked (from (codes "a\n") (Down ∷ Mark ∷ Cut ∷ [])) ≡ (codes "a\n", 2, None, Some messages.NothingToCopy)
unfolding unicode_segmentation unicode_width digits
nothing_to_cut = refl

pub a_cut_that_joins_cr_and_lf : held (from (codes "a\rx\nb") (Forward ∷ Forward ∷ Mark ∷ Forward ∷ Cut ∷ [])) ≡ (codes "a\r\nb", 3, codes "x")
unfolding unicode_segmentation unicode_width digits
a_cut_that_joins_cr_and_lf = refl

-- ---- putting

pub a_line_is_put : held (from (codes "a\nb") (Copy ∷ Put ∷ [])) ≡ (codes "a\na\nb", 2, codes "a\n")
unfolding unicode_segmentation unicode_width digits
a_line_is_put = refl

pub each_put_is_one_edit : held (from (codes "a\nb") (Copy ∷ Put ∷ Put ∷ UndoEdit ∷ [])) ≡ (codes "a\na\nb", 2, codes "a\n")
unfolding unicode_segmentation unicode_width digits
each_put_is_one_edit = refl

-- before U+0301
pub the_place_is_past_the_cluster : (from (0x65 ∷ 10 ∷ 0x301 ∷ []) (Mark ∷ Forward ∷ Copy ∷ Forward ∷ Put ∷ [])).place ≡ 5
unfolding unicode_segmentation unicode_width digits
the_place_is_past_the_cluster = refl

pub a_put_empties_the_future : marked (from (codes "ab") (Copy ∷ Insert 0x78 ∷ UndoEdit ∷ Put ∷ RedoEdit ∷ []))
    ≡ (codes "ab\nab", 3, None, Some messages.NothingToRedo)
unfolding unicode_segmentation unicode_width digits
a_put_empties_the_future = refl

-- ---- help

pub help_is_a_key_between_two_quits : (from (codes "ab") (Insert 0x78 ∷ Quit ∷ Help ∷ Quit ∷ [])).ended ≡ false
unfolding unicode_segmentation unicode_width digits
help_is_a_key_between_two_quits = refl

pub the_control_keys_are_listed : (shown (after (start [] 2 80) (Help ∷ [])) 0).columns
    ≡ ascii_columns (codes "                                                                                "
    ++ codes "- 1:1 ^S save ^Q quit ^Z undo ^F find ^X cut ^C copy ^V paste F2 ltr/rtl        ")
unfolding unicode_segmentation unicode_width digits
the_control_keys_are_listed = refl
