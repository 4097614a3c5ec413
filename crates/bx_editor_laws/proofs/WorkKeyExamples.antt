-- Worked examples: words and points erased, new lines, the next match, Cancel, and moves that keep their column.
use Rattle.std.proofs.Common.{◌≡◌, ℕ, List, [], ◌∷◌, ◌++◌, Option, Some, None, refl, replicate}
use Rattle.std.specs.Prelude.{codes}
use Rattle.std.specs.Fmt.{digits}
use Rattle.ucd_case.proofs.Computing.{ucd_case}
use Rattle.unicode_normalization.proofs.Computing.{unicode_normalization}
use Rattle.unicode_segmentation.proofs.Computing.{unicode_segmentation}
use Rattle.unicode_width.proofs.Computing.{unicode_width}
use Rattle.bx_keys.specs.declared.key.Key.{Key}
use Rattle.bx_keys.specs.declared.key.Key.TheVariants.{Insert, Down, Forward, Find, Left, Mark, Repaint, RowEnd, Size, TextEnd, UndoEdit, Up}
use Rattle.bx_keys.specs.declared.key.Key.TheVariants.{EraseWord, DeleteWord, ErasePoint, NewLine, FindNext, Cancel, LineUp, LineDown, PageBack, PageOn}
use Rattle.bx_editor.specs.declared.message.Message.{Message}
use Rattle.bx_view.specs.declared.moves.Goal.{Goal}
use Rattle.bx_view.specs.declared.moves.Goal.TheVariants.{Column, End}
use Rattle.bx_editor.specs.declared.message.Message.TheVariants.{FromStart}
use Rattle.bx_editor.specs.declared.search_state.SearchState.{SearchState}
use Rattle.bx_editor.specs.declared.search_state.SearchState.TheVariants.{Off, Begun}
use Rattle.bx_editor.specs.Editor.{Editor}
use Rattle.bx_editor.proofs.Computed.{start, after}

abbrev text_and_place : Editor → List ℕ × ℕ
text_and_place e = (e.content.text, e.place)

-- text and place after keys in a window of four rows
abbrev edited : List ℕ → List Key → List ℕ × ℕ
edited text keys = text_and_place (after (start text 4 20) keys)

-- place and kept column
abbrev gone_to : List ℕ → List Key → ℕ × Option Goal
gone_to text keys = let e = after (start text 4 20) keys in (e.place, e.goal)

abbrev acute : ℕ
acute = 0x301

-- ---- words erased

pub a_word_back : edited (codes "ab, cd") (TextEnd ∷ EraseWord ∷ []) ≡ (codes "ab, ", 4)
unfolding unicode_segmentation unicode_width digits
a_word_back = refl

pub two_words_back : edited (codes "ab, cd") (TextEnd ∷ EraseWord ∷ EraseWord ∷ []) ≡ ([], 0)
unfolding unicode_segmentation unicode_width digits
two_words_back = refl

pub words_back_come_again : edited (codes "ab, cd") (TextEnd ∷ EraseWord ∷ EraseWord ∷ UndoEdit ∷ UndoEdit ∷ []) ≡ (codes "ab, cd", 6)
unfolding unicode_segmentation unicode_width digits
words_back_come_again = refl

pub a_word_on : edited (codes "ab, cd") (DeleteWord ∷ []) ≡ (codes "cd", 0)
unfolding unicode_segmentation unicode_width digits
a_word_on = refl

pub inside_a_word : edited (codes "abcd") (Forward ∷ Forward ∷ EraseWord ∷ []) ≡ (codes "cd", 0)
unfolding unicode_segmentation unicode_width digits
inside_a_word = refl

pub at_a_lines_start_with_the_word_before_it : edited (codes "ab\n\ncd") (TextEnd ∷ replicate 3 EraseWord) ≡ ([], 0)
unfolding unicode_segmentation unicode_width digits
at_a_lines_start_with_the_word_before_it = refl

pub at_a_lines_end_the_separator_alone : edited (codes "ab\n\ncd") (Forward ∷ Forward ∷ DeleteWord ∷ []) ≡ (codes "ab\ncd", 2)
unfolding unicode_segmentation unicode_width digits
at_a_lines_end_the_separator_alone = refl

pub cr_lf_is_one_separator : edited (codes "a\r\nb") (Forward ∷ DeleteWord ∷ []) ≡ (codes "ab", 1)
unfolding unicode_segmentation unicode_width digits
cr_lf_is_one_separator = refl

pub nothing_before_the_text : edited (codes "ab") (EraseWord ∷ []) ≡ (codes "ab", 0)
unfolding unicode_segmentation unicode_width digits
nothing_before_the_text = refl

-- ---- points erased

pub a_point_leaves_its_letter : edited (0x5d0 ∷ acute ∷ 0x5d1 ∷ []) (Forward ∷ ErasePoint ∷ []) ≡ (0xd7 ∷ 0x90 ∷ 0xd7 ∷ 0x91 ∷ [], 2)
unfolding unicode_segmentation unicode_width digits
a_point_leaves_its_letter = refl

pub a_letter_without_points_goes : edited (0x5d0 ∷ 0x5d1 ∷ []) (Forward ∷ ErasePoint ∷ []) ≡ (0xd7 ∷ 0x91 ∷ [], 0)
unfolding unicode_segmentation unicode_width digits
a_letter_without_points_goes = refl

pub a_joiner_is_a_point : edited (0x61 ∷ 0x200c ∷ 0x62 ∷ []) (Forward ∷ ErasePoint ∷ []) ≡ (codes "ab", 1)
unfolding unicode_segmentation unicode_width digits
a_joiner_is_a_point = refl

pub cr_lf_goes_as_one : edited (codes "a\r\nb") (Forward ∷ Forward ∷ ErasePoint ∷ []) ≡ (codes "ab", 1)
unfolding unicode_segmentation unicode_width digits
cr_lf_goes_as_one = refl

pub a_mark_that_begins_a_line_is_a_unit : edited (codes "a\n" ++ acute ∷ []) (TextEnd ∷ ErasePoint ∷ []) ≡ (codes "a\n", 2)
unfolding unicode_segmentation unicode_width digits
a_mark_that_begins_a_line_is_a_unit = refl

pub a_selector_is_no_point : edited (0x2764 ∷ 0xfe0f ∷ 0x78 ∷ []) (Forward ∷ ErasePoint ∷ []) ≡ (codes "x", 0)
unfolding unicode_segmentation unicode_width digits
a_selector_is_no_point = refl

-- ---- new lines

pub a_new_line : edited (codes "ab") (Forward ∷ NewLine ∷ []) ≡ (codes "a\nb", 2)
unfolding unicode_segmentation unicode_width digits
a_new_line = refl

pub cr_lf_where_the_first_is_cr_lf : edited (codes "b\r\nc\n") (NewLine ∷ []) ≡ (codes "\r\nb\r\nc\n", 2)
unfolding unicode_segmentation unicode_width digits
cr_lf_where_the_first_is_cr_lf = refl

pub lf_where_the_first_is_lf : edited (codes "b\nc\r\n") (NewLine ∷ []) ≡ (codes "\nb\nc\r\n", 1)
unfolding unicode_segmentation unicode_width digits
lf_where_the_first_is_lf = refl

pub lf_where_the_first_is_cr : edited (codes "b\rc\r\n") (NewLine ∷ []) ≡ (codes "\nb\rc\r\n", 1)
unfolding unicode_segmentation unicode_width digits
lf_where_the_first_is_cr = refl

pub cr_lf_is_one_edit : edited (codes "a\r\nb") (TextEnd ∷ NewLine ∷ UndoEdit ∷ []) ≡ (codes "a\r\nb", 4)
unfolding unicode_segmentation unicode_width digits unicode_normalization ucd_case
cr_lf_is_one_edit = refl

-- ---- the next match, and Cancel

-- place, whether a search is on, and the message
abbrev found : List ℕ → List Key → ℕ × (SearchState × Option Message)
found text keys = let e = after (start text 2 40) keys in (e.place, (e.search_state, e.message))

-- a search for b that has ended
abbrev sought_b : List Key
sought_b = Find ∷ Insert 0x62 ∷ Insert 0xA ∷ []

pub without_a_query_a_search_begins : found (codes "abab") (FindNext ∷ []) ≡ (0, (Begun, None))
unfolding unicode_segmentation unicode_width digits
without_a_query_a_search_begins = refl

pub with_one_no_search_is_on : found (codes "abab") (sought_b ++ FindNext ∷ []) ≡ (3, (Off, None))
unfolding unicode_segmentation unicode_width digits unicode_normalization ucd_case
with_one_no_search_is_on = refl

pub behind_the_last_from_the_start : found (codes "abab") (sought_b ++ FindNext ∷ FindNext ∷ []) ≡ (1, (Off, Some FromStart))
unfolding unicode_segmentation unicode_width digits unicode_normalization ucd_case
behind_the_last_from_the_start = refl

pub cancel_leaves_a_search : found (codes "abab") (Forward ∷ Find ∷ Insert 0x61 ∷ Cancel ∷ []) ≡ (1, (Off, None))
unfolding unicode_segmentation unicode_width digits unicode_normalization ucd_case
cancel_leaves_a_search = refl

pub cancel_takes_the_mark : (after (start (codes "abcd") 2 40) (Mark ∷ Forward ∷ Cancel ∷ [])).mark ≡ None
unfolding unicode_segmentation unicode_width digits
cancel_takes_the_mark = refl

pub cancel_in_a_search_leaves_the_mark : (after (start (codes "abcd") 2 40) (Mark ∷ Find ∷ Insert 0x63 ∷ Cancel ∷ [])).mark ≡ Some 0
unfolding unicode_segmentation unicode_width digits unicode_normalization ucd_case
cancel_in_a_search_leaves_the_mark = refl

pub in_a_search_a_point_is_a_letter_of_the_query : (after (start (codes "xab") 2 40) (Find ∷ Insert 0x61 ∷ Insert 0x62 ∷ ErasePoint ∷ [])).query ≡ codes "a"
unfolding unicode_segmentation unicode_width digits unicode_normalization ucd_case
in_a_search_a_point_is_a_letter_of_the_query = refl

pub a_new_line_ends_a_search : found (codes "a\nb") (Find ∷ Insert 0x62 ∷ NewLine ∷ []) ≡ (2, (Off, None))
unfolding unicode_segmentation unicode_width digits unicode_normalization ucd_case
a_new_line_ends_a_search = refl

-- ---- the kept column

abbrev short_between : List ℕ
short_between = codes "abcdef\nab\nabcdef"

pub through_a_short_row_and_back : gone_to short_between (RowEnd ∷ LineDown ∷ LineDown ∷ LineUp ∷ LineUp ∷ []) ≡ (6, Some End)
unfolding unicode_segmentation unicode_width digits
through_a_short_row_and_back = refl

pub down_to_the_column : gone_to short_between (RowEnd ∷ LineDown ∷ LineDown ∷ []) ≡ (16, Some End)
unfolding unicode_segmentation unicode_width digits
down_to_the_column = refl

pub up_and_down_keep_none : gone_to short_between (RowEnd ∷ Down ∷ Down ∷ Up ∷ Up ∷ []) ≡ (2, None)
unfolding unicode_segmentation unicode_width digits
up_and_down_keep_none = refl

pub another_key_lets_it_go : gone_to short_between (RowEnd ∷ LineDown ∷ Left ∷ LineDown ∷ []) ≡ (11, Some (Column 2))
unfolding unicode_segmentation unicode_width digits
another_key_lets_it_go = refl

pub repaint_and_size_do_not : gone_to short_between (RowEnd ∷ LineDown ∷ Size 4 30 ∷ Repaint ∷ LineDown ∷ []) ≡ (16, Some End)
unfolding unicode_segmentation unicode_width digits
repaint_and_size_do_not = refl

pub pages_keep_it : (after (start (codes "abcd\n\nabcd\n\nabcd") 3 20) (RowEnd ∷ LineDown ∷ PageOn ∷ PageOn ∷ PageBack ∷ [])).place ≡ 10
unfolding unicode_segmentation unicode_width digits
pages_keep_it = refl

pub in_rows_from_right_to_left : (after (start ((0x5d0 ∷ 0x5d1 ∷ 0x5d2 ∷ 0xa ∷ []) ++ 0x5d0 ∷ []) 3 6) (RowEnd ∷ LineDown ∷ LineUp ∷ [])).place ≡ 6
unfolding unicode_segmentation unicode_width digits
in_rows_from_right_to_left = refl
