-- Worked examples: what a journal leaves of searches, questions, runs and selections.
use Rattle.std.proofs.Common.{◌≡◌, ℕ, Bool, true, false, List, [], ◌∷◌, ◌++◌, Option, Some, None, refl}
use Rattle.std.specs.Prelude.{codes}
use Rattle.std.specs.Fmt.{digits}
use Rattle.ucd_case.proofs.Computing.{ucd_case}
use Rattle.unicode_normalization.proofs.Computing.{unicode_normalization}
use Rattle.unicode_segmentation.proofs.Computing.{unicode_segmentation}
use Rattle.unicode_width.proofs.Computing.{unicode_width}
use Rattle.bx_editor.specs.declared.undo_groups.typing.Typing.{Typing}
use Rattle.bx_editor.specs.declared.undo_groups.typing.Typing.TheVariants as typings
use Rattle.bx_editor.specs.declared.questions.answers.Prompt.{Prompt}
use Rattle.bx_editor.specs.declared.questions.answers.Prompt.TheVariants as prompts
use Rattle.bx_editor.specs.declared.search_state.SearchState.{SearchState}
use Rattle.bx_editor.specs.declared.search_state.SearchState.TheVariants.{Off}
use Rattle.bx_editor.specs.declared.cursor.Soft.{Soft}
use Rattle.bx_editor.specs.declared.cursor.Soft.TheVariants as softness
use Rattle.bx_editor.specs.Editor.{Editor}
use Rattle.bx_editor.proofs.Computed.{tables}
use Rattle.bx_editor.specs.Settings.{plain}
use Rattle.bx_session.specs.Session.{Session, with_settings}
use Rattle.bx_session.specs.Inputs.{presses_from}
use Rattle.bx_session.specs.Replaying.{after_journal}
use Rattle.bx_session.proofs.Computed.{after, start, csi}

-- after a journal over this text, and after more bytes that a session takes then
abbrev over : List ℕ → List ℕ → Session
over text bytes = after_journal tables (start text 2 20) (presses_from [] bytes)

abbrev more : Session → List ℕ → Editor
more s bytes = (after s bytes).editor

-- ---- searches

abbrev replayed : List ℕ → Editor
replayed bytes = (over (codes "abc") bytes).editor

abbrev left : List ℕ → List ℕ × ℕ × SearchState
left bytes = let e = replayed bytes in (e.content.text, e.place, e.search_state)

-- Find and c
abbrev finding_c : List ℕ
finding_c = csi (codes "70~") ++ codes "c"

pub a_quit_gives_a_search_up : left (finding_c ++ 0x11 ∷ codes "x") ≡ (codes "xabc", 1, Off)
unfolding unicode_segmentation unicode_width digits unicode_normalization ucd_case
a_quit_gives_a_search_up = refl

pub a_save_ends_a_search : left (finding_c ++ 0x13 ∷ codes "x") ≡ (codes "abxc", 3, Off)
unfolding unicode_segmentation unicode_width digits unicode_normalization ucd_case
a_save_ends_a_search = refl

pub a_copy_gives_a_search_up : left (finding_c ++ csi (codes "73~") ++ csi (codes "75~") ++ codes "x") ≡ (codes "xabc", 1, Off)
unfolding unicode_segmentation unicode_width digits unicode_normalization ucd_case
a_copy_gives_a_search_up = refl

pub other_quits_are_passed_over : left (codes "x" ++ 0x11 ∷ 0x11 ∷ codes "y") ≡ (codes "xyabc", 2, Off)
unfolding unicode_segmentation unicode_width digits
other_quits_are_passed_over = refl

pub an_open_search_ends_where_it_stands : left finding_c ≡ (codes "abc", 2, Off)
unfolding unicode_segmentation unicode_width digits unicode_normalization ucd_case
an_open_search_ends_where_it_stands = refl

pub the_query_is_kept : (replayed (csi (codes "70~") ++ codes "C")).query ≡ codes "C"
unfolding unicode_segmentation unicode_width digits
the_query_is_kept = refl

-- ---- questions

-- GoTo and 2, and a character by its code, not yet told
abbrev going_to_2 : List ℕ
going_to_2 = csi (codes "84~") ++ codes "2"

abbrev coding_a : List ℕ
coding_a = csi (codes "86~") ++ codes "u61"

-- text, place and question
abbrev asked : List ℕ → List ℕ × ℕ × Prompt
asked bytes = let e = (over (codes "a\nb") bytes).editor in (e.content.text, e.place, e.prompt)

pub an_open_question_is_closed : asked going_to_2 ≡ (codes "a\nb", 0, prompts.Off)
unfolding unicode_segmentation unicode_width digits
an_open_question_is_closed = refl

pub an_answered_one_has_gone : asked (going_to_2 ++ 0xA ∷ codes "x") ≡ (codes "a\nxb", 3, prompts.Off)
unfolding unicode_segmentation unicode_width digits
an_answered_one_has_gone = refl

pub a_quit_gives_a_question_up : asked (going_to_2 ++ 0x11 ∷ 0xA ∷ []) ≡ (codes "\na\nb", 1, prompts.Off)
unfolding unicode_segmentation unicode_width digits
a_quit_gives_a_question_up = refl

pub a_save_ends_a_question : asked (going_to_2 ++ 0x13 ∷ 0xA ∷ []) ≡ (codes "\na\nb", 1, prompts.Off)
unfolding unicode_segmentation unicode_width digits
a_save_ends_a_question = refl

pub a_code_puts_its_character_in : asked (coding_a ++ 0xA ∷ []) ≡ (codes "aa\nb", 1, prompts.Off)
unfolding unicode_segmentation unicode_width digits
a_code_puts_its_character_in = refl

-- ---- runs

abbrev undo_run : List ℕ
undo_run = csi (codes "82~")

abbrev redo_run : List ℕ
redo_run = csi (codes "83~")

-- text, where runs begin, and what the next edit may go on with
abbrev typed : Editor → List ℕ × List ℕ × Typing
typed e = (e.content.text, e.undo_groups, e.typing)

pub two_words_are_two_runs : typed (more (over [] (codes "x y")) []) ≡ (codes "x y", 0 ∷ 2 ∷ [], typings.Off)
unfolding unicode_segmentation unicode_width digits
two_words_are_two_runs = refl

pub a_run_is_over_at_the_end : (more (over [] (codes "x y")) (codes "z")).undo_groups ≡ 0 ∷ 2 ∷ 3 ∷ []
unfolding unicode_segmentation unicode_width digits
a_run_is_over_at_the_end = refl

pub runs_are_undone_behind_it : (more (over [] (codes "x y")) (codes "z" ++ undo_run ++ undo_run)).content.text ≡ codes "x "
unfolding unicode_segmentation unicode_width digits
runs_are_undone_behind_it = refl

-- ---- selections

-- mark, softness and place
abbrev selected : Editor → Option ℕ × Soft × ℕ
selected e = (e.mark, e.soft, e.place)

-- Select and Forward, then Forward
pub a_selection_is_old : selected (more (over (codes "abc") (csi (codes "81~") ++ 0x06 ∷ [])) []) ≡ (Some 0, softness.Old, 1)
unfolding unicode_segmentation unicode_width digits
a_selection_is_old = refl

pub a_move_takes_it_off : selected (more (over (codes "abc") (csi (codes "81~") ++ 0x06 ∷ [])) (0x06 ∷ [])) ≡ (None, softness.Off, 2)
unfolding unicode_segmentation unicode_width digits
a_move_takes_it_off = refl

-- ---- whether the text counts as changed

-- text, whether it counts as changed, and the length of the past at which it is the stored one
abbrev counted : Editor → List ℕ × Bool × Option ℕ
counted e = (e.content.text, e.changed, e.stored)

pub a_changed_text_has_none_stored : counted (more (over (codes "ab") (codes "xy")) []) ≡ (codes "xyab", true, None)
unfolding unicode_segmentation unicode_width digits
a_changed_text_has_none_stored = refl

pub no_undo_finds_what_is_stored : counted (more (over (codes "ab") (codes "xy")) undo_run) ≡ (codes "ab", true, None)
unfolding unicode_segmentation unicode_width digits
no_undo_finds_what_is_stored = refl

pub an_undo_in_a_journal_finds_the_opened_text : counted (more (over (codes "ab") (codes "x" ++ undo_run)) []) ≡ (codes "ab", false, Some 0)
unfolding unicode_segmentation unicode_width digits
an_undo_in_a_journal_finds_the_opened_text = refl

pub a_redo_changes_it : counted (more (over (codes "ab") (codes "x" ++ undo_run)) redo_run) ≡ (codes "xab", true, Some 0)
unfolding unicode_segmentation unicode_width digits
a_redo_changes_it = refl

pub and_an_undo_leads_back : counted (more (over (codes "ab") (codes "x" ++ undo_run)) (redo_run ++ undo_run)) ≡ (codes "ab", false, Some 0)
unfolding unicode_segmentation unicode_width digits
and_an_undo_leads_back = refl

-- ---- names, and the question whether to overwrite

-- a text without a name, opened to work by these settings
abbrev nameless : List ℕ → Editor
nameless bytes = (after_journal tables (with_settings tables (start [] 2 40) (record plain { name = Some [] })) (presses_from [] bytes)).editor

abbrev answered : List ℕ → List ℕ × Option (List ℕ) × Bool × Prompt
answered bytes = let e = nameless bytes in (e.content.text, e.name, e.home, e.prompt)

-- x, Save, n, Enter, y, Save and z: the first Save asks for the name, and the second one stores nothing either
pub an_answer_is_the_name : answered (codes "x" ++ 0x13 ∷ codes "n" ++ 0xA ∷ codes "y" ++ 0x13 ∷ codes "z") ≡ (codes "xyz", Some (codes "n"), false, prompts.Off)
unfolding unicode_segmentation unicode_width digits
an_answer_is_the_name = refl

-- x, Save, the key that a journal has where a save asked, n and z: the answer goes not into the text
pub an_answer_to_overwrite_is_none_of_the_text : (over (codes "ab") (codes "x" ++ 0x13 ∷ csi (codes "106~") ++ codes "nz")).editor.content.text ≡ codes "xzab"
unfolding unicode_segmentation unicode_width digits
an_answer_to_overwrite_is_none_of_the_text = refl

-- ---- the wheel, over eight rows in a window of three text rows

abbrev rolled : List ℕ → ℕ × ℕ
rolled bytes = let e = (after_journal tables (start (codes "1\n2\n3\n4\n5\n6\n7\n8") 4 10) (presses_from [] bytes)).editor in (e.top, e.place)

pub the_wheel_takes_the_cursor_along : rolled (csi (codes "105~")) ≡ (6, 6)
unfolding unicode_segmentation unicode_width digits
the_wheel_takes_the_cursor_along = refl

pub a_click_goes_by_the_rows_shown : rolled (csi (codes "105~") ++ csi (codes "7;2;1t")) ≡ (6, 8)
unfolding unicode_segmentation unicode_width digits
a_click_goes_by_the_rows_shown = refl
