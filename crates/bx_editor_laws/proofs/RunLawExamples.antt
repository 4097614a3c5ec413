-- Worked examples: undo groups, from the definitions and each from a law alone.
use Rattle.std.proofs.Common.{◌≡◌, ℕ, ◌<◌, ◌≤◌, Bool, true, false, List, [], ◌∷◌, ◌++◌, length, map, replicate, refl, ap, inr, arith}
use Rattle.std.specs.Prelude.{codes, ◌==◌, ◌&&◌, not, Option, Some, None}
use Rattle.std.specs.Fmt.{digits}
use Rattle.std.proofs.lemmas.List.Elements.{All-cons, All-nil}
use Rattle.ucd_case.proofs.Computing.{ucd_case}
use Rattle.unicode_normalization.proofs.Computing.{unicode_normalization}
use Rattle.unicode_segmentation.proofs.Computing.{unicode_segmentation}
use Rattle.unicode_width.proofs.Computing.{unicode_width}
use Rattle.bx_common.specs.Characters.{largest_text}
use Rattle.bx_common.specs.declared.base.Base.TheVariants.{Auto}
use Rattle.bx_keys.specs.declared.key.Key.{Key}
use Rattle.bx_keys.specs.declared.key.Key.TheVariants.{Insert, Erase, Delete, Back, Forward, Save, UndoEdit, Mark, Cut, Put, Find, TextEnd}
use Rattle.bx_keys.specs.declared.key.Key.TheVariants.{TextStart}
use Rattle.bx_keys.specs.declared.key.Key.TheVariants.{Repaint, Undo, Redo, PasteStart, PasteEnd}
use Rattle.bx_store.specs.declared.store.StoreFault.{StoreFault}
use Rattle.bx_text.specs.Edits.{Edited}
use Rattle.bx_editor.specs.undo_groups.Groups.{kind_of}
use Rattle.bx_editor.specs.declared.undo_groups.typing.Kind.TheVariants.{Blank, Letter}
use Rattle.bx_editor.specs.declared.undo_groups.typing.Typing.{Typing}
use Rattle.bx_editor.specs.declared.undo_groups.typing.Typing.TheVariants.{Off, Word, Erasing, Deleting}
use Rattle.bx_editor.specs.declared.message.Message.{Message}
use Rattle.bx_editor.specs.declared.message.Message.TheVariants.{NothingToUndo}
use Rattle.bx_editor.specs.Editor.{Editor}
use Rattle.bx_editor_laws.specs.Laws.{after_typing}
use Rattle.bx_editor_laws.specs.RunLaws.{RedoRunMirrorsUndoRun, RunKeysAreSteps, UnchangedIsStored, IsWord, WordIsARun}
use Rattle.bx_editor.proofs.Computed.{tables, start, after, letters}

-- text and place after keys
abbrev edited : List ℕ → List Key → List ℕ × ℕ
edited text keys = let e = after (start text 5 40) keys in (e.content.text, e.place)

-- where undo groups begin, and what the next edit may go on with
abbrev run_at : List ℕ → List Key → List ℕ × Typing
run_at text keys = let e = after (start text 5 40) keys in (e.undo_groups, e.typing)

-- whether the text counts as changed, and the message
abbrev told : List ℕ → List Key → Bool × Option Message
told text keys = let e = after (start text 5 40) keys in (e.changed, e.message)

abbrev two_words : List Key
two_words = letters (codes "ab cd")

-- ---- which edits are of one undo group

pub a_word_and_blanks_are_a_run : run_at [] two_words ≡ (0 ∷ 3 ∷ [], Word)
unfolding unicode_segmentation unicode_width digits
a_word_and_blanks_are_a_run = refl

pub the_last_word_is_taken_back : edited [] (two_words ++ Undo ∷ []) ≡ (codes "ab ", 3)
unfolding unicode_segmentation unicode_width digits
the_last_word_is_taken_back = refl

pub both_words_are_taken_back : edited [] (two_words ++ Undo ∷ Undo ∷ []) ≡ ([], 0)
unfolding unicode_segmentation unicode_width digits
both_words_are_taken_back = refl

pub then_nothing_is_left : told [] (two_words ++ replicate 3 Undo) ≡ (false, Some NothingToUndo)
unfolding unicode_segmentation unicode_width digits
then_nothing_is_left = refl

pub both_words_come_again : edited [] (two_words ++ Undo ∷ Undo ∷ Redo ∷ Redo ∷ []) ≡ (codes "ab cd", 5)
unfolding unicode_segmentation unicode_width digits
both_words_come_again = refl

pub blanks_before_a_word_are_a_run : run_at [] (letters (codes "  a \tb")) ≡ (0 ∷ 2 ∷ 5 ∷ [], Word)
unfolding unicode_segmentation unicode_width digits
blanks_before_a_word_are_a_run = refl

pub a_separator_is_a_run : run_at [] (letters (codes "a\n\nb \n")) ≡ (0 ∷ 1 ∷ 2 ∷ 3 ∷ 5 ∷ [], Off)
unfolding unicode_segmentation unicode_width digits
a_separator_is_a_run = refl

pub other_keys_end_a_run : run_at [] (letters (codes "ab") ++ Back ∷ Forward ∷ letters (codes "cd") ++ Save ∷ letters (codes "e")) ≡ (0 ∷ 2 ∷ 4 ∷ [], Word)
unfolding unicode_segmentation unicode_width digits
other_keys_end_a_run = refl

pub repaint_ends_none : run_at [] (letters (codes "f") ++ Repaint ∷ letters (codes "g")) ≡ (0 ∷ [], Word)
unfolding unicode_segmentation unicode_width digits
repaint_ends_none = refl

pub erasures_are_a_run : run_at (codes "abcd") (TextEnd ∷ Erase ∷ Erase ∷ Insert 0x78 ∷ Erase ∷ Erase ∷ []) ≡ (0 ∷ 2 ∷ 3 ∷ [], Erasing)
unfolding unicode_segmentation unicode_width digits
erasures_are_a_run = refl

pub deletions_are_a_run : run_at (codes "abcd") (Delete ∷ Delete ∷ []) ≡ (0 ∷ [], Deleting)
unfolding unicode_segmentation unicode_width digits
deletions_are_a_run = refl

pub both_are_none_together : run_at (codes "abcd") (Forward ∷ Forward ∷ Erase ∷ Delete ∷ Erase ∷ []) ≡ (0 ∷ 1 ∷ 2 ∷ [], Erasing)
unfolding unicode_segmentation unicode_width digits
both_are_none_together = refl

abbrev a_paste : List Key
a_paste = letters (codes "a") ++ PasteStart ∷ letters (codes "b c\n\nd") ++ PasteEnd ∷ letters (codes "e")

pub a_paste_is_a_run : run_at [] a_paste ≡ (0 ∷ 1 ∷ 2 ∷ [], Word)
unfolding unicode_segmentation unicode_width digits
a_paste_is_a_run = refl

pub a_paste_is_taken_back : edited [] (a_paste ++ Undo ∷ Undo ∷ []) ≡ (codes "a", 1)
unfolding unicode_segmentation unicode_width digits
a_paste_is_taken_back = refl

pub undo_takes_one_edit_of_a_run : edited [] (letters (codes "abc") ++ UndoEdit ∷ []) ≡ (codes "ab", 2)
unfolding unicode_segmentation unicode_width digits
undo_takes_one_edit_of_a_run = refl

pub in_the_middle_of_a_run_a_new_one_begins : run_at [] (letters (codes "abc") ++ UndoEdit ∷ letters (codes "x")) ≡ (0 ∷ 2 ∷ [], Word)
unfolding unicode_segmentation unicode_width digits
in_the_middle_of_a_run_a_new_one_begins = refl

pub cut_and_put_are_runs : run_at (codes "a b") (Mark ∷ Forward ∷ Cut ∷ Put ∷ Put ∷ letters (codes "xy")) ≡ (0 ∷ 1 ∷ 2 ∷ 3 ∷ [], Word)
unfolding unicode_segmentation unicode_width digits
cut_and_put_are_runs = refl

pub letters_of_a_query_are_of_no_run : run_at (codes "ab") (Insert 0x78 ∷ Find ∷ Insert 0x62 ∷ Insert 0xA ∷ Insert 0x79 ∷ []) ≡ (0 ∷ 1 ∷ [], Word)
unfolding unicode_segmentation unicode_width digits unicode_normalization ucd_case
letters_of_a_query_are_of_no_run = refl

abbrev two_pastes : List Key
two_pastes =
    PasteStart ∷ letters (codes "a") ++ Repaint ∷ letters (codes "b") ++ PasteEnd ∷ PasteStart ∷ letters (codes "c") ++ PasteEnd ∷ []

pub each_paste_is_a_run : run_at [] two_pastes ≡ (0 ∷ 1 ∷ [], Off)
unfolding unicode_segmentation unicode_width digits
each_paste_is_a_run = refl

pub an_erasure_ends_a_paste : run_at (codes "ab") (TextEnd ∷ PasteStart ∷ Insert 0x78 ∷ Erase ∷ Erase ∷ Insert 0x79 ∷ []) ≡ (0 ∷ 1 ∷ 3 ∷ [], Word)
unfolding unicode_segmentation unicode_width digits
an_erasure_ends_a_paste = refl

pub a_new_word_takes_the_place_of_old_runs : run_at [] (letters (codes "ab cd ef") ++ Undo ∷ Undo ∷ letters (codes "wxyz")) ≡ (0 ∷ 3 ∷ [], Word)
unfolding unicode_segmentation unicode_width digits
a_new_word_takes_the_place_of_old_runs = refl

pub the_place_is_that_of_the_last_step : edited (codes "ab") (Forward ∷ letters (codes "xy") ++ TextStart ∷ Undo ∷ TextEnd ∷ Redo ∷ []) ≡ (codes "axyb", 3)
unfolding unicode_segmentation unicode_width digits
the_place_is_that_of_the_last_step = refl

pub an_undone_run_takes_the_mark : (after (start (codes "ab") 5 40) (Forward ∷ letters (codes "xy") ++ Mark ∷ Undo ∷ [])).mark ≡ None
unfolding unicode_segmentation unicode_width digits
an_undone_run_takes_the_mark = refl

pub without_an_edit_the_mark_stays : (after (start (codes "ab") 5 40) (Forward ∷ Mark ∷ Undo ∷ [])).mark ≡ Some 1
unfolding unicode_segmentation unicode_width digits
without_an_edit_the_mark_stays = refl

pub a_paste_in_a_search_is_no_edit : edited (codes "ab") (Find ∷ PasteStart ∷ letters (codes "b\nyz") ++ PasteEnd ∷ []) ≡ (codes "ab", 1)
unfolding unicode_segmentation unicode_width digits unicode_normalization ucd_case
a_paste_in_a_search_is_no_edit = refl

-- ---- what counts as changed

abbrev xy_undone : List Key
xy_undone = letters (codes "xy") ++ UndoEdit ∷ UndoEdit ∷ []

pub undone_one_by_one_it_counts_as_changed : (told (codes "ab") xy_undone).0 ≡ true
unfolding unicode_segmentation unicode_width digits
undone_one_by_one_it_counts_as_changed = refl

pub undone_by_its_run_it_does_not : (told (codes "ab") (letters (codes "xy") ++ Undo ∷ [])).0 ≡ false
unfolding unicode_segmentation unicode_width digits
undone_by_its_run_it_does_not = refl

abbrev saved_in_the_middle : List Key
saved_in_the_middle = letters (codes "ab") ++ Save ∷ letters (codes " cd")

pub at_the_saved_text_it_does_not : (told [] (saved_in_the_middle ++ Undo ∷ Undo ∷ [])).0 ≡ false
unfolding unicode_segmentation unicode_width digits
at_the_saved_text_it_does_not = refl

pub before_it_it_does : (told [] (saved_in_the_middle ++ replicate 3 Undo)).0 ≡ true
unfolding unicode_segmentation unicode_width digits
before_it_it_does = refl

pub an_edit_before_it_loses_it : (after (start [] 5 40) (letters (codes "ab") ++ Save ∷ UndoEdit ∷ letters (codes "x"))).stored ≡ None
unfolding unicode_segmentation unicode_width digits
an_edit_before_it_loses_it = refl

pub made_again_up_to_it_it_does_not : (told [] (saved_in_the_middle ++ replicate 3 Undo ++ Redo ∷ [])).0 ≡ false
unfolding unicode_segmentation unicode_width digits
made_again_up_to_it_it_does_not = refl

pub once_it_is_lost_nothing_leads_to_it : (told [] (letters (codes "ab") ++ Save ∷ Undo ∷ letters (codes "x") ++ Undo ∷ Redo ∷ [])).0 ≡ true
unfolding unicode_segmentation unicode_width digits
once_it_is_lost_nothing_leads_to_it = refl

-- a save that fails, and no other program wrote the file
abbrev with_a_failed_save : List (Key × Option StoreFault)
with_a_failed_save = (Insert 0x78, None) ∷ (Save, Some (record { cause = None })) ∷ (Undo, None) ∷ []

pub a_failed_save_stores_nothing : (after_typing tables (start (codes "ab") 5 40) with_a_failed_save).changed ≡ false
unfolding unicode_segmentation unicode_width digits
a_failed_save_stores_nothing = refl

-- ---- from the laws

abbrev behind_a_word : Editor
behind_a_word = after (start [] 5 40) (letters (codes "abc"))

pub a_run_is_three_undos : RunKeysAreSteps → let e = after behind_a_word (Undo ∷ []) in (e.content.text ≡ []) × (e.place ≡ 0)
unfolding unicode_segmentation unicode_width digits
a_run_is_three_undos law =
    let many = (law tables behind_a_word refl (λ over. cc over) refl).undo.many (λ none. let three : 3 ≡ 0 = ap length none in cc three) in
    (ap (λ (e : Editor). e.content.text) many, ap (λ (e : Editor). e.place) many)

pub back_at_the_opened_text_it_does_not : RunKeysAreSteps → (after behind_a_word (Undo ∷ [])).changed ≡ false
unfolding unicode_segmentation unicode_width digits
back_at_the_opened_text_it_does_not law =
    ap (λ (e : Editor). e.changed) ((law tables behind_a_word refl (λ over. cc over) refl).undo.many (λ none. let three : 3 ≡ 0 = ap length none in cc three))

pub without_an_edit_the_message_is_that_of_undo : RunKeysAreSteps
    → (after (start (codes "a") 5 40) (Undo ∷ [])).message ≡ Some NothingToUndo
unfolding unicode_segmentation unicode_width digits
without_an_edit_the_message_is_that_of_undo law = ap (λ (e : Editor). e.message) ((law tables (start (codes "a") 5 40) refl (λ over. cc over) refl).undo.none refl)

abbrev typed : List Key → List (Key × Option StoreFault)
typed keys = map (λ key. (key, None)) keys

pub undone_and_made_again : RedoRunMirrorsUndoRun
    → (after (start [] 5 40) (two_words ++ Undo ∷ Redo ∷ [])).content.text ≡ codes "ab cd"
unfolding unicode_segmentation unicode_width digits
undone_and_made_again law =
    let some : 0 < 5 = omega arith in
    let all : 5 ≤ 5 = omega arith in
    ap (λ (t : Edited). t.text) ((law tables [] 5 40 Auto (typed two_words) refl (λ over. cc over)).redo (some, all, inr refl))

pub a_word_and_its_blank_are_taken_back : WordIsARun
    → (after (start (codes "x") 5 40) (letters (codes "ab ") ++ Undo ∷ [])).content.text ≡ codes "x"
unfolding unicode_segmentation unicode_width digits
a_word_and_its_blank_are_taken_back law =
    let fit : 4 ≤ largest_text = omega arith in
    let IsLetter = λ (c : ℕ). kind_of (tables.class c) ≡ Letter in
    let IsBlank = λ (c : ℕ). kind_of (tables.class c) ≡ Blank in
    let word : IsWord tables (codes "ab") (codes " ") = record {
      some = λ none. cc none;
      are_letters = All-cons IsLetter 0x61 (0x62 ∷ []) refl (All-cons IsLetter 0x62 [] refl (All-nil IsLetter));
      are_blanks = All-cons IsBlank 0x20 [] refl (All-nil IsBlank);
    } in
    let IsTyped = λ (c : ℕ). ((c == 0x9) && not ((start (codes "x") 5 40).tab_width == 0)) ≡ false in
    let no-tabs = All-cons IsTyped 0x61 (0x62 ∷ 0x20 ∷ []) refl (All-cons IsTyped 0x62 (0x20 ∷ []) refl (All-cons IsTyped 0x20 [] refl (All-nil IsTyped))) in
    (law tables (start (codes "x") 5 40) (codes "ab") (codes " ") refl refl refl refl refl word no-tabs fit).text_is

pub unchanged_at_the_saved_text : UnchangedIsStored
    → (after (start [] 5 40) (saved_in_the_middle ++ Undo ∷ Undo ∷ [])).content.text ≡ codes "ab"
unfolding unicode_segmentation unicode_width digits
unchanged_at_the_saved_text law = law tables [] 5 40 Auto (typed (saved_in_the_middle ++ Undo ∷ Undo ∷ [])) refl

pub unchanged_at_the_opened_text : UnchangedIsStored
    → (after_typing tables (start (codes "ab") 5 40) with_a_failed_save).content.text ≡ codes "ab"
unfolding unicode_segmentation unicode_width digits
unchanged_at_the_opened_text law = law tables (codes "ab") 5 40 Auto with_a_failed_save refl
