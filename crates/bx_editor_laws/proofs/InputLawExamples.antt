-- Worked examples, each from a law of prompts alone.
use Rattle.std.proofs.Common.{◌≡◌, ◌+◌, ◌<◌, ◌≤◌, true, List, [], ◌∷◌, refl, ap, arith}
use Rattle.bx_common.specs.Characters.{largest_text}
use Rattle.std.specs.Prelude.{◌≢◌, codes, Option, Some, None}
use Rattle.std.specs.Fmt.{digits}
use Rattle.ucd_case.proofs.Computing.{ucd_case}
use Rattle.unicode_normalization.proofs.Computing.{unicode_normalization}
use Rattle.unicode_segmentation.proofs.Computing.{unicode_segmentation}
use Rattle.unicode_width.proofs.Computing.{unicode_width}
use Rattle.bx_keys.specs.declared.key.Key.{Key}
use Rattle.bx_keys.specs.declared.key.Key.TheVariants.{AskOverwrite, Delete, EraseWord, Find, Insert, Left, Mark, Name, Save}
use Rattle.bx_editor.specs.declared.questions.answers.Prompt.TheVariants as prompts
use Rattle.bx_editor.specs.declared.search_state.SearchState.TheVariants.{Off}
use Rattle.bx_editor.specs.Editor.{Editor}
use Rattle.bx_editor.specs.Keys.{saving_of}
use Rattle.bx_store.specs.declared.store.StoreFault.{StoreFault}
use Rattle.bx_editor.specs.Saving.{Saving, Over}
use Rattle.bx_editor_laws.specs.Laws.{after_typing}
use Rattle.bx_editor.specs.InputLines.{input_line_of}
use Rattle.bx_editor.specs.Status.{row_text}
use Rattle.bx_editor_laws.specs.LineTextLaws.{InputLineIsText}
use Rattle.bx_editor_laws.specs.ViewLaws.{IsViewed, ViewKeepsText, ViewOnlyIsTold}
use Rattle.bx_editor_laws.specs.InputLaws.{KeysAreLetters, LineKeysKeepPrompt, OnlyAnswersOverwrite}
use Rattle.bx_editor.proofs.Computed.{tables, start, after}

-- ---- letters by their keys

-- a character's name is asked for
abbrev named : Editor
named = after (start (codes "ab") 2 40) (Name ∷ [])

-- final kaf is on the key of l, which names a left-to-right mark
pub the_key_of_l_is_l : KeysAreLetters → (after named (Insert 0x5DA ∷ [])).content.text ≡ 0xE2 ∷ 0x80 ∷ 0x8E ∷ codes "ab"
unfolding unicode_segmentation unicode_width digits
the_key_of_l_is_l law = ap (λ (e : Editor). e.content.text) ((law tables None named 0x5DA 0x6C refl refl refl).name refl)

-- ---- a prompt

-- b is sought
abbrev sought : Editor
sought = after (start (codes "ab") 2 40) (Find ∷ Insert 0x62 ∷ [])

pub mark_ends_no_search : LineKeysKeepPrompt → (after sought (Mark ∷ [])).search_state ≢ Off
unfolding unicode_segmentation unicode_width digits unicode_normalization ucd_case
mark_ends_no_search law = (law tables None sought (codes "b") Mark refl refl refl refl).asked.search (λ off. cc off)

pub a_letter_of_a_query_is_none_of_the_text : LineKeysKeepPrompt → (after sought (Insert 0x63 ∷ [])).content.text ≡ codes "ab"
unfolding unicode_segmentation unicode_width digits unicode_normalization ucd_case
a_letter_of_a_query_is_none_of_the_text law = ap (λ t. t.text) (law tables None sought (codes "b") (Insert 0x63) refl refl refl refl).text

-- ab is sought
abbrev sought_two : Editor
sought_two = after (start (codes "ab") 2 40) (Find ∷ Insert 0x61 ∷ Insert 0x62 ∷ [])

pub left_moves_in_the_query : InputLineIsText → (after sought_two (Left ∷ [])).input_cursor ≡ 1
unfolding unicode_segmentation unicode_width digits unicode_normalization ucd_case
left_moves_in_the_query law = ((law tables None sought_two (codes "ab") refl refl).moves Left refl).cursor_is

pub a_word_is_erased_in_the_query : InputLineIsText → input_line_of (after sought_two (EraseWord ∷ [])) ≡ Some []
unfolding unicode_segmentation unicode_width digits unicode_normalization ucd_case
a_word_is_erased_in_the_query law = ((law tables None sought_two (codes "ab") refl refl).removes EraseWord refl).line_is

-- with the cursor between both letters
abbrev between : Editor
between = after sought_two (Left ∷ [])

pub a_letter_goes_between : InputLineIsText → input_line_of (after between (Insert 0x63 ∷ [])) ≡ Some (codes "acb")
unfolding unicode_segmentation unicode_width digits unicode_normalization ucd_case
a_letter_goes_between law =
    let few : 2 < 64 = omega arith in
    let short : 2 + 1 ≤ largest_text = omega arith in
    (((law tables None between (codes "ab") refl refl).types 0x63 0x63 refl refl).fits few short).line_is

-- ---- overwriting

-- it is asked whether to overwrite
abbrev decided : Editor
decided = after (start (codes "ab") 2 40) (AskOverwrite ∷ [])

pub y_overwrites : OnlyAnswersOverwrite → saving_of decided (Insert 0x79) ≡ Some Over
unfolding unicode_segmentation unicode_width digits
y_overwrites law = (law tables None decided Save).answer 0x79 refl refl refl refl

pub a_save_only_declines : OnlyAnswersOverwrite → (after decided (Save ∷ [])).prompt ≡ prompts.Off
unfolding unicode_segmentation unicode_width digits
a_save_only_declines law = (law tables None decided Save).declined refl refl

-- ---- a text that is only looked at

abbrev viewed : Editor
viewed = record (start (codes "ab") 2 40) { read_only = true }

viewed_is : IsViewed viewed
viewed_is = record { looked = refl; settled = refl; unasked = refl; unsought = refl; finds = refl }

abbrev two_keys : List (Key × Option StoreFault)
two_keys = (Insert 0x78, None) ∷ (Delete, None) ∷ []

pub nothing_goes_into_it : ViewKeepsText → (after_typing tables viewed two_keys).content.text ≡ codes "ab"
unfolding unicode_segmentation unicode_width digits
nothing_goes_into_it law = ap (λ t. t.text) (law tables viewed two_keys viewed_is).content_is

pub a_letter_only_says_so : ViewOnlyIsTold → row_text tables (after viewed (Insert 0x78 ∷ [])) ≡ codes "- 1:1 view only"
unfolding unicode_segmentation unicode_width digits
a_letter_only_says_so law = ((law tables None viewed refl refl).key (Insert 0x78) refl refl refl).says

pub no_save_stores_it : ViewKeepsText → (saving : Saving) → saving_of viewed Save ≢ Some saving
no_save_stores_it law saving is =
    let file : prompts.Off ≡ prompts.File = ((law tables viewed [] viewed_is).stores Save saving is).0 in cc file
