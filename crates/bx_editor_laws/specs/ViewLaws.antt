-- Laws of a text that is only looked at. `d`, `e` and `new` are as in Laws.antt, `fault` is why a save failed, None if it succeeded.
use Rattle.std.specs.Prelude.{◌≡◌, ◌≢◌, ℕ, ◌+◌, true, false, List, ◌++◌, codes, Option, Some, None}
use Rattle.bx_keys.specs.declared.key.Key.{Key}
use Rattle.bx_keys.specs.declared.key.Key.TheVariants.{PasteStart, Replace}
use Rattle.bx_store.specs.declared.store.StoreFault.{StoreFault}
use Rattle.bx_ucd.specs.Data.{Data}
use Rattle.bx_editor.specs.declared.questions.answers.Prompt.TheVariants as prompts
use Rattle.bx_editor.specs.declared.search_state.SearchPurpose.TheVariants as purposes
use Rattle.bx_editor.specs.declared.search_state.SearchState.TheVariants as search_states
use Rattle.bx_editor.specs.declared.answer.Answer.TheVariants.{Ends}
use Rattle.bx_editor.specs.declared.message.Message.TheVariants.{ViewOnly}
use Rattle.bx_editor.specs.declared.undo_groups.typing.Typing.TheVariants as typings
use Rattle.bx_editor.specs.Answering.{answer_of}
use Rattle.bx_editor.specs.Asking.{without_prompt}
use Rattle.bx_editor.specs.Editor.{Editor}
use Rattle.bx_editor.specs.Keys.{after_key, changes_text, saving_of}
use Rattle.bx_editor.specs.Region.{aged}
use Rattle.bx_editor.specs.Saving.{Saving, Under}
use Rattle.bx_editor.specs.Status.{paragraph_number, prompt_words, row_text, status_line, unit_number}
use Rattle.bx_editor_laws.specs.Laws.{after_typing}

-- ---- the text stays

-- an opened text that is only looked at, whatever the other settings
pub record IsViewed (opened : Editor) : Type 0 where
  pub looked : opened.read_only ≡ true
  pub settled : opened.pasted ≡ None
  pub unasked : opened.prompt ≡ prompts.Off
  pub unsought : opened.search_state ≡ search_states.Off
  pub finds : opened.purpose ≡ purposes.Find

-- its text with past and future is as it was opened, and no key stores it but an answer to the question for a name, under that name
pub record StaysAsOpened (opened e : Editor) : Type 0 where
  pub content_is : e.content ≡ opened.content
  pub stores : (key : Key) (saving : Saving) → saving_of e key ≡ Some saving → (e.prompt ≡ prompts.File) × (saving ≡ Under e.answer)

-- so it is whatever is typed
abbrev pub ViewKeepsText : Type 0
ViewKeepsText =
    (d : Data) (opened : Editor) (typed : List (Key × Option StoreFault)) → IsViewed opened → StaysAsOpened opened (after_typing d opened typed)

-- ---- what would change it says so

-- nothing but the message: that the text is only looked at. An earlier Quit, a kept column and what was pressed are forgotten, as by any
-- key.
abbrev pub only_told : Editor → Editor
only_told e = record e {
  message = Some ViewOnly;
  quit_before = false;
  typing = typings.Off;
  goal = None;
  soft = aged e.soft;
  clicks = None;
  pressed = None;
}

-- the words of the status row: the numbers of the cursor's place, those of the message, and the prompt's, if there is one
abbrev pub view_only_row : Data → Editor → List ℕ
view_only_row d e =
    (status_line e.changed (paragraph_number d e.content.text e.place + 1) (unit_number d e.content.text e.place) ++ codes " view only")
    ++ prompt_words e e.prompt

-- a key changed nothing, and the status row says why
pub record SaysViewOnly (d : Data) (e new : Editor) : Type 0 where
  pub stays : new ≡ only_told e
  pub says : row_text d new ≡ view_only_row d e

-- A key that would change the text says so where nothing is asked and sought. One that ends a question or a search ends that, and then
-- says so. Replace says so wherever the question is not whether to overwrite, and ends nothing. What would be pasted is not read.
pub record ViewIsTold (d : Data) (fault : Option StoreFault) (e : Editor) : Type 0 where
  pub key : (key : Key) → e.prompt ≡ prompts.Off → e.search_state ≡ search_states.Off → changes_text key ≡ true
      → SaysViewOnly d e (after_key d fault e key)
  pub ending : (key : Key) → e.prompt ≢ prompts.Overwrite → answer_of key ≡ Ends → changes_text key ≡ true
      → SaysViewOnly d (without_prompt e) (after_key d fault e key)
  pub replace : e.prompt ≢ prompts.Overwrite → SaysViewOnly d e (after_key d fault e Replace)
  pub paste : e.prompt ≡ prompts.Off → e.search_state ≡ search_states.Off
      → after_key d fault e PasteStart ≡ record e { message = Some ViewOnly; clicks = None; pressed = None }

-- so it is in a text that is only looked at, into which no paste is under way
abbrev pub ViewOnlyIsTold : Type 0
ViewOnlyIsTold = (d : Data) (fault : Option StoreFault) (e : Editor) → e.read_only ≡ true → e.pasted ≡ None → ViewIsTold d fault e
