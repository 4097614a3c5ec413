-- Laws of what is typed at a prompt, and of the question whether to overwrite. `d` and `e` are as in Laws.antt, `new` is the editor after a
-- key, `line` the text of the input line that the prompt shows.
use Rattle.std.specs.Prelude.{◌≡◌, ◌≢◌, ℕ, ◌&&◌, ◌==◌, Bool, true, false, List}
use Rattle.std.specs.Prelude.{Option, Some, None}
use Rattle.bx_keys.specs.declared.key.Key.{Key}
use Rattle.bx_keys.specs.declared.key.Key.TheVariants.{Insert, NewLine, Erase, ErasePoint, Delete, EraseWord, DeleteWord, Back, Forward, Left, Right, Save}
use Rattle.bx_keys.specs.declared.key.Key.TheVariants.{WordLeft, WordRight, RowHome, RowEnd, Put, Up, Down, LineUp, LineDown, Select, Mark, Cut}
use Rattle.bx_keys.specs.declared.key.Key.TheVariants.{PasteStart, PasteEnd}
use Rattle.bx_store.specs.declared.store.StoreFault.{StoreFault}
use Rattle.bx_ucd.specs.Data.{Data}
use Rattle.bx_editor.specs.declared.questions.answers.Prompt.TheVariants as prompts
use Rattle.bx_editor.specs.declared.search_state.SearchState.TheVariants as search_states
use Rattle.bx_editor.specs.declared.undo_groups.typing.Typing.{Typing}
use Rattle.bx_editor.specs.Editor.{Editor}
use Rattle.bx_editor.specs.InputLines.{input_line_of}
use Rattle.bx_editor.specs.Keys.{after_key, is_typed, overwrites, saving_of}
use Rattle.bx_editor.specs.Saving.{Over, confirms}
use Rattle.bx_editor.specs.questions.KeyLetters.{key_letter}

-- ---- letters by their keys

-- The key of a letter, under the Hebrew, the Arabic or the Persian layout, answers as the letter: in the question for a character's
-- name, and in that for its code, where nothing is pasted.
pub record AnswersAsLetter (d : Data) (fault : Option StoreFault) (e : Editor) (c letter : ℕ) : Type 0 where
  pub name : e.prompt ≡ prompts.Name → after_key d fault e (Insert c) ≡ after_key d fault e (Insert letter)
  pub code : e.prompt ≡ prompts.Code → after_key d fault e (Insert c) ≡ after_key d fault e (Insert letter)

abbrev pub KeysAreLetters : Type 0
KeysAreLetters =
    (d : Data) (fault : Option StoreFault) (e : Editor) (c letter : ℕ)
    → key_letter c ≡ Some letter → e.pasted ≡ None → is_typed e.typing ≡ true → AnswersAsLetter d fault e c letter

-- ---- a prompt keeps what is typed there

-- a key that edits the input line, moves in it, or does nothing there
abbrev pub is_of_line : Key → Bool
is_of_line (Insert c) = true
is_of_line NewLine = true
is_of_line Erase = true
is_of_line ErasePoint = true
is_of_line Delete = true
is_of_line EraseWord = true
is_of_line DeleteWord = true
is_of_line Back = true
is_of_line Forward = true
is_of_line Left = true
is_of_line Right = true
is_of_line WordLeft = true
is_of_line WordRight = true
is_of_line RowHome = true
is_of_line RowEnd = true
is_of_line Put = true
is_of_line Up = true
is_of_line Down = true
is_of_line LineUp = true
is_of_line LineDown = true
is_of_line Select = true
is_of_line Mark = true
is_of_line Cut = true
is_of_line PasteStart = true
is_of_line PasteEnd = true
is_of_line _ = false

-- Enter: a line end that is typed, and not pasted
abbrev pub is_enter : Typing → Key → Bool
is_enter typing (Insert c) = (c == 0xA) && is_typed typing
is_enter typing NewLine = is_typed typing
is_enter typing _ = false

-- a search, or a question, that is on stays on
pub record StaysAsked (e new : Editor) : Type 0 where
  pub search : e.search_state ≢ search_states.Off → new.search_state ≢ search_states.Off
  pub question : e.prompt ≢ prompts.Off → new.prompt ≢ prompts.Off

-- such a key changes no text while an input line is shown, and ends no search and no question
pub record KeepsPrompt (e new : Editor) : Type 0 where
  pub text : new.content ≡ e.content
  pub asked : StaysAsked e new

abbrev pub LineKeysKeepPrompt : Type 0
LineKeysKeepPrompt =
    (d : Data) (fault : Option StoreFault) (e : Editor) (line : List ℕ) (key : Key)
    → input_line_of e ≡ Some line → e.pasted ≡ None → is_of_line key ≡ true → is_enter e.typing key ≡ false
    → KeepsPrompt e (after_key d fault e key)

-- ---- no Save overwrites what another program wrote

-- The text is stored over what another program wrote by no key but a letter that confirms that, in the question whether to overwrite it; no
-- Save does so. A letter that confirms it does, where it is typed, the text can be saved, and saves go to the session's file. A Save is no
-- answer: it ends the question.
pub record OverwritesByAnswer (d : Data) (fault : Option StoreFault) (e : Editor) (key : Key) : Type 0 where
  pub asked : saving_of e key ≡ Some Over → e.prompt ≡ prompts.Overwrite
  pub confirmed : saving_of e key ≡ Some Over → (c : ℕ) × ((key ≡ Insert c) × (confirms c ≡ true))
  pub save : saving_of e Save ≢ Some Over
  pub answer : (c : ℕ) → e.prompt ≡ prompts.Overwrite → e.pasted ≡ None → overwrites e c ≡ true → e.home ≡ true → saving_of e (Insert c) ≡ Some Over
  pub declined : e.prompt ≡ prompts.Overwrite → e.pasted ≡ None → (after_key d fault e Save).prompt ≡ prompts.Off

abbrev pub OnlyAnswersOverwrite : Type 0
OnlyAnswersOverwrite = (d : Data) (fault : Option StoreFault) (e : Editor) (key : Key) → OverwritesByAnswer d fault e key
