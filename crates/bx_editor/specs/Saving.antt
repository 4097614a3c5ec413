-- How a text is saved: to the file of the session, under a name, or over what another program wrote. The caller stores the text as
-- `saving_of` (specs/Keys.antt) tells, and then gives the key, with the fault if that failed. `e` is the editor.
use Rattle.std.specs.Prelude.{ℕ, ◌==◌, ◌&&◌, ◌||◌, not, Bool, true, false, List, [], length, is_some, Option, Some, None, if◌then◌else◌}
use Rattle.std.specs.Str.{bytes_eq}
use Rattle.bx_store.specs.declared.cause.SaveCause.{SaveCause}
use Rattle.bx_store.specs.declared.cause.SaveCause.TheVariants.{Changed}
use Rattle.bx_store.specs.declared.store.StoreFault.{StoreFault}
use Rattle.bx_editor.specs.declared.message.Message.TheVariants as messages
use Rattle.bx_editor.specs.declared.questions.answers.Prompt.TheVariants as prompts
use Rattle.bx_editor.specs.Editor.{Editor}

-- where a text is stored
pub data Saving : Type 0 where
  -- where saves go: FILE, or the name under which a save succeeded last
  Own : Saving
  -- under a name that no file may have yet
  Under : List ℕ → Saving
  -- where saves go, over what another program wrote there since
  Over : Saving

-- the most characters of a name
abbrev pub longest_name : ℕ
longest_name = 255

-- a name is there, and empty
abbrev pub is_empty_name : Option (List ℕ) → Bool
is_empty_name None = false
is_empty_name (Some name) = length name == 0

-- the text has no name yet
abbrev pub is_nameless : Editor → Bool
is_nameless e = is_empty_name e.name

-- a name is that of the session, if it has one
abbrev pub is_name : Option (List ℕ) → List ℕ → Bool
is_name None other = false
is_name (Some name) other = bytes_eq name other

-- where Save stores the text of a session with a name, if it has one: a name that is its answer to a question may be another file's
abbrev pub own_saving : Editor → Option (List ℕ) → Saving
own_saving e None = Own
own_saving e (Some name) = if e.home then Own else Under name

-- where a text is stored under an answer: its own name means where saves go
abbrev pub saving_under : Editor → List ℕ → Saving
saving_under e answer = if e.home && is_name e.name answer && not e.read_only then Own else Under answer

-- where the answer that overwrites stores the text
abbrev pub saving_over : Editor → Saving
saving_over e = if e.home then Over else own_saving e e.name

-- the text is stored by Save, and by the answer that overwrites: it is not only looked at, and it has a name if its session has one
abbrev pub can_save : Editor → Bool
can_save e = not (e.read_only || is_nameless e)

-- ---- what a save leaves

-- another program changed the file
abbrev pub is_changed : Option SaveCause → Bool
is_changed (Some Changed) = true
is_changed cause = false

-- where it did, the question is whether to overwrite it
abbrev pub asked_over : Option SaveCause → Editor → Editor
asked_over cause e = if is_changed cause then record e { prompt = prompts.Overwrite } else e

-- a save succeeded, or failed with this fault, whose cause is told; later saves go where one succeeded
abbrev pub after_save : Editor → Option StoreFault → Editor
after_save e None = record e { stored = Some (length e.content.past); changed = false; home = true; message = Some messages.Saved }
after_save e (Some fault) = record (asked_over fault.cause e) { message = Some (messages.SaveFailed fault.cause) }

-- the text is asked for a name, with an empty answer
abbrev pub asking_name : Editor → Editor
asking_name e = record e { prompt = prompts.File; answer = []; input_cursor = 0 }

-- Save stores the text; one without a name it asks for a name
abbrev pub after_saving : Option StoreFault → Editor → Editor
after_saving fault e = if is_nameless e then asking_name e else after_save e fault

-- ---- a name is answered

-- the answer is the name
abbrev pub with_answered_name : Editor → Editor
with_answered_name e = record e { name = Some e.answer; answer = [] }

-- the answer is no name, and forgotten
abbrev pub without_answer : Editor → Editor
without_answer e = record e { answer = [] }

-- the answer becomes the name of a session that has one, where the save succeeded, or where saves go to no file yet
abbrev pub takes_name : Editor → Option StoreFault → Bool
takes_name e fault = is_some e.name && (not e.home || not (is_some fault))

-- the text was stored under the answer, or was not
abbrev pub after_saving_under : Option StoreFault → Editor → Editor
after_saving_under fault e = after_save (if takes_name e fault then with_answered_name e else without_answer e) fault

-- the question for a name is answered: an empty answer saves nothing
abbrev pub after_naming : Option StoreFault → Editor → Editor
after_naming fault e = if length e.answer == 0 then e else after_saving_under fault e

-- ---- the question whether to overwrite

-- that another program changed the file is told, and whether to overwrite it is asked
abbrev pub asking_over : Editor → Editor
asking_over e = record e { prompt = prompts.Overwrite; message = Some (messages.SaveFailed (Some Changed)) }

-- the letter y, or a letter on its key in the layouts il and ara of xkeyboard-config
abbrev pub confirms : ℕ → Bool
confirms c = (c == 0x79) || (c == 0x5D8) || (c == 0x63A)

-- overwriting is confirmed: a save
abbrev pub after_confirming : Option StoreFault → Editor → Editor
after_confirming fault e = if e.read_only then record e { message = Some messages.ViewOnly } else after_saving fault e

-- a typed letter confirms, or declines
abbrev pub after_deciding : Option StoreFault → Editor → ℕ → Editor
after_deciding fault e c = if confirms c then after_confirming fault e else e
