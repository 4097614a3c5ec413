-- Laws of what is refused, and of what fails: which keys may be refused, why a file is not opened, and why a save failed. `d`, `e`
-- and `new` are as in Laws.antt.
use Rattle.std.specs.Prelude.{◌≡◌, ◌≢◌, ◌↔◌, ◌⊎◌, ℕ, Bool, true, false, List, [], Option, Some, None, IsUtf8}
use Rattle.std.specs.declared.io.ErrorKind.{ErrorKind}
use Rattle.std.specs.declared.io.ErrorKind.TheVariants as kinds
use Rattle.bx_common.specs.declared.base.Base.{Base}
use Rattle.bx_keys.specs.declared.key.Key.{Key}
use Rattle.bx_keys.specs.declared.key.Key.TheVariants.{Quit, Save}
use Rattle.bx_store.specs.Stores.{cause_of_kind}
use Rattle.bx_store.specs.declared.cause.SaveCause.{SaveCause}
use Rattle.bx_store.specs.declared.cause.SaveCause.TheVariants as causes
use Rattle.bx_store.specs.declared.store.StoreFault.{StoreFault}
use Rattle.bx_ucd.specs.Data.{Data}
use Rattle.bx_editor.specs.Editor.{Editor, Causes, at_start}
use Rattle.bx_editor.specs.Keys.{after_key, is_edit_or_move, may_refuse}
use Rattle.bx_editor.specs.Status.{failed_text, message_text}
use Rattle.bx_editor.specs.declared.message.Message.{Message}
use Rattle.bx_editor.specs.declared.message.Message.TheVariants.{Replaced}
use Rattle.bx_editor.specs.declared.opening.OpenError.{OpenError}
use Rattle.bx_editor.specs.declared.search_state.SearchState.TheVariants.{Off}
use Rattle.bx_editor_laws.specs.Laws.{after_typing}

-- ---- keys

-- The editor's texts are as they were: its own with past, future and undo groups, the copied one, the query, the replacement, the
-- answer to a question, and what a paste has brought. But the answer may be empty now, and a paste may have begun. The cursor is where
-- it was, or a search was on and the cursor is back where that began.
pub record KeepsTexts (e new : Editor) : Type 0 where
  pub content_is : new.content ≡ e.content
  pub groups_are : new.undo_groups ≡ e.undo_groups
  pub held_is : new.held ≡ e.held
  pub query_is : new.query ≡ e.query
  pub replacement_is : new.replacement ≡ e.replacement
  pub answer_is : (new.answer ≡ e.answer) ⊎ (new.answer ≡ [])
  pub pasted_is : (new.pasted ≡ e.pasted) ⊎ ((e.pasted ≡ None) × (new.pasted ≡ Some []))
  pub place_is : (new.place ≡ e.place) ⊎ ((e.search_state ≢ Off) × (new.place ≡ e.origin))

-- A key that may not be refused for want of memory needs none: it keeps these texts. Where no paste is under way, Save and Quit are
-- such keys.
pub record UnrefusedKeepTexts : Type 0 where
  pub keeps : (d : Data) (fault : Option StoreFault) (e : Editor) (key : Key) → may_refuse e key ≡ false
      → KeepsTexts e (after_key d fault e key)
  pub saves : (e : Editor) → e.pasted ≡ None → may_refuse e Save ≡ false
  pub quits : (e : Editor) → e.pasted ≡ None → may_refuse e Quit ≡ false

-- Some keys, typed over some text, lead to an editor in which no paste is under way and the key does not keep these texts.
pub record ChangesTexts (key : Key) : Type 0 where
  pub tables : Data
  pub text : List ℕ
  pub is_utf8 : IsUtf8 text
  pub height : ℕ
  pub width : ℕ
  pub base : Base
  pub typed : List (Key × Option StoreFault)
  pub settled : (after_typing tables (at_start text height width base) typed).pasted ≡ None
  pub changes : let e = after_typing tables (at_start text height width base) typed in ¬ (KeepsTexts e (after_key tables None e key))

-- each key that may be refused outside a paste is one that may change them
abbrev pub RefusableChangeTexts : Type 0
RefusableChangeTexts = (key : Key) → is_edit_or_move key ≡ true → ChangesTexts key

-- ---- the opening of a file

-- exactly one error has its cause
pub record HasOneCause (bytes : List ℕ) (height width : ℕ) : Type 0 where
  pub error : OpenError
  pub is_cause : Causes bytes height width error
  pub only : (other : OpenError) → Causes bytes height width other → other ≡ error

-- so it is for any bytes and any window
abbrev pub OpeningHasOneCause : Type 0
OpeningHasOneCause = (bytes : List ℕ) (height width : ℕ) → HasOneCause bytes height width

-- ---- saves that failed

-- two failed saves have the same message only if they have the same cause, or if no cause of either is known
abbrev pub WordsTellCauses : Type 0
WordsTellCauses = (one other : Option SaveCause) → failed_text one ≡ failed_text other → one ≡ other

-- a message whatever number stands before its words
abbrev pub without_number : Message → Message
without_number (Replaced n) = Replaced 0
without_number message = message

-- two messages with words have the same ones only if they are the same but for that number; what Tell says has no words here, and that text
-- was cut is not told
abbrev pub WordsTellMessages : Type 0
WordsTellMessages =
    (one other : Message) → message_text one ≢ [] → message_text one ≡ message_text other → without_number one ≡ without_number other

-- a cause that only the host reports, and no fault of the system has
abbrev pub is_of_host : SaveCause → Bool
is_of_host causes.Changed = true
is_of_host causes.NotPlain = true
is_of_host causes.CutOff = true
is_of_host _ = false

-- a fault as a user sees it: a used up quota is a full disk, and a file on the path to a folder is a missing folder
abbrev pub as_seen : ErrorKind → ErrorKind
as_seen kinds.QuotaExceeded = kinds.StorageFull
as_seen kinds.NotADirectory = kinds.NotFound
as_seen kind = kind

-- The faults of the system have all causes but those of the host. Two kinds of fault have the same cause exactly if a user sees the
-- same in them; this leaves out `Other`, the cause of all the rest.
pub record KindsTellCauses : Type 0 where
  pub of_system : (cause : SaveCause) → (is_of_host cause ≡ false) ↔ ((kind : ErrorKind) × (cause_of_kind kind ≡ cause))
  pub apart : (one other : ErrorKind) → cause_of_kind one ≢ causes.Other
      → (cause_of_kind one ≡ cause_of_kind other) ↔ (as_seen one ≡ as_seen other)
