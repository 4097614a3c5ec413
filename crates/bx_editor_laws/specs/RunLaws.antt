-- Laws of undo groups, and of the text that was stored. `d`, `e` and `new` are as in Laws.antt.
use Rattle.std.specs.Prelude.{◌≡◌, ◌≢◌, ℕ, ◌+◌, ◌-◌, ◌==◌, ◌&&◌, not, ◌<◌, ◌≤◌, false, List, [], ◌∷◌, ◌++◌, length, map, replicate, encode_utf8_all}
use Rattle.std.specs.Prelude.{All, Option, None, is_none, is_some, if◌then◌else◌}
use Rattle.bx_common.specs.Characters.{largest_text}
use Rattle.bx_common.specs.declared.base.Base.{Base}
use Rattle.bx_keys.specs.declared.key.Key.{Key}
use Rattle.bx_keys.specs.declared.key.Key.TheVariants.{Insert, RedoEdit, Redo, UndoEdit, Undo}
use Rattle.bx_store.specs.declared.store.StoreFault.{StoreFault}
use Rattle.bx_text.specs.Edits.{Edit}
use Rattle.bx_editor.specs.undo_groups.Laws.{BeginsAt, EndsAt, redone, undone}
use Rattle.bx_editor.specs.undo_groups.Groups.{kind_of}
use Rattle.bx_editor.specs.declared.undo_groups.typing.Kind.{Kind}
use Rattle.bx_editor.specs.declared.undo_groups.typing.Kind.TheVariants.{Blank, Letter}
use Rattle.bx_editor.specs.declared.undo_groups.typing.Typing.TheVariants as typings
use Rattle.bx_ucd.specs.Data.{Data}
use Rattle.bx_editor.specs.declared.questions.answers.Prompt.TheVariants as prompts
use Rattle.bx_editor.specs.declared.search_state.SearchState.TheVariants.{Off}
use Rattle.bx_editor.specs.Editor.{Editor, at_start, is_changed_at}
use Rattle.bx_editor.specs.Keys.{after_key, ends_paste, saving_of}
use Rattle.bx_editor.specs.Functions.{after_keys}
use Rattle.bx_editor.specs.Putting.{paste_ended}
use Rattle.bx_editor_laws.specs.Laws.{after_typing, IsUnmarkedAt}

-- ---- an undo group, edit by edit

-- how many edits are undone until none is left or an undo group begins
abbrev pub undos : Editor → ℕ
undos e = length e.content.past - undone e.undo_groups (length e.content.past)

-- how many edits are redone until none is left or the next undo group begins
abbrev pub redos : Editor → ℕ
redos e = redone e.undo_groups (length e.content.past) (length e.content.future) - length e.content.past

-- `key` steps over an undo group, `one` over an edit; `edits` are those that are left to step over. If there are some, `key` does
-- what `n` presses of `one` do, one at least; but the text then counts as changed only if it is not the one that was stored or
-- opened last, which its number of edits tells. If there are none, `key` does what `one` does.
pub record IsManySteps (d : Data) (e : Editor) (key one : Key) (n : ℕ) (edits : List Edit) : Type 0 where
  pub many : edits ≢ [] → let all = after_keys d None e (replicate n one) in
      after_key d None e key ≡ record all { changed = is_changed_at (length all.content.past) all.stored }
  pub some : edits ≢ [] → 0 < n
  pub none : edits ≡ [] → after_key d None e key ≡ after_key d None e one

-- Undo and Redo step so over an undo group
pub record RunsAreSteps (d : Data) (e : Editor) : Type 0 where
  pub undo : IsManySteps d e Undo UndoEdit (undos e) e.content.past
  pub redo : IsManySteps d e Redo RedoEdit (redos e) e.content.future

-- Outside a paste Undo does what `undos` presses of UndoEdit do, Redo what `redos` presses of RedoEdit do, but for what counts as changed.
-- Where the question is whether to overwrite a key only ends that, and a text that is only looked at has nothing to undo.
abbrev pub RunKeysAreSteps : Type 0
RunKeysAreSteps = (d : Data) (e : Editor) → e.pasted ≡ None → e.prompt ≢ prompts.Overwrite → e.read_only ≡ false → RunsAreSteps d e

-- ---- there and back

-- the number of all edits, undone or not
abbrev pub all_edits : Editor → ℕ
all_edits e = length e.content.past + length e.content.future

-- Undo then Redo leaves text, past and future unchanged where an undo group ends, and the cursor at its place after the
-- latest edit. Redo then Undo leaves them unchanged where an undo group begins, and the cursor at its place before the next
-- edit.
pub record RunsAreMirrored (d : Data) (e : Editor) : Type 0 where
  pub redo : EndsAt e.undo_groups (all_edits e) (length e.content.past) → (after_keys d None e (Undo ∷ Redo ∷ [])).content ≡ e.content
  pub redo_place : EndsAt e.undo_groups (all_edits e) (length e.content.past) → (edit : Edit) (past : List Edit) → e.content.past ≡ edit ∷ past
      → IsUnmarkedAt edit.after.place (after_keys d None e (Undo ∷ Redo ∷ []))
  pub undo : BeginsAt e.undo_groups (all_edits e) (length e.content.past) → (after_keys d None e (Redo ∷ Undo ∷ [])).content ≡ e.content
  pub undo_place : BeginsAt e.undo_groups (all_edits e) (length e.content.past) → (edit : Edit) (future : List Edit)
      → e.content.future ≡ edit ∷ future
      → IsUnmarkedAt edit.before.place (after_keys d None e (Redo ∷ Undo ∷ []))

-- Undo and Redo mirror each other so after anything that was typed over an opened text, unless a paste is under way, or the
-- question is whether to overwrite
abbrev pub RedoRunMirrorsUndoRun : Type 0
RedoRunMirrorsUndoRun =
    (d : Data) (text : List ℕ) (height width : ℕ) (base : Base) (typed : List (Key × Option StoreFault))
    → let e = after_typing d (at_start text height width base) typed in
    e.pasted ≡ None → e.prompt ≢ prompts.Overwrite → RunsAreMirrored d e

-- ---- what is one undo group

-- text, past and place are those of `e`, and no mark is set
pub record IsBackBefore (e new : Editor) : Type 0 where
  pub text_is : new.content.text ≡ e.content.text
  pub past_is : new.content.past ≡ e.content.past
  pub unmarked : IsUnmarkedAt e.place new

-- each character is of a kind, by its class: a letter, or a blank
abbrev pub AreOfKind : Data → Kind → List ℕ → Type 0
AreOfKind d kind cs = All (λ c. kind_of (d.class c) ≡ kind) cs

-- one letter at least, and the blanks typed after the letters
pub record IsWord (d : Data) (letters blanks : List ℕ) : Type 0 where
  pub some : letters ≢ []
  pub are_letters : AreOfKind d Letter letters
  pub are_blanks : AreOfKind d Blank blanks

-- none of these characters is a tab that becomes spaces
abbrev pub AreTyped : Editor → List ℕ → Type 0
AreTyped e cs = All (λ c. ((c == 0x9) && not (e.tab_width == 0)) ≡ false) cs

-- outside a search, a question and a paste, where the text is not only looked at, and where the first letter goes on with no undo group,
-- one Undo takes back a typed word and the blanks after it, if there was room for them, and no tab among them becomes spaces
abbrev pub WordIsARun : Type 0
WordIsARun =
    (d : Data) (e : Editor) (letters blanks : List ℕ) → e.prompt ≡ prompts.Off → e.search_state ≡ Off → e.pasted ≡ None → e.typing ≡ typings.Off
    → e.read_only ≡ false → IsWord d letters blanks → AreTyped e (letters ++ blanks)
    → length e.content.text + length (encode_utf8_all (letters ++ blanks)) ≤ largest_text
    → IsBackBefore e (after_key d None (after_keys d None e (map Insert (letters ++ blanks))) Undo)

-- ---- what counts as changed

-- the editor as a key finds it: one that ends a paste ends it first
abbrev pub saving_editor : Data → Editor → Key → Editor
saving_editor d e key = if ends_paste key then paste_ended d e else e

-- The text that was stored last, after a key: the editor's own if the key stores it, as `saving_of` tells (a Save, or an answer), and
-- that succeeds, with what a paste has brought that is under way; else `text`, the one before
abbrev pub stored_by : Data → List ℕ → Editor → Key → Option StoreFault → List ℕ
stored_by d text e key fault =
    if is_some (saving_of (saving_editor d e key) key) && is_none fault then (saving_editor d e key).content.text else text

-- the text that was stored last, while these keys are typed; `text` was stored, or opened, before them
abbrev pub stored_last : Data → List ℕ → Editor → List (Key × Option StoreFault) → List ℕ
stored_last d text e [] = text
stored_last d text e (key ∷ typed) = stored_last d (stored_by d text e key.0 key.1) (after_key d key.1 e key.0) typed

-- whatever was typed over an opened text, it counts as unchanged only if it is the text that was stored or opened last
abbrev pub UnchangedIsStored : Type 0
UnchangedIsStored =
    (d : Data) (text : List ℕ) (height width : ℕ) (base : Base) (typed : List (Key × Option StoreFault))
    → let start = at_start text height width base in
    (after_typing d start typed).changed ≡ false → (after_typing d start typed).content.text ≡ stored_last d text start typed
