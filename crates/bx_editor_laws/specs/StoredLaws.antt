-- A law of the text that was stored or opened last: Undo and Redo that lead back to it find it unchanged. `d`, `e` and `new`
-- are as in Laws.antt; `n` is the number of the edits that led to that text.
use Rattle.std.specs.Prelude.{◌≡◌, ◌≢◌, ◌⊎◌, ℕ, ◌≤◌, ◌&&◌, Bool, true, false, List, [], ◌∷◌, length, Option, None, is_none, is_some}
use Rattle.bx_common.specs.declared.base.Base.{Base}
use Rattle.bx_keys.specs.declared.key.Key.{Key}
use Rattle.bx_keys.specs.declared.key.Key.TheVariants.{Insert, Erase, Delete, Cut, Put, Replace, EraseWord, DeleteWord, ErasePoint, NewLine}
use Rattle.bx_keys.specs.declared.key.Key.TheVariants.{Redo, Undo}
use Rattle.bx_store.specs.declared.store.StoreFault.{StoreFault}
use Rattle.bx_text.specs.Edits.{Edit}
use Rattle.bx_ucd.specs.Data.{Data}
use Rattle.bx_editor.specs.Editor.{Editor, at_start}
use Rattle.bx_editor.specs.declared.questions.answers.Prompt.TheVariants as prompts
use Rattle.bx_editor.specs.Keys.{after_key, saving_of}
use Rattle.bx_editor_laws.specs.RunLaws.{saving_editor}
use Rattle.bx_editor_laws.specs.Laws.{after_typing}

-- the keys that may edit the text; all others leave it, or undo and redo what was done
abbrev pub may_edit : Key → Bool
may_edit (Insert c) = true
may_edit NewLine = true
may_edit Erase = true
may_edit ErasePoint = true
may_edit Delete = true
may_edit EraseWord = true
may_edit DeleteWord = true
may_edit Cut = true
may_edit Put = true
may_edit Replace = true
may_edit _ = false

-- An edit drops what could be redone. So one that is made where the past has `n` edits or more leaves the stored text in reach, and
-- so does a key that makes none: it may edit nothing, and ends no paste.
abbrev pub KeepsInReach : ℕ → Editor → Key → Type 0
KeepsInReach n e key = (n ≤ length e.content.past) ⊎ ((may_edit key ≡ false) × (e.pasted ≡ None))

-- a key that stores the text, as `saving_of` tells (a Save, or an answer), and that succeeds
abbrev pub stores : Data → Editor → Key × Option StoreFault → Bool
stores d e key = is_some (saving_of (saving_editor d e key.0) key.0) && is_none key.1

-- while these keys are typed the stored text stays in reach, and no other one is stored
abbrev pub StaysInReach : Data → ℕ → Editor → List (Key × Option StoreFault) → Type 0
StaysInReach d n e [] = Unit {0}
StaysInReach d n e (key ∷ typed) = KeepsInReach n e key.0 × ((stores d e key ≡ false) × StaysInReach d n (after_key d key.1 e key.0) typed)

-- A key that found an edit to step over counts the text as unchanged if `n` edits led to it, and as changed if more or fewer did.
pub record CountsChanges (n : ℕ) (edits : List Edit) (new : Editor) : Type 0 where
  pub stored : edits ≢ [] → length new.content.past ≡ n → new.changed ≡ false
  pub other : edits ≢ [] → length new.content.past ≢ n → new.changed ≡ true

-- Undo and Redo do so, where no paste is under way, the question is not whether to overwrite, and the text is not only looked at
abbrev pub RunsCountChanges : Data → ℕ → Editor → Type 0
RunsCountChanges d n e =
    e.pasted ≡ None → e.prompt ≢ prompts.Overwrite → e.read_only ≡ false
    → CountsChanges n e.content.past (after_key d None e Undo) × CountsChanges n e.content.future (after_key d None e Redo)

-- they do so after a key that stores the text, and after the opening, as long as the text that was stored or opened is in reach
pub record StoredIsUnchanged : Type 0 where
  pub saved : (d : Data) (e : Editor) (key : Key) (typed : List (Key × Option StoreFault)) → stores d e (key, None) ≡ true
      → let start = after_key d None e key in
      let n = length start.content.past in StaysInReach d n start typed → RunsCountChanges d n (after_typing d start typed)
  pub opened : (d : Data) (text : List ℕ) (height width : ℕ) (base : Base) (typed : List (Key × Option StoreFault))
      → let start = at_start text height width base in StaysInReach d 0 start typed → RunsCountChanges d 0 (after_typing d start typed)
