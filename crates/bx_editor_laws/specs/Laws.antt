-- Laws of the editor: the top, undo and redo, the region, the text's ends, and a search. In all files of this folder `d` is the
-- data of Unicode's tables, `e` the editor before some keys, and `new` the editor after them.
use Rattle.std.specs.Prelude.{◌≡◌, ◌≢◌, ◌⊎◌, ℕ, ◌+◌, ◌<◌, ◌≤◌, ◌&&◌, Bool, true, false, List, [], ◌∷◌, ◌++◌, length, take, drop, replicate, Option, Some, None, IsUtf8}
use Rattle.bx_common.specs.Characters.{largest_text}
use Rattle.bx_common.specs.declared.base.Base.{Base}
use Rattle.bx_keys.specs.declared.key.Key.{Key}
use Rattle.bx_keys.specs.declared.key.Key.TheVariants.{Quit, UndoEdit, RedoEdit, Mark, Copy, Cut, Put, Find, FindBack, FindNext, FindPrevious, Replace, TextStart, TextEnd, Cancel}
use Rattle.bx_store.specs.declared.store.StoreFault.{StoreFault}
use Rattle.bx_text.specs.Edits.{Edit}
use Rattle.bx_ucd.specs.Data.{Data}
use Rattle.bx_editor.specs.declared.questions.answers.Prompt.TheVariants as prompts
use Rattle.bx_find.specs.Nearest.{IsFirst, IsLast, MatchesAt}
use Rattle.bx_view.specs.Moves.{place_at}
use Rattle.bx_editor.specs.declared.message.Message.{Message}
use Rattle.bx_editor.specs.declared.message.Message.TheVariants.{FromStart, FromEnd, NotFound}
use Rattle.bx_editor.specs.declared.search_state.SearchState.{SearchState}
use Rattle.bx_editor.specs.declared.search_state.SearchState.TheVariants.{Off, Replacing}
use Rattle.bx_editor.specs.declared.cursor.Soft.{Soft}
use Rattle.bx_editor.specs.declared.cursor.Soft.TheVariants as softness
use Rattle.bx_editor.specs.declared.undo_groups.typing.Typing.TheVariants as typings
use Rattle.bx_editor.specs.Editor.{Editor, at_start, place_after, rows}
use Rattle.bx_editor.specs.Functions.{HasRows, after_keys}
use Rattle.bx_editor.specs.Keys.{after_key}
use Rattle.bx_editor.specs.Region.{bytes_in, region, mark_left}
use Rattle.bx_editor.specs.Origin.{asks_replacement, is_queried}
use Rattle.bx_editor.specs.PasteLaws.{can_cut, cuts_in}
use Rattle.bx_editor.specs.Search.{next_or_start, reading, sought}
use Rattle.bx_editor.specs.Picture.{next_top}

-- ---- the top

-- scrolling to the cursor a second time leaves the top where it is
abbrev pub TopStays : Type 0
TopStays = (d : Data) (e : Editor) (top : ℕ) → HasRows e → next_top d e (next_top d e top) ≡ next_top d e top

-- ---- undo and redo

-- the editor after keys in sequence, each with the fault of its save if it is a Save that fails, else with None
abbrev pub after_typing : Data → Editor → List (Key × Option StoreFault) → Editor
after_typing d e [] = e
after_typing d e (key ∷ typed) = after_typing d (after_key d key.1 e key.0) typed

-- UndoEdit, once for each edit of the past
abbrev pub after_all_undone : Data → Editor → Editor
after_all_undone d e = after_keys d None e (replicate (length e.content.past) UndoEdit)

-- the place before the oldest of some edits, the latest first; the given place, if there is no edit
abbrev pub oldest_place : ℕ → List Edit → ℕ
oldest_place place [] = place
oldest_place place (edit ∷ past) = oldest_place edit.before.place past

-- the mark that is left once some edits are undone: the given one if there is none, else no mark
abbrev pub mark_behind : Option ℕ → List Edit → Option ℕ
mark_behind mark [] = mark
mark_behind mark (edit ∷ past) = None

-- The new editor has this text, and nothing to undo. The cursor is where it was before the oldest edit of `e`, and no mark
-- is set; if `e` has no edit, place and mark are as in `e`.
pub record IsBackAt (text : List ℕ) (e new : Editor) : Type 0 where
  pub text_is : new.content.text ≡ text
  pub past_is : new.content.past ≡ []
  pub place_is : new.place ≡ oldest_place e.place e.content.past
  pub mark_is : new.mark ≡ mark_behind e.mark e.content.past

-- undoing everything restores the opened text, whatever was typed, unless a paste is under way, or the question is whether to overwrite,
-- which the first UndoEdit only ends
abbrev pub UndoGivesBack : Type 0
UndoGivesBack =
    (d : Data) (text : List ℕ) (height width : ℕ) (base : Base) (typed : List (Key × Option StoreFault))
    → let e = after_typing d (at_start text height width base) typed in
    e.pasted ≡ None → e.prompt ≢ prompts.Overwrite → IsBackAt text e (after_all_undone d e)

-- the cursor is at this place, and no mark is set
pub record IsUnmarkedAt (place : ℕ) (e : Editor) : Type 0 where
  pub place_is : e.place ≡ place
  pub mark_is : e.mark ≡ None

-- UndoEdit then RedoEdit leaves text, past and future unchanged, if there is an edit to undo, and the cursor at its place after that
-- edit. RedoEdit then UndoEdit leaves them unchanged, if there is an edit to redo, and the cursor at its place before that edit.
pub record AreMirrored (d : Data) (e : Editor) : Type 0 where
  pub redo : e.content.past ≢ [] → (after_keys d None e (UndoEdit ∷ RedoEdit ∷ [])).content ≡ e.content
  pub redo_place : (edit : Edit) (past : List Edit) → e.content.past ≡ edit ∷ past
      → IsUnmarkedAt edit.after.place (after_keys d None e (UndoEdit ∷ RedoEdit ∷ []))
  pub undo : e.content.future ≢ [] → (after_keys d None e (RedoEdit ∷ UndoEdit ∷ [])).content ≡ e.content
  pub undo_place : (edit : Edit) (future : List Edit) → e.content.future ≡ edit ∷ future
      → IsUnmarkedAt edit.before.place (after_keys d None e (RedoEdit ∷ UndoEdit ∷ []))

-- undo and redo mirror each other after anything that was typed over an opened text, unless a paste is under way, or the question is
-- whether to overwrite
abbrev pub RedoMirrorsUndo : Type 0
RedoMirrorsUndo =
    (d : Data) (text : List ℕ) (height width : ℕ) (base : Base) (typed : List (Key × Option StoreFault))
    → let e = after_typing d (at_start text height width base) typed in
    e.pasted ≡ None → e.prompt ≢ prompts.Overwrite → AreMirrored d e

-- ---- the region

-- a part of the text that is not empty
pub record IsPart (e : Editor) (part : ℕ × ℕ) : Type 0 where
  pub some : part.0 < part.1
  pub inside : part.1 ≤ length e.content.text

-- the text with a part of it twice, the copy right after it
abbrev pub twice : Editor → ℕ × ℕ → List ℕ
twice e part = take part.0 e.content.text ++ bytes_in e part ++ bytes_in e part ++ drop part.1 e.content.text

-- the new editor has this text, and no mark; the cursor is at the first place of this text at or after the offset
pub record HasPut (d : Data) (e : Editor) (text : List ℕ) (offset : ℕ) (new : Editor) : Type 0 where
  pub text_is : new.content.text ≡ text
  pub place_is : new.place ≡ place_after d e text offset
  pub mark_is : new.mark ≡ None

-- Outside a search, a question and a paste, where the text is not only looked at, copying the region and putting it back at once leaves
-- the text with the region twice, if there is room, and the cursor at the end of what was put. A selection stays when it is copied, so what
-- is put takes its place.
abbrev pub CopyPutsTwice : Type 0
CopyPutsTwice =
    (d : Data) (e : Editor) → e.prompt ≡ prompts.Off → e.search_state ≡ Off → e.pasted ≡ None → e.read_only ≡ false → e.soft ≡ softness.Off
    → IsPart e (region e) → length (twice e (region e)) ≤ largest_text
    → HasPut d e (twice e (region e)) (e.place + length (bytes_in e (region e))) (after_keys d None e (Copy ∷ Put ∷ []))

-- Outside a paste, where Cut does its work (in an input line it does nothing), cutting a region and putting it back at once leaves the text
-- unchanged, if the cut leaves the cursor where the cut text began, and the cursor at the end of that text.
abbrev pub PutRestoresCut : Type 0
PutRestoresCut =
    (d : Data) (e : Editor) → e.pasted ≡ None → can_cut e ≡ true → IsPart e (region e) → length e.content.text ≤ largest_text
    → (after_key d None e Cut).place ≡ (region e).0
    → HasPut d e e.content.text ((region e).1) (after_keys d None e (Cut ∷ Put ∷ []))

-- Mark twice at one place changes nothing but the message, if the mark was there or nowhere; a mark elsewhere is gone. A search, a
-- question and a selection end, nothing goes on, and an earlier Quit, a kept column and what was pressed are forgotten.
abbrev pub marked_twice : Editor → Option ℕ → Option Message → Editor
marked_twice e mark message = record e {
  mark = mark;
  soft = softness.Off;
  search_state = Off;
  prompt = prompts.Off;
  typing = typings.Off;
  message = message;
  quit_before = false;
  goal = None;
  clicks = None;
  pressed = None;
}

pub record AreTwoMarks (e new : Editor) : Type 0 where
  pub here : (e.mark ≡ None) ⊎ (e.mark ≡ Some e.place) → new ≡ marked_twice e e.mark new.message
  pub elsewhere : (mark : ℕ) → e.mark ≡ Some mark → mark ≢ e.place → new ≡ marked_twice e None new.message

-- So it is outside a paste, where no input line is shown and the question is not whether to overwrite: in an input line Mark does
-- nothing.
abbrev pub MarkTwiceIsNothing : Type 0
MarkTwiceIsNothing =
    (d : Data) (e : Editor) → e.pasted ≡ None → cuts_in e.prompt e.search_state ≡ true → AreTwoMarks e (after_keys d None e (Mark ∷ Mark ∷ []))

-- ---- the text's ends

-- the mark, unless a selection set it
abbrev pub hard_mark : Soft → Option ℕ → Option ℕ
hard_mark softness.Off mark = mark
hard_mark soft mark = None

-- the cursor is at this place, a search, a question and a selection have ended, nothing goes on, and the message, an earlier
-- Quit, a kept column and what was pressed are gone
abbrev pub only_at : ℕ → Editor → Editor
only_at place e = record e {
  place = place;
  mark = hard_mark e.soft e.mark;
  soft = softness.Off;
  search_state = Off;
  prompt = prompts.Off;
  typing = typings.Off;
  message = None;
  quit_before = false;
  goal = None;
  clicks = None;
  pressed = None;
}

-- Outside a paste, TextEnd then TextStart leads to the text's start, TextStart then TextEnd to its end; else they change only what
-- any move ends.
pub record ReachesBothEnds (d : Data) (e : Editor) : Type 0 where
  pub start : after_keys d None e (TextEnd ∷ TextStart ∷ []) ≡ only_at 0 e
  pub end : after_keys d None e (TextStart ∷ TextEnd ∷ []) ≡ only_at (length e.content.text) e

abbrev pub GoesToBothEnds : Type 0
GoesToBothEnds = (d : Data) (e : Editor) → e.pasted ≡ None → ReachesBothEnds d e

-- ---- a search

-- the query of a search is asked for, it has letters, and there is no question and no paste; the text is UTF-8, as in every
-- editor of the code
pub record Seeks (d : Data) (e : Editor) : Type 0 where
  pub text : IsUtf8 e.content.text
  pub unasked : e.prompt ≡ prompts.Off
  pub settled : e.pasted ≡ None
  pub on : is_queried e.search_state ≡ true
  pub letters : sought d e ≢ []

-- no match of the query begins at or after the offset `x`
abbrev pub NoneFrom : Data → Editor → ℕ → Type 0
NoneFrom d e x = (i : ℕ) → x ≤ i → ¬ (MatchesAt d (reading e.purpose) (sought d e) e.content.text i)

-- no match of the query begins before the offset `x`
abbrev pub NoneBefore : Data → Editor → ℕ → Type 0
NoneBefore d e x = (i : ℕ) → i < x → ¬ (MatchesAt d (reading e.purpose) (sought d e) e.content.text i)

-- the cursor went to the place of the offset, with this message or none
abbrev pub WentTo : Data → Editor → Editor → Option Message → ℕ → Type 0
WentTo d e new message offset = (new.place ≡ place_at (rows d e) offset) × (new.message ≡ message)

-- the cursor stayed, with the message that there is no match
abbrev pub Stayed : Editor → Editor → Type 0
Stayed e new = (new.place ≡ e.place) × (new.message ≡ Some NotFound)

-- Find in a search goes to the first match at or after the next place; if there is none, to the first match of the text, with a
-- message; without any match the cursor stays
abbrev pub FindGoesToNext : Type 0
FindGoesToNext =
    (d : Data) (e : Editor) → Seeks d e → let x = next_or_start d e in let new = after_key d None e Find in
    ((at : ℕ) × IsFirst d (reading e.purpose) (sought d e) e.content.text x at × WentTo d e new None at)
    ⊎ ((NoneFrom d e x × ((at : ℕ) × IsFirst d (reading e.purpose) (sought d e) e.content.text 0 at × WentTo d e new (Some FromStart) at))
    ⊎ (NoneFrom d e 0 × Stayed e new))

-- FindBack goes to the last match before the place; if there is none, to the last match of the text, with a message
abbrev pub FindBackGoesToPrevious : Type 0
FindBackGoesToPrevious =
    (d : Data) (e : Editor) → Seeks d e → let end = length e.content.text in let new = after_key d None e FindBack in
    ((at : ℕ) × IsLast d (reading e.purpose) (sought d e) e.content.text e.place at × WentTo d e new None at)
    ⊎ ((NoneBefore d e e.place × ((at : ℕ) × IsLast d (reading e.purpose) (sought d e) e.content.text end at × WentTo d e new (Some FromEnd) at))
    ⊎ (NoneBefore d e end × Stayed e new))

-- a key that begins a search where none is on
abbrev pub BeginsSearch : Key → Type 0
BeginsSearch key = (key ≡ Find) ⊎ ((key ≡ FindBack) ⊎ (key ≡ Replace))

-- a key that gives up a search that is on
abbrev pub GivesUp : Key → Type 0
GivesUp key = (key ≡ Quit) ⊎ ((key ≡ Copy) ⊎ (key ≡ Cancel))

-- a search is on, and no match is shown to be replaced
abbrev pub is_on : SearchState → Bool
is_on Off = false
is_on Replacing = false
is_on _ = true

-- the keys that find
abbrev pub finds : Key → Bool
finds Find = true
finds FindBack = true
finds FindNext = true
finds FindPrevious = true
finds _ = false

-- whether a key begins another search: one that finds, while the replacement is asked for
abbrev pub begins_anew : SearchState → Key → Bool
begins_anew search_state key = asks_replacement search_state && finds key

-- a search is on, and the same one stays on while these keys are typed
abbrev pub StaysOn : Data → Editor → List (Key × Option StoreFault) → Type 0
StaysOn d e [] = is_on e.search_state ≡ true
StaysOn d e (key ∷ typed) = (is_on e.search_state ≡ true) × ((begins_anew e.search_state key.0 ≡ false) × StaysOn d (after_key d key.1 e key.0) typed)

-- no search is on; place and text with its past and future are as in `e`, and so is the mark, unless it is an old selection's
pub record IsGivenUp (e new : Editor) : Type 0 where
  pub search_state_is : new.search_state ≡ Off
  pub place_is : new.place ≡ e.place
  pub mark_is : new.mark ≡ mark_left e.soft e.mark
  pub content_is : new.content ≡ e.content

-- giving up a search that began outside a paste puts the cursor back where it was then, whatever was typed in the search
abbrev pub GivingUpGoesBack : Type 0
GivingUpGoesBack =
    (d : Data) (e : Editor) (begin give : Key) (typed : List (Key × Option StoreFault)) → e.search_state ≡ Off → e.pasted ≡ None → BeginsSearch begin → GivesUp give
    → let begun = after_key d None e begin in StaysOn d begun typed → IsGivenUp e (after_key d None (after_typing d begun typed) give)
