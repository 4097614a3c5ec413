-- Laws of replacing: the match that is shown, and what Enter, Find and Replace make of it and of those after it. `d`, `e` and `new`
-- are as in Laws.antt.
use Rattle.std.specs.Prelude.{◌≡◌, ◌⊎◌, ℕ, ◌+◌, ◌<◌, ◌≤◌, true, false, List, [], ◌∷◌, ◌++◌, length, take, drop, slice_range, chars, All}
use Rattle.std.specs.Prelude.{Contains, IsUtf8, Option, Some, None}
use Rattle.bx_common.specs.Characters.{largest_text}
use Rattle.bx_common.specs.declared.base.Base.{Base}
use Rattle.bx_ucd.specs.Data.{Data}
use Rattle.bx_editor.specs.declared.questions.answers.Prompt.TheVariants as prompts
use Rattle.bx_find.specs.Nearest.{IsFirst, MatchesAt}
use Rattle.bx_find.specs.Letters.{letters}
use Rattle.bx_find.specs.Matches.{is_attached, match_end}
use Rattle.bx_find.specs.declared.letters.Reading.TheVariants.{Close}
use Rattle.bx_document.specs.Swapped.{behind_character, last_stop, swapped}
use Rattle.bx_keys.specs.declared.key.Key.{Key}
use Rattle.bx_keys.specs.declared.key.Key.TheVariants.{Find, Replace, Undo}
use Rattle.bx_store.specs.declared.store.StoreFault.{StoreFault}
use Rattle.bx_view.specs.Moves.{place_at}
use Rattle.bx_editor.specs.declared.search_state.SearchPurpose.TheVariants as purposes
use Rattle.bx_editor.specs.declared.message.Message.TheVariants.{Replaced, TextFull}
use Rattle.bx_editor.specs.declared.search_state.SearchState.TheVariants.{Off, Replacing}
use Rattle.bx_editor_laws.specs.AskingLaws.{is_enter}
use Rattle.bx_editor.specs.Editor.{Editor, at_start, place_after, rows}
use Rattle.bx_editor.specs.Functions.{HasRows, after_keys}
use Rattle.bx_editor.specs.Keys.{after_key}
use Rattle.bx_editor_laws.specs.Laws.{after_typing}
use Rattle.bx_editor.specs.Putting.{is_paste}
use Rattle.bx_editor.specs.Replacing.{match_stop}
use Rattle.bx_editor_laws.specs.RunLaws.{IsBackBefore}
use Rattle.bx_editor.specs.Search.{sought}

-- ---- the match that is shown

-- letters are read closely, the query stands at the offset `at` of the editor, and the cursor is at the place of that offset
pub record StandsThere (d : Data) (e : Editor) : Type 0 where
  pub purpose_is : e.purpose ≡ purposes.Replace
  pub here : MatchesAt d Close (sought d e) e.content.text e.at
  pub place_is : e.place ≡ place_at (rows d e) e.at

-- while these keys are typed the text is UTF-8 and the window has from 1 to 500 columns, as in every editor of the code
abbrev pub HaveRows : Data → Editor → List (Key × Option StoreFault) → Type 0
HaveRows d e [] = HasRows e
HaveRows d e (key ∷ typed) = HasRows e × HaveRows d (after_key d key.1 e key.0) typed

-- a match is shown only where the query stands, whatever was typed over an opened text
abbrev pub ShownStands : Type 0
ShownStands =
    (d : Data) (text : List ℕ) (height width : ℕ) (base : Base) (typed : List (Key × Option StoreFault))
    → let start = at_start text height width base in HaveRows d start typed
    → let e = after_typing d start typed in e.search_state ≡ Replacing → StandsThere d e

-- a match is shown, as in an editor of the code, no paste is under way, and the text is not only looked at
pub record IsShowing (d : Data) (e : Editor) : Type 0 where
  pub text : IsUtf8 e.content.text
  pub replacement : IsUtf8 e.replacement
  pub unasked : e.prompt ≡ prompts.Off
  pub settled : e.pasted ≡ None
  pub writes : e.read_only ≡ false
  pub shown : e.search_state ≡ Replacing
  pub stands : StandsThere d e

-- ---- where replacing leads

-- The first match at or after the offset x of the new text is shown, with the cursor at its place; if there is none, replacing
-- has ended, and the number of the replaced matches is told.
abbrev pub GoesOn : Data → Editor → ℕ → Type 0
GoesOn d new x =
    ((new.search_state ≡ Replacing) × (IsFirst d Close (sought d new) new.content.text x new.at × (new.place ≡ place_at (rows d new) new.at)))
    ⊎ ((new.search_state ≡ Off) × ((new.message ≡ Some (Replaced new.count)) × ((i : ℕ) → x ≤ i → ¬ (MatchesAt d Close (sought d new) new.content.text i))))

-- there is no room: text, place and the number of replaced matches stay, and the match is still shown
pub record IsFull (e new : Editor) : Type 0 where
  pub content_is : new.content ≡ e.content
  pub place_is : new.place ≡ e.place
  pub shown : new.search_state ≡ Replacing
  pub at_is : new.at ≡ e.at
  pub count_is : new.count ≡ e.count
  pub message_is : new.message ≡ Some TextFull

-- ---- one is replaced

-- the text with the other one in place of the match
abbrev pub with_one : Data → Editor → List ℕ
with_one d e = take e.at e.content.text ++ e.replacement ++ drop (match_stop d e) e.content.text

-- The match has the query's letters, and gives way to the replacement; before and after it nothing has changed. Where
-- replacing has ended, the cursor is at the first place at or after the end of the replacement.
pub record HasReplacedOne (d : Data) (e new : Editor) : Type 0 where
  pub letters_are : letters d Close (chars (slice_range e.content.text e.at (match_stop d e))) ≡ sought d e
  pub text_is : new.content.text ≡ with_one d e
  pub count_is : new.count ≡ e.count + 1
  pub goes_on : GoesOn d new (e.at + length e.replacement)
  pub ended : new.search_state ≡ Off → new.place ≡ place_after d e (with_one d e) (e.at + length e.replacement)

-- the match is replaced if there is room
pub record ReplacesMatch (d : Data) (e new : Editor) : Type 0 where
  pub fits : length (with_one d e) ≤ largest_text → HasReplacedOne d e new
  pub full : largest_text < length (with_one d e) → IsFull e new

-- the end of a line that is typed, not pasted, replaces the match, and shows the next one after the replacement
abbrev pub EnterReplaces : Type 0
EnterReplaces =
    (d : Data) (e : Editor) (enter : Key) → IsShowing d e → is_paste e.typing ≡ false → is_enter enter ≡ true
    → ReplacesMatch d e (after_key d None e enter)

-- Find passes over the match: nothing is replaced, and the next match after its first character is shown. Where replacing has
-- ended, the cursor stays.
pub record PassesOver (d : Data) (e new : Editor) : Type 0 where
  pub content_is : new.content ≡ e.content
  pub count_is : new.count ≡ e.count
  pub goes_on : GoesOn d new (behind_character e.content.text e.at)
  pub ended : new.search_state ≡ Off → new.place ≡ e.place

abbrev pub FindPassesOver : Type 0
FindPassesOver = (d : Data) (e : Editor) → IsShowing d e → PassesOver d e (after_key d None e Find)

-- ---- all are replaced

-- Matches, pairs of the offsets of their start and end, follow one another from an offset on without a common part.
abbrev pub AreApart : ℕ → List (ℕ × ℕ) → Type 0
AreApart from [] = Unit {0}
AreApart from (s ∷ ss) = (from ≤ s.0) × ((s.0 < s.1) × AreApart s.1 ss)

-- an offset lies in one of some matches
abbrev pub LiesIn : ℕ → List (ℕ × ℕ) → Type 0
LiesIn i spans = (s : ℕ × ℕ) × Contains spans s × (s.0 ≤ i) × (i < s.1)

-- a pair of offsets is a match and its end
abbrev pub IsMatch : Data → Editor → ℕ × ℕ → Type 0
IsMatch d e s = MatchesAt d Close (sought d e) e.content.text s.0 × (s.1 ≡ match_end d Close (sought d e) e.content.text s.0)

-- no match leaves a mark behind that goes with its last letter: the character at its end, if there is one, is not attached
abbrev pub MatchTakesMarks : Type 0
MatchTakesMarks =
    (d : Data) (e : Editor) (s : ℕ × ℕ) → IsUtf8 e.content.text → IsMatch d e s
    → (c : ℕ) (cs : List ℕ) → chars (drop s.1 e.content.text) ≡ c ∷ cs → is_attached d c ≡ false

-- The spans are the matches from the shown one on: they are apart, each has the query's letters, and each offset from there on at
-- which the query stands lies in one of them.
pub record AreTheMatches (d : Data) (e : Editor) (spans : List (ℕ × ℕ)) : Type 0 where
  pub are_matches : All (IsMatch d e) spans
  pub apart : AreApart e.at spans
  pub letters_are : All (λ s. letters d Close (chars (slice_range e.content.text s.0 s.1)) ≡ sought d e) spans
  pub all : (i : ℕ) → e.at ≤ i → MatchesAt d Close (sought d e) e.content.text i → LiesIn i spans

-- the text with the other one in place of each of these matches
abbrev pub with_all : Editor → List (ℕ × ℕ) → List ℕ
with_all e spans = take e.at e.content.text ++ swapped e.at e.content.text e.replacement spans ++ drop (last_stop e.at spans) e.content.text

-- each match gives way to the replacement once, and the text outside the matches has not changed
pub record HasReplacedAll (d : Data) (e : Editor) (spans : List (ℕ × ℕ)) (new : Editor) : Type 0 where
  pub text_is : new.content.text ≡ with_all e spans
  pub place_is : new.place ≡ place_after d e (with_all e spans) (e.at + length (swapped e.at e.content.text e.replacement spans))
  pub count_is : new.count ≡ e.count + length spans
  pub search_state_is : new.search_state ≡ Off
  pub message_is : new.message ≡ Some (Replaced new.count)

-- all matches from the shown one on, the spans, are replaced if there is room for all; else none is
pub record ReplacesMatches (d : Data) (e : Editor) (new : Editor) : Type 0 where
  pub spans : List (ℕ × ℕ)
  pub are : AreTheMatches d e spans
  pub fits : length (with_all e spans) ≤ largest_text → HasReplacedAll d e spans new
  pub full : largest_text < length (with_all e spans) → IsFull e new

abbrev pub ReplaceReplacesAll : Type 0
ReplaceReplacesAll = (d : Data) (e : Editor) → IsShowing d e → ReplacesMatches d e (after_key d None e Replace)

-- ---- what was replaced comes back

-- a key that replaces
abbrev pub DoesReplace : Key → Type 0
DoesReplace key = (is_enter key ≡ true) ⊎ (key ≡ Replace)

-- outside a paste, where the text is not only looked at, one Undo takes back all that a key replaced
abbrev pub ReplacedComesBack : Type 0
ReplacedComesBack =
    (d : Data) (e : Editor) (key : Key) → e.prompt ≡ prompts.Off → e.search_state ≡ Replacing → e.pasted ≡ None → e.read_only ≡ false → DoesReplace key
    → length e.content.past < length (after_key d None e key).content.past → IsBackBefore e (after_keys d None e (key ∷ Undo ∷ []))

-- ---- replacing by the same letters

-- if the replacement has the letters of the query, the text has the same letters after a key that replaces
abbrev pub SameLettersStay : Type 0
SameLettersStay =
    (d : Data) (e : Editor) (key : Key) → IsShowing d e → DoesReplace key → letters d Close (chars e.replacement) ≡ sought d e
    → letters d Close (chars (after_key d None e key).content.text) ≡ letters d Close (chars e.content.text)
