-- Laws of a paste, and of what goes out to a clipboard. `d` is Unicode's data, `e` the editor before, `new` the editor after.
use Rattle.std.specs.Prelude.{◌≡◌, ◌≢◌, ℕ, ◌+◌, ◌<◌, ◌≤◌, ◌⊎◌, ◌&&◌, not, Bool, true, false, List, [], ◌∷◌, ◌++◌, length, map, Option, Some, None, if◌then◌else◌}
use Rattle.bx_keys.specs.declared.key.Key.{Key}
use Rattle.bx_keys.specs.declared.key.Key.TheVariants.{Copy, Cut, Insert, PasteEnd, PasteStart}
use Rattle.bx_editor.specs.undo_groups.Groups.{edited}
use Rattle.bx_store.specs.declared.store.StoreFault.{StoreFault}
use Rattle.bx_text.specs.Edits.{inserted, splice}
use Rattle.bx_text.specs.Changes.{exchanged}
use Rattle.bx_ucd.specs.Data.{Data}
use Rattle.bx_editor.specs.declared.questions.answers.Prompt.TheVariants as prompts
use Rattle.bx_editor.specs.declared.message.Message.TheVariants.{TextFull, TooLongForClipboard}
use Rattle.bx_editor.specs.declared.questions.answers.Prompt.{Prompt}
use Rattle.bx_editor.specs.declared.search_state.SearchState.{SearchState}
use Rattle.bx_editor.specs.declared.search_state.SearchState.TheVariants.{Off, Replacing}
use Rattle.bx_editor.specs.Region.{clip_of, bytes_in, is_empty, largest_clip, region, taken, is_selection}
use Rattle.bx_editor.specs.Editor.{Editor, place_after}
use Rattle.bx_editor.specs.Keys.{after_key, needs_no_painting}
use Rattle.bx_editor.specs.Functions.{after_keys}
use Rattle.bx_editor.specs.Picture.{next_top, picture}
use Rattle.bx_editor.specs.Putting.{longer, paste_ended, pasted_bytes, pastes_crlf, has_room}

-- ---- a paste

-- what a paste has brought: a list with more characters, until it is longer than any text
abbrev pub brought : Data → List ℕ → List ℕ → List ℕ → List ℕ
brought d text list [] = list
brought d text list (c ∷ cs) = brought d text (longer (pastes_crlf d text c) list c) cs

-- these characters in UTF-8, and LF as the text's line end
abbrev pub written : Data → List ℕ → List ℕ → List ℕ
written d text [] = []
written d text (c ∷ cs) = pasted_bytes (pastes_crlf d text c) c ++ written d text cs

-- the editor after characters are pasted
abbrev pub after_paste : Data → Editor → List ℕ → Editor
after_paste d e cs = after_keys d None e (PasteStart ∷ (map Insert cs ++ PasteEnd ∷ []))

-- the place once the selection is removed
abbrev pub place_between : Data → Editor → ℕ
place_between d e = place_after d e (splice e.content.text (region e).0 (region e).1 []) (region e).0

-- `list` was put in as one edit that begins an undo group; where a selection gave way, as two of one undo group. The cursor is at
-- the first place at or after its end
pub record IsOneEdit (d : Data) (e : Editor) (list : List ℕ) (new : Editor) : Type 0 where
  pub alone : is_selection e ≡ false → new.content ≡ inserted e.content e.place list e.place new.place
  pub instead : is_selection e ≡ true
      → new.content ≡ exchanged e.content (region e).0 (region e).1 (place_between d e) list e.place (place_between d e) new.place
  pub begins : new.undo_groups ≡ edited e.undo_groups (length e.content.past) false
  pub place : new.place ≡ place_after d e new.content.text ((if is_selection e then place_between d e else e.place) + length list)

-- the text, with its past and future, and the cursor's place stay
pub record StaysAsText (e new : Editor) : Type 0 where
  pub content : new.content ≡ e.content
  pub place : new.place ≡ e.place

-- `list` is all of these characters where it has room, and it has room exactly where they do
pub record HasAll (d : Data) (e : Editor) (cs list : List ℕ) : Type 0 where
  pub whole : has_room e list ≡ true → list ≡ written d e.content.text cs
  pub same_room : has_room e list ≡ has_room e (written d e.content.text cs)

-- `list` is what the characters `cs` of a paste become. It is put in as one edit if there is room; otherwise text and place stay, and a
-- message says so. Afterwards no paste is under way.
pub record IsPaste (d : Data) (e : Editor) (cs list : List ℕ) (new : Editor) : Type 0 where
  pub all : HasAll d e cs list
  pub put : list ≢ [] → has_room e list ≡ true → IsOneEdit d e list new
  pub full : list ≢ [] → has_room e list ≡ false → StaysAsText e new × (new.message ≡ Some TextFull)
  pub empty : list ≡ [] → StaysAsText e new
  pub over : new.pasted ≡ None

-- outside a search and a question, where the text is not only looked at, a paste is one edit of all that it brings, or nothing where the text has no room for that
abbrev pub PasteIsOneEdit : Type 0
PasteIsOneEdit =
    (d : Data) (e : Editor) (cs : List ℕ) → e.prompt ≡ prompts.Off → e.search_state ≡ Off → e.pasted ≡ None → e.read_only ≡ false
    → IsPaste d e cs (brought d e.content.text [] cs) (after_paste d e cs)

-- two editors have the same picture, from any row on
pub record LooksAs (d : Data) (e new : Editor) : Type 0 where
  pub top : (top : ℕ) → next_top d new top ≡ next_top d e top
  pub same : (top : ℕ) → picture d new top ≡ picture d e top

-- a character that goes into a paste, and PasteStart once more, leave the picture as it is
abbrev pub PasteIsUnseen : Type 0
PasteIsUnseen = (d : Data) (e : Editor) (key : Key) → needs_no_painting e key ≡ true → LooksAs d e (after_key d None e key)

-- ---- a clipboard

-- nothing goes out by a key, and the held text stays
pub record SendsNothing (e : Editor) (key : Key) (new : Editor) : Type 0 where
  pub none : clip_of new key ≡ None
  pub stays : new.held ≡ e.held

-- a part of the text is held and goes out by a key, unless it is empty or too long to go out; that it is too long is told
pub record SendsHeld (e : Editor) (part : ℕ × ℕ) (key : Key) (new : Editor) : Type 0 where
  pub held : is_empty part ≡ false → new.held ≡ bytes_in e part
  pub sent : is_empty part ≡ false → length (bytes_in e part) ≤ largest_clip → clip_of new key ≡ Some (bytes_in e part)
  pub too_long : is_empty part ≡ false → largest_clip < length (bytes_in e part)
      → (clip_of new key ≡ None) × (new.message ≡ Some TooLongForClipboard)
  pub nothing : is_empty part ≡ true → SendsNothing e key new

-- where nothing is asked and sought, while a match is shown, and while a character's name is asked for: there Cut does its work
abbrev pub cuts_in : Prompt → SearchState → Bool
cuts_in prompts.Off Off = true
cuts_in prompts.Off Replacing = true
cuts_in prompts.Name search_state = true
cuts_in _ _ = false

-- it does, and the text is not only looked at
abbrev pub can_cut : Editor → Bool
can_cut e = cuts_in e.prompt e.search_state && not e.read_only

-- what Copy and Cut send where no paste is under way: Copy gives up a search or a question and then sends nothing
pub record SendsCopies (d : Data) (e by_copy by_cut : Editor) : Type 0 where
  pub copy : e.prompt ≡ prompts.Off → e.search_state ≡ Off → SendsHeld e (taken d e) Copy by_copy
  pub given_up : (e.prompt ≢ prompts.Off) ⊎ (e.search_state ≢ Off) → SendsNothing e Copy by_copy
  pub cut : can_cut e ≡ true → SendsHeld e (taken d e) Cut by_cut
  pub uncut : can_cut e ≡ false → SendsNothing e Cut by_cut

-- with a clipboard Copy and Cut, which first end a paste, send what they take; nothing else is sent
pub record SendsCopiesAlone (d : Data) (fault : Option StoreFault) (e : Editor) : Type 0 where
  pub copies : e.clipboard ≡ true → SendsCopies d (paste_ended d e) (after_key d fault e Copy) (after_key d fault e Cut)
  pub others : (key : Key) → key ≢ Copy → key ≢ Cut → clip_of (after_key d fault e key) key ≡ None
  pub without_one : e.clipboard ≡ false → (key : Key) → clip_of (after_key d fault e key) key ≡ None

abbrev pub CopiesGoOut : Type 0
CopiesGoOut = (d : Data) (fault : Option StoreFault) (e : Editor) → SendsCopiesAlone d fault e
