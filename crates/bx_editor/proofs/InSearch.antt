-- Keys in a search, and in a question.
use Rattle.std.proofs.Common.{◌≡◌, ℕ, List, false, Option, Some, None, refl, sym, ap, ap₂, ◌∙◌, if◌then◌else◌}
use Rattle.bx_keys.specs.declared.key.Key.{Key}
use Rattle.bx_keys.specs.declared.key.Key.TheVariants.{Insert, Erase, Delete, Back, Forward, Up, Down, Right, Left, RowHome, RowEnd, PageUp, PageDown, Save}
use Rattle.bx_keys.specs.declared.key.Key.TheVariants.{Quit, UndoEdit, RedoEdit, Repaint, Direction, Size, Mark, Copy, Cut, Put}
use Rattle.bx_keys.specs.declared.key.Key.TheVariants.{Find, FindBack, WordLeft, WordRight, TextStart, TextEnd, Help, Notice}
use Rattle.bx_keys.specs.declared.key.Key.TheVariants.{EraseWord, DeleteWord, ErasePoint, NewLine, FindNext, Cancel, LineUp, LineDown, PageBack, PageOn}
use Rattle.bx_keys.specs.declared.key.Key.TheVariants.{Select, Undo, Redo, GoTo, Replace, Name, Tell, PasteStart, PasteEnd, Point}
use Rattle.bx_keys.specs.declared.key.Key.TheVariants.{AskOverwrite, Drag, Fill, FindPrevious, SaveAs, ScrollBack, ScrollOn, SelectAll}
use Rattle.bx_keys.specs.declared.notice.Notice as told
use Rattle.bx_store.specs.declared.store.StoreFault.{StoreFault}
use Rattle.bx_ucd.specs.Data.{Data}
use Rattle.bx_editor.specs.declared.questions.answers.Prompt.{Prompt}
use Rattle.bx_editor.specs.declared.questions.answers.Prompt.TheVariants as prompts
use Rattle.bx_editor.specs.Asking.{without_prompt}
use Rattle.bx_editor.specs.declared.search_state.SearchState.{SearchState}
use Rattle.bx_editor.specs.declared.search_state.SearchState.TheVariants.{Off, Begun, Typed, WithBegun, WithTyped, Replacing}
use Rattle.bx_editor.specs.Editor.{Editor, cleared, with_notice, with_size}
use Rattle.bx_editor.specs.Before.{Before, before}
use Rattle.bx_editor.specs.Effects.{Refuses, Saves, by}
use Rattle.bx_editor.specs.Keys.{after_any, after_in_paste, after_key, after_press, after_pressing, after_user, as_left}
use Rattle.bx_editor.specs.Functions.{is_told_key}
use Rattle.bx_editor.specs.Putting.{after_paste_end, after_paste_start, after_pasted_letter, paste_ended}
use Rattle.bx_editor.specs.Search.{without_search}
use Rattle.bx_editor.specs.Saving.{after_saving}

-- any key is told, or one that the user presses
pub each-key : (d : Data) (fault : Option StoreFault) (e : Editor) (P : Key → Editor → Type 0) → ((height width : ℕ) → P (Size height width) (with_size e height width))
    → ((notice : told.Notice) → P (Notice notice) (with_notice e notice)) → P Fill e
    → (P PasteStart (after_paste_start e) × P PasteEnd (after_paste_end d e))
    → ((key : Key) → is_told_key key ≡ false → P key (after_press d fault e.pasted e key)) → (key : Key)
    → P key (after_key d fault e key)
each-key d fault e P sized noted filled pasted other (Size height width) = sized height width
each-key d fault e P sized noted filled pasted other (Notice notice) = noted notice
each-key d fault e P sized noted filled pasted other (Insert c) = other (Insert c) refl
each-key d fault e P sized noted filled pasted other Erase = other Erase refl
each-key d fault e P sized noted filled pasted other Delete = other Delete refl
each-key d fault e P sized noted filled pasted other Back = other Back refl
each-key d fault e P sized noted filled pasted other Forward = other Forward refl
each-key d fault e P sized noted filled pasted other Up = other Up refl
each-key d fault e P sized noted filled pasted other Down = other Down refl
each-key d fault e P sized noted filled pasted other Right = other Right refl
each-key d fault e P sized noted filled pasted other Left = other Left refl
each-key d fault e P sized noted filled pasted other RowHome = other RowHome refl
each-key d fault e P sized noted filled pasted other RowEnd = other RowEnd refl
each-key d fault e P sized noted filled pasted other PageUp = other PageUp refl
each-key d fault e P sized noted filled pasted other PageDown = other PageDown refl
each-key d fault e P sized noted filled pasted other Save = other Save refl
each-key d fault e P sized noted filled pasted other Quit = other Quit refl
each-key d fault e P sized noted filled pasted other UndoEdit = other UndoEdit refl
each-key d fault e P sized noted filled pasted other RedoEdit = other RedoEdit refl
each-key d fault e P sized noted filled pasted other Repaint = other Repaint refl
each-key d fault e P sized noted filled pasted other Direction = other Direction refl
each-key d fault e P sized noted filled pasted other Mark = other Mark refl
each-key d fault e P sized noted filled pasted other Copy = other Copy refl
each-key d fault e P sized noted filled pasted other Cut = other Cut refl
each-key d fault e P sized noted filled pasted other Put = other Put refl
each-key d fault e P sized noted filled pasted other Find = other Find refl
each-key d fault e P sized noted filled pasted other FindBack = other FindBack refl
each-key d fault e P sized noted filled pasted other WordLeft = other WordLeft refl
each-key d fault e P sized noted filled pasted other WordRight = other WordRight refl
each-key d fault e P sized noted filled pasted other TextStart = other TextStart refl
each-key d fault e P sized noted filled pasted other TextEnd = other TextEnd refl
each-key d fault e P sized noted filled pasted other Help = other Help refl
each-key d fault e P sized noted filled pasted other EraseWord = other EraseWord refl
each-key d fault e P sized noted filled pasted other DeleteWord = other DeleteWord refl
each-key d fault e P sized noted filled pasted other ErasePoint = other ErasePoint refl
each-key d fault e P sized noted filled pasted other NewLine = other NewLine refl
each-key d fault e P sized noted filled pasted other FindNext = other FindNext refl
each-key d fault e P sized noted filled pasted other Cancel = other Cancel refl
each-key d fault e P sized noted filled pasted other LineUp = other LineUp refl
each-key d fault e P sized noted filled pasted other LineDown = other LineDown refl
each-key d fault e P sized noted filled pasted other PageBack = other PageBack refl
each-key d fault e P sized noted filled pasted other PageOn = other PageOn refl
each-key d fault e P sized noted filled pasted other Select = other Select refl
each-key d fault e P sized noted filled pasted other Undo = other Undo refl
each-key d fault e P sized noted filled pasted other Redo = other Redo refl
each-key d fault e P sized noted filled pasted other GoTo = other GoTo refl
each-key d fault e P sized noted filled pasted other Replace = other Replace refl
each-key d fault e P sized noted filled pasted other Name = other Name refl
each-key d fault e P sized noted filled pasted other Tell = other Tell refl
each-key d fault e P sized noted filled pasted other (Point row column) = other (Point row column) refl
each-key d fault e P sized noted filled pasted other (Drag row column) = other (Drag row column) refl
each-key d fault e P sized noted filled pasted other ScrollBack = other ScrollBack refl
each-key d fault e P sized noted filled pasted other ScrollOn = other ScrollOn refl
each-key d fault e P sized noted filled pasted other SelectAll = other SelectAll refl
each-key d fault e P sized noted filled pasted other FindPrevious = other FindPrevious refl
each-key d fault e P sized noted filled pasted other SaveAs = other SaveAs refl
each-key d fault e P sized noted filled pasted other AskOverwrite = other AskOverwrite refl
each-key d fault e P sized noted filled pasted other Fill = filled
each-key d fault e P sized noted filled pasted other PasteStart = pasted.0
each-key d fault e P sized noted filled pasted other PasteEnd = pasted.1

pub pressed-key : (d : Data) (fault : Option StoreFault) (e : Editor) (key : Key) → is_told_key key ≡ false
    → after_key d fault e key ≡ after_press d fault e.pasted e key
pressed-key d fault e =
    each-key d fault e (λ key new. is_told_key key ≡ false → new ≡ after_press d fault e.pasted e key)
    (λ height width told. absurd (cc told)) (λ notice told. absurd (cc told)) (λ told. absurd (cc told))
    (λ told. absurd (cc told), λ told. absurd (cc told)) (λ key small other. refl)

-- where no paste is under way
pub any-key : (d : Data) (fault : Option StoreFault) (e : Editor) (key : Key) → e.pasted ≡ None → is_told_key key ≡ false
    → after_key d fault e key ≡ after_user d fault e key
any-key d fault e key none small = pressed-key d fault e key small ∙ ap (λ pasted. after_press d fault pasted e key) none

-- ---- while a paste is under way

-- a character goes into it, Repaint leaves it, and any other key ends it
in-paste : (d : Data) (fault : Option StoreFault) (e : Editor) (P : Editor → Type 0) (key : Key) → ((c : ℕ) → P (after_pasted_letter d e c))
    → P (after_user d fault e key) → P (after_user d fault (paste_ended d e) key) → P (after_in_paste d fault e key)
in-paste d fault e P (Insert c) letter painted ended = letter c
in-paste d fault e P Repaint letter painted ended = painted
in-paste d fault e P key letter painted ended = ended

press-by : (d : Data) (fault : Option StoreFault) (e : Editor) (P : Editor → Type 0) (key : Key) (pasted : Option (List ℕ))
    → ((c : ℕ) → P (after_pasted_letter d e c)) → P (after_user d fault e key) → P (after_user d fault (paste_ended d e) key)
    → P (after_press d fault pasted e key)
press-by d fault e P key None letter plain ended = plain
press-by d fault e P key (Some list) letter plain ended = in-paste d fault e P key letter plain ended

-- a key that the user presses: `plain` where no paste is under way, `ended` once it has ended
pub press-keeps : (d : Data) (fault : Option StoreFault) (e : Editor) (P : Editor → Type 0) (key : Key)
    → (plain : (x : Editor) → P x → P (after_user d fault x key)) → (ended : (x : Editor) → P x → P (paste_ended d x))
    → ((c : ℕ) → P (after_pasted_letter d e c)) → P e → P (after_press d fault e.pasted e key)
press-keeps d fault e P key plain ended letter h =
    press-by d fault e P key e.pasted letter (plain e h) (plain (paste_ended d e) (ended e h))

-- ---- a Save, where the text is not only looked at

-- it ends a search and a question, and leaves an editor without both as it is
plain : (e : Editor) (prompt : Prompt) (search_state : SearchState) → prompt ≡ prompts.Off → search_state ≡ Off
    → record e { prompt = prompt; search_state = search_state } ≡ without_prompt (without_search e)
plain e prompt search_state unasked unsought = ap₂ (λ a s. record e { prompt = a; search_state = s }) unasked unsought

pressed : (d : Data) (fault : Option StoreFault) (was : Before) (e : Editor) → e.read_only ≡ false
    → after_pressing d fault was e Save ≡ after_saving fault e
pressed d fault was e writes = ap (λ b. by d fault was e (if b then Refuses else Saves)) writes

-- from an editor with what is asked and sought given
ended-by : (d : Data) (fault : Option StoreFault) (was : Before) (e : Editor) (prompt : Prompt) (search_state : SearchState) → e.read_only ≡ false
    → prompt ≡ prompts.Off → search_state ≡ Off
    → after_pressing d fault was (record e { prompt = prompt; search_state = search_state }) Save
    ≡ after_saving fault (without_prompt (without_search e))
ended-by d fault was e prompt search_state writes unasked unsought =
    pressed d fault was (record e { prompt = prompt; search_state = search_state }) writes
    ∙ ap (after_saving fault) (plain e prompt search_state unasked unsought)

save-any : (d : Data) (fault : Option StoreFault) (was : Before) (prompt : Prompt) (search_state : SearchState) (e : Editor) → e.prompt ≡ prompt
    → e.search_state ≡ search_state → e.read_only ≡ false → (prompt ≡ prompts.Overwrite → ⊥)
    → after_any d fault was prompt search_state e Save ≡ after_saving fault (without_prompt (without_search e))
save-any d fault was prompts.Off Off e unasked unsought writes other = ended-by d fault was e e.prompt e.search_state writes unasked unsought
save-any d fault was prompts.Off Begun e unasked on writes other = ended-by d fault was e e.prompt Off writes unasked refl
save-any d fault was prompts.Off Typed e unasked on writes other = ended-by d fault was e e.prompt Off writes unasked refl
save-any d fault was prompts.Off WithBegun e unasked on writes other = ended-by d fault was e e.prompt Off writes unasked refl
save-any d fault was prompts.Off WithTyped e unasked on writes other = ended-by d fault was e e.prompt Off writes unasked refl
save-any d fault was prompts.Off Replacing e unasked on writes other = ended-by d fault was e e.prompt Off writes unasked refl
save-any d fault was prompts.Line search_state e asked is writes other = ended-by d fault was e prompts.Off Off writes refl refl
save-any d fault was prompts.Name search_state e asked is writes other = ended-by d fault was e prompts.Off Off writes refl refl
save-any d fault was prompts.Code search_state e asked is writes other = ended-by d fault was e prompts.Off Off writes refl refl
save-any d fault was prompts.File search_state e asked is writes other = ended-by d fault was e prompts.Off Off writes refl refl
save-any d fault was prompts.Overwrite search_state e asked is writes other = absurd (other refl)

-- in the question whether to overwrite it only declines
pub save-ends : (d : Data) (fault : Option StoreFault) (e : Editor) → e.pasted ≡ None → e.read_only ≡ false
    → (e.prompt ≡ prompts.Overwrite → ⊥)
    → after_key d fault e Save ≡ as_left Save (after_saving fault (without_prompt (without_search (cleared e))))
save-ends d fault e none writes other =
    any-key d fault e Save none refl
    ∙ ap (as_left Save) (save-any d fault (before e) e.prompt e.search_state (cleared e) refl refl writes other)
