-- The session's state, and its changes: an editor, its pictures, and the bytes queued for the terminal. What reads the input stands
-- beside the session. `d` is Unicode's data, `s` the session before.
use Rattle.std.specs.Prelude.{ℕ, Bool, true, false, not, ◌||◌, List, [], ◌++◌, drop, Option, Some, None, if◌then◌else◌, ◌≡◌, is_some, option_map}
use Rattle.bx_common.specs.declared.base.Base.{Base}
use Rattle.bx_keys.specs.declared.key.Key.{Key}
use Rattle.bx_keys.specs.declared.key.Key.TheVariants.{Save}
use Rattle.bx_grid.specs.Tokens.{clip_bytes}
use Rattle.bx_grid.specs.Picture.{PictureState}
use Rattle.bx_paint.specs.Painting.{whole_bytes, changes_bytes}
use Rattle.bx_store.specs.declared.store.StoreFault.{StoreFault}
use Rattle.bx_store.specs.Faults.{with_fault}
use Rattle.bx_store.specs.declared.faults.Faults.{Faults}
use Rattle.bx_ucd.specs.Data.{Data}
use Rattle.bx_editor.specs.Region.{clip_of}
use Rattle.bx_editor.specs.Editor.{Editor, at_start, with_size}
use Rattle.bx_editor.specs.Editor as editors
use Rattle.bx_editor.specs.Keys.{after_key, asks_for_whole, needs_no_painting, is_save, may_refuse, saving_of}
use Rattle.bx_editor.specs.declared.scrolling.Scroll.{Scroll}
use Rattle.bx_editor.specs.declared.scrolling.Scroll.TheVariants.{Least}
use Rattle.bx_editor.specs.Picture.{picture, scrolled_by}
use Rattle.bx_editor.specs.Scrolling.{scroll_of}
use Rattle.bx_editor.specs.Settings.{SettingsState}
use Rattle.bx_editor.specs.Settings as editor_settings
use Rattle.bx_editor.specs.Putting.{paste_ended}

-- a session, without Unicode's tables
pub record Session : Type 0 where
  pub editor : Editor
  -- the picture last painted; None before the first
  pub painted : Option PictureState
  -- the picture that the screen is taken to show once it has read all bytes; None if its content is unknown
  pub known : Option PictureState
  -- the screen needs a painting that is not queued yet
  pub painting_owed : Bool
  -- bytes for the terminal
  pub pending : List ℕ

-- ---- painting

-- the bytes that paint a new picture: its changes from the picture shown, or the whole if none is known to be shown
abbrev pub painting : Option PictureState → PictureState → List ℕ
painting None new = whole_bytes new
painting (Some old) new = changes_bytes old new

-- the picture of an editor, from the row that is shown first on
abbrev pub picture_of : Data → Editor → PictureState
picture_of d e = picture d e e.top

-- a picture of this editor is painted
abbrev pub with_picture : Session → Editor → PictureState → Session
with_picture s e new = record s {
  editor = e;
  painted = Some new;
  known = Some new;
  painting_owed = false;
  pending = s.pending ++ painting s.known new;
}

-- scrolls as a key asks for it and then to the cursor, and paints the picture
abbrev pub with_painting_by : Data → Scroll → Session → Session
with_painting_by d scroll s = let e = scrolled_by d scroll s.editor in with_picture s e (picture_of d e)

-- scrolls to the cursor and paints the picture
abbrev pub with_painting : Data → Session → Session
with_painting d s = with_painting_by d Least s

-- the painting was refused
abbrev pub with_painting_owed : Session → Session
with_painting_owed s = record s { painting_owed = true }

-- bytes, and after them the clip of a text, if there is one
abbrev pub then_clip : List ℕ → Option (List ℕ) → List ℕ
then_clip bytes None = bytes
then_clip bytes (Some text) = bytes ++ clip_bytes text

-- paints the picture, and sends a text to the clipboard, if there is one, after the painting: one growth of the pending bytes
abbrev pub with_painting_and_clip : Data → Scroll → Session → Option (List ℕ) → Session
with_painting_and_clip d scroll s clip = let new = with_painting_by d scroll s in record new { pending = then_clip new.pending clip }

-- ---- opening

-- a text is opened in a window of `height` rows and `width` columns, and nothing is painted yet
abbrev pub before_painting : List ℕ → ℕ → ℕ → Base → Session
before_painting text height width base = record {
  editor = at_start text height width base;
  painted = None;
  known = None;
  painting_owed = false;
  pending = [];
}

-- a text is opened, and its first picture queued, from the text's start on
abbrev pub at_opening : Data → List ℕ → ℕ → ℕ → Base → Session
at_opening d text height width base =
    let s = before_painting text height width base in with_picture s s.editor (picture_of d s.editor)

-- ---- a press: a key, or none, as a byte of input completes it

-- the key of a press, as it counts: none after the session's end
abbrev pub counted_key : Session → Option Key → Option Key
counted_key s key = if s.editor.ended then None else key

-- the picture known to be shown after a key that leads to the editor `e`: None after Repaint or a size, and at the session's
-- end, so that the painting is of the whole screen
abbrev pub known_after : Option PictureState → Key → Editor → Option PictureState
known_after known key e = if asks_for_whole key || e.ended then None else known

-- a key is applied, and not yet painted; `fault`: why the save failed that it makes, None if it succeeded
abbrev pub session_after_key : Data → Option StoreFault → Session → Key → Session
session_after_key d fault s key =
    let e = after_key d fault s.editor key in
    record s { editor = e; known = known_after s.known key e }

-- a key, if there is one, is applied, and not yet painted
abbrev pub session_after_any : Data → Option StoreFault → Session → Option Key → Session
session_after_any d fault s None = s
session_after_any d fault s (Some key) = session_after_key d fault s key

-- the key of a press is applied, and not yet painted
abbrev pub unpainted_after_press : Data → Option StoreFault → Session → Option Key → Session
unpainted_after_press d fault s key = session_after_any d fault s (counted_key s key)

-- there is a key, and it may change the picture: all but what goes into a paste
abbrev pub needs_painting : Editor → Option Key → Bool
needs_painting e None = false
needs_painting e (Some key) = not (needs_no_painting e key)

-- the picture is painted after the press: its key may change it, or a painting is owed
abbrev pub is_painted_press : Session → Option Key → Bool
is_painted_press s key = s.painting_owed || needs_painting s.editor (counted_key s key)

-- what goes out to the clipboard after a key, if there was one; `e`: the editor after it
abbrev pub clip_after : Editor → Option Key → Option (List ℕ)
clip_after e None = None
clip_after e (Some key) = clip_of e key

-- how a key that comes to this editor, if one comes, moves the top
abbrev pub scroll_behind : Editor → Option Key → Scroll
scroll_behind e None = Least
scroll_behind e (Some key) = scroll_of e key

-- the picture is painted after a key that is applied, scrolled as it asks for, and what the key sends to the clipboard follows
abbrev pub painted_after : Data → Scroll → Session → Option Key → Session
painted_after d scroll s key = with_painting_and_clip d scroll s (clip_after s.editor key)

-- after a press that was not refused
abbrev pub after_press : Data → Option StoreFault → Session → Option Key → Session
after_press d fault s key =
    let new = unpainted_after_press d fault s key in
    if is_painted_press s key then painted_after d (scroll_behind s.editor (counted_key s key)) new (counted_key s key) else new

-- after a press whose painting was refused
abbrev pub owing_after_press : Data → Option StoreFault → Session → Option Key → Session
owing_after_press d fault s key = with_painting_owed (unpainted_after_press d fault s key)

-- ---- before the keys: a clipboard, the cursor's offset, and an unsaved text

-- from now on text that is copied or cut goes out to a clipboard
abbrev pub with_clipboard : Session → Session
with_clipboard s = record s { editor = editors.with_clipboard s.editor }

-- with a clipboard, if there is one
abbrev pub clipboard_if : Bool → Session → Session
clipboard_if true s = with_clipboard s
clipboard_if false s = s

-- the session works by these settings, which are told before anything is sent: what was queued is dropped
abbrev pub unpainted_with_settings : Session → SettingsState → Session
unpainted_with_settings s settings =
    record s { editor = editor_settings.with_settings s.editor settings; painted = None; known = None; pending = [] }

-- the session works by these settings, and its first picture is queued anew
abbrev pub with_settings : Data → Session → SettingsState → Session
with_settings d s settings = with_painting d (unpainted_with_settings s settings)

-- the same, where the painting was refused
abbrev pub owing_with_settings : Session → SettingsState → Session
owing_with_settings s settings = with_painting_owed (unpainted_with_settings s settings)

-- ---- a told size

-- the content of a resized screen is unknown
abbrev pub unpainted_after_told : Session → ℕ → ℕ → Session
unpainted_after_told s height width = record s { editor = with_size s.editor height width; known = None }

-- the session after a told size, with its painting
abbrev pub after_told : Data → Session → ℕ → ℕ → Session
after_told d s height width = with_painting d (unpainted_after_told s height width)

-- the session after a told size whose painting was refused
abbrev pub owing_after_told : Session → ℕ → ℕ → Session
owing_after_told s height width = with_painting_owed (unpainted_after_told s height width)

-- ---- sending

-- the first `count` pending bytes were sent
abbrev pub after_sending : Session → ℕ → Session
after_sending s count = record s { pending = drop count s.pending }

-- ---- the store after a press

-- a store's content, None if it is not known, and its failed calls: their number and the latest fault
pub record StoreState : Type 0 where
  pub contents : Option (List ℕ)
  pub faults : Faults

-- the state of a store of any type, of which these functions give content and failed calls
abbrev pub store_state : {S : Type 0} → (S → Option (List ℕ)) → (S → Faults) → S → StoreState
store_state contents faults store = record { contents = contents store; faults = faults store }

-- the store with this text as its content
abbrev pub with_text : List ℕ → StoreState → StoreState
with_text text store = record store { contents = option_map (λ _. text) store.contents }

-- a save that succeeds stores the text; one that fails leaves the content as it was and counts one more failed call, with its
-- fault
abbrev pub SaveEnds : Option StoreFault → List ℕ → StoreState → StoreState → Type 0
SaveEnds None text old new = new ≡ with_text text old
SaveEnds (Some fault) text old new = (new.contents ≡ old.contents) × (new.faults ≡ with_fault fault old.faults)

-- there is a key, and it is Save
abbrev pub is_save_key : Option Key → Bool
is_save_key None = false
is_save_key (Some key) = is_save key

-- there is a key, and this editor stores the text by it: a Save, or an answer
abbrev pub stores_by : Editor → Option Key → Bool
stores_by e None = false
stores_by e (Some key) = is_some (saving_of e key)

-- the press has such a key
abbrev pub is_save_press : Session → Option Key → Bool
is_save_press s key = stores_by s.editor (counted_key s key)

-- before it stores the text, a Save ends a paste
abbrev pub ready_to_store : Data → Editor → Key → Editor
ready_to_store d e Save = paste_ended d e
ready_to_store d e key = e

-- the text that it stores
abbrev pub text_to_save : Data → Editor → List ℕ
text_to_save d e = (paste_ended d e).content.text

-- the store after a press: only a key that stores the text, and is applied, changes it
abbrev pub StoreAfter : Bool → Option StoreFault → List ℕ → StoreState → StoreState → Type 0
StoreAfter true fault text old new = SaveEnds fault text old new
StoreAfter false fault text old new = new ≡ old

-- there is a key, and it is one that may be refused for want of memory
abbrev pub may_refuse_key : Editor → Option Key → Bool
may_refuse_key e None = false
may_refuse_key e (Some key) = may_refuse e key
