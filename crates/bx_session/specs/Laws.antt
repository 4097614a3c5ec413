-- Laws of sessions, for any input. `d` is Unicode's data, `s` a session, `bs` bytes.
use Rattle.std.specs.Prelude.{◌≡◌, ℕ, false, List, [], Option}
use Rattle.bx_common.specs.declared.base.Base.{Base}
use Rattle.bx_keys.specs.Keys.{decoding}
pub use Rattle.bx_keys.specs.Waiting.{keys_from}
use Rattle.bx_store.specs.declared.store.StoreFault.{StoreFault}
use Rattle.bx_ucd.specs.Data.{Data}
use Rattle.bx_keys.specs.declared.key.Key.{Key}
use Rattle.bx_session.specs.Inputs.{keys_in, presses_from}
use Rattle.bx_session.specs.Session.{Session, at_opening, after_press, owing_after_press, after_told, owing_after_told, after_sending}
use Rattle.bx_editor.specs.Settings.{SettingsState}
use Rattle.bx_session.specs.Session.{owing_with_settings, with_clipboard, with_settings}
use Rattle.bx_session.specs.Replaying.{after_all_replayed, after_going, after_replayed_press, at_replay_end, at_unscrolled_end, unmoved_after_press}
pub use Rattle.bx_session.specs.Replaying.{after_journal, after_replaying}
pub use Rattle.bx_session.specs.Painting.{ShowsState}

-- `ShowsState` holds at opening, and each of these calls preserves it, whether it succeeds or is refused
pub record AlwaysShowsState : Type 0 where
  pub opening : (d : Data) (text : List ℕ) (height width : ℕ) (base : Base) → ShowsState d (at_opening d text height width base)
  pub press : (d : Data) (fault : Option StoreFault) (s : Session) (key : Option Key) → ShowsState d s → ShowsState d (after_press d fault s key)
  pub owing_press : (d : Data) (fault : Option StoreFault) (s : Session) (key : Option Key) → ShowsState d (owing_after_press d fault s key)
  pub told : (d : Data) (s : Session) (height width : ℕ) → ShowsState d (after_told d s height width)
  pub owing_told : (d : Data) (s : Session) (height width : ℕ) → ShowsState d (owing_after_told s height width)
  pub replay : (d : Data) (s : Session) (key : Option Key) → ShowsState d (after_replayed_press d s key)
  pub replay_end : (d : Data) (s : Session) → ShowsState d (at_replay_end d s)
  pub unmoved_replay : (d : Data) (s : Session) (key : Option Key) → ShowsState d (unmoved_after_press d s key)
  pub unscrolled_end : (d : Data) (s : Session) → ShowsState d (at_unscrolled_end d s)
  pub settings : (d : Data) (s : Session) (settings : SettingsState) → ShowsState d (with_settings d s settings)
  pub owing_settings : (d : Data) (s : Session) (settings : SettingsState) → ShowsState d (owing_with_settings s settings)
  pub clipboard : (d : Data) (s : Session) → ShowsState d s → ShowsState d (with_clipboard s)
  pub going : (d : Data) (s : Session) (offset : ℕ) → ShowsState d (after_going d s offset)
  pub sending : (d : Data) (s : Session) (count : ℕ) → ShowsState d s → ShowsState d (after_sending s count)

-- decoding byte by byte gives the keys of the bytes as a whole
abbrev pub HasKeysOfInput : Type 0
HasKeysOfInput = (bs : List ℕ) → keys_in (presses_from [] bs) ≡ (decoding bs).keys

-- the presses of a journal apply their keys in order
abbrev pub ReplaysKeys : Type 0
ReplaysKeys =
    (d : Data) (s : Session) (presses : List (Option Key)) → s.editor.ended ≡ false
    → (after_replaying d s presses).editor ≡ after_all_replayed d s.editor (keys_in presses)
