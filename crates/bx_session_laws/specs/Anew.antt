-- A second painting: where none is owed, it changes nothing, so a press without a key needs none. `d` is Unicode's data,
-- `s` a session; `fault` is why a Save failed, None if it succeeded.
use Rattle.std.specs.Prelude.{◌≡◌, ℕ, false, List, Option}
use Rattle.bx_common.specs.declared.base.Base.{Base}
use Rattle.bx_store.specs.declared.store.StoreFault.{StoreFault}
use Rattle.bx_ucd.specs.Data.{Data}
use Rattle.bx_keys.specs.declared.key.Key.{Key}
use Rattle.bx_session.specs.Session.{Session, with_painting, at_opening, after_press, owing_after_press, after_told, owing_after_told, after_sending}
use Rattle.bx_session.specs.Session.{owing_with_settings, with_clipboard, with_settings}
use Rattle.bx_session.specs.Replaying.{after_going, after_replayed_press, at_replay_end, at_unscrolled_end, unmoved_after_press}
use Rattle.bx_editor.specs.Settings.{SettingsState}
use Rattle.bx_editor.specs.Functions.{HasRows}

-- if no painting is owed, another painting changes nothing: it queues no byte, and the top and the picture stay
abbrev pub StaysPainted : Data → Session → Type 0
StaysPainted d s = s.painting_owed ≡ false → with_painting d s ≡ s

-- `StaysPainted` holds at opening, and each of these calls preserves it, whether it succeeds or is refused (a refused painting is
-- then owed).
pub record AlwaysStaysPainted : Type 0 where
  pub opening : (d : Data) (text : List ℕ) (height width : ℕ) (base : Base) → HasRows (at_opening d text height width base).editor
      → StaysPainted d (at_opening d text height width base)
  pub press : (d : Data) (fault : Option StoreFault) (s : Session) (key : Option Key) → HasRows (after_press d fault s key).editor → StaysPainted d s
      → StaysPainted d (after_press d fault s key)
  pub owing_press : (d : Data) (fault : Option StoreFault) (s : Session) (key : Option Key) → StaysPainted d (owing_after_press d fault s key)
  pub told : (d : Data) (s : Session) (height width : ℕ) → HasRows (after_told d s height width).editor → StaysPainted d (after_told d s height width)
  pub owing_told : (d : Data) (s : Session) (height width : ℕ) → StaysPainted d (owing_after_told s height width)
  pub replay : (d : Data) (s : Session) (key : Option Key) → StaysPainted d (after_replayed_press d s key)
  pub replay_end : (d : Data) (s : Session) → StaysPainted d (at_replay_end d s)
  pub unmoved_replay : (d : Data) (s : Session) (key : Option Key) → StaysPainted d (unmoved_after_press d s key)
  pub unscrolled_end : (d : Data) (s : Session) → StaysPainted d (at_unscrolled_end d s)
  pub settings : (d : Data) (s : Session) (settings : SettingsState) → HasRows (with_settings d s settings).editor
      → StaysPainted d (with_settings d s settings)
  pub owing_settings : (d : Data) (s : Session) (settings : SettingsState) → StaysPainted d (owing_with_settings s settings)
  pub clipboard : (d : Data) (s : Session) → StaysPainted d s → StaysPainted d (with_clipboard s)
  pub going : (d : Data) (s : Session) (offset : ℕ) → StaysPainted d (after_going d s offset)
  pub sending : (d : Data) (s : Session) (count : ℕ) → StaysPainted d s → StaysPainted d (after_sending s count)
