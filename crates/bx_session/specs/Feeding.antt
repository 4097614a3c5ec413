-- The value of the code's session, and what each answer to a press or a told size means. `d` is Unicode's data, `s` a session.
use Rattle.std.specs.Prelude.{ℕ, Bool, not, ◌&&◌, is_some, Option, None, if◌then◌else◌, ◌≡◌, true, false, Result, Ok, Err}
use Rattle.bx_grid.specs.Picture.{PictureState, is_size}
use Rattle.bx_session.specs.declared.status.Status.{Status}
use Rattle.bx_session.specs.declared.status.Status.TheVariants.{Running, Ended}
use Rattle.bx_keys.specs.declared.key.Key.{Key}
use Rattle.bx_session.specs.Session.{Session, counted_key, after_press, owing_after_press, is_painted_press, is_save_press, after_told}
use Rattle.bx_session.specs.Session.{owing_after_told, StoreAfter, StoreState, may_refuse_key, text_to_save}
use Rattle.bx_session.specs.declared.status.Refused.{Refused}
use Rattle.bx_session.specs.declared.status.Refused.TheVariants as refused
use Rattle.bx_store.specs.declared.store.StoreFault.{StoreFault}
use Rattle.bx_ucd.specs.Data.{Data}

-- the value of a `Session` (`src/session.rt`): a session and Unicode's tables
pub record SessionState (D : Type 0) : Type 0 where
  pub tables : D
  pub session : Session

-- the picture last painted, if the screen is taken to show it
abbrev pub known_if : Bool → Option PictureState → Option PictureState
known_if is_known painted = if is_known then painted else None

-- the press has no key, and no painting is owed
abbrev pub is_idle_press : Session → Option Key → Bool
is_idle_press s key = not (is_some (counted_key s key)) && not s.painting_owed

abbrev pub status_of : Session → Status
status_of s = if s.editor.ended then Ended else Running

-- the key of a press, if there is one, was applied: there was memory for it
abbrev pub is_applied : {A : Type 0} → Result A Refused → Bool
is_applied (Err refused.Edit) = false
is_applied _ = true

-- the session after a press, by the answer, which is never `Size`; `fault`: why a Save failed, None if it succeeded
abbrev pub AfterPress : Data → Option StoreFault → Session → Option Key → Result Status Refused → Session → Type 0
AfterPress d fault old key (Ok status) new = (new ≡ after_press d fault old key) × (status ≡ status_of new)
AfterPress d fault old key (Err refused.Edit) new = (new ≡ old) × (may_refuse_key old.editor (counted_key old key) ≡ true)
AfterPress d fault old key (Err refused.Paint) new = (new ≡ owing_after_press d fault old key) × (is_painted_press old key ≡ true)
AfterPress d fault old key (Err refused.Size) new = ⊥

-- session and store after a press
abbrev pub Presses : Data → Session → StoreState → Option Key → Result Status Refused → Session → StoreState → Type 0
Presses d old store key result new store' =
    (fault : Option StoreFault) × StoreAfter (is_applied result && is_save_press old key) fault (text_to_save d old.editor) store store'
    × AfterPress d fault old key result new

-- the session after it was told the window's size, by the answer, which is never `Edit`
abbrev pub ToldBy : {A : Type 0} → Data → Session → ℕ → ℕ → Result A Refused → Session → Type 0
ToldBy d old height width (Ok _) new = (is_size height width ≡ true) × (new ≡ after_told d old height width)
ToldBy d old height width (Err refused.Size) new = (is_size height width ≡ false) × (new ≡ old)
ToldBy d old height width (Err refused.Paint) new = (is_size height width ≡ true) × (new ≡ owing_after_told old height width)
ToldBy d old height width (Err refused.Edit) new = ⊥
