-- The editor after a press whose key was not refused.
use Rattle.std.proofs.Common.{◌≡◌, Bool, true, false, Option, Some, None, Result, Ok, Err, refl, sym, ap, subst, ◌∙◌, if◌then◌else◌}
use Rattle.std.specs.Prelude.{◌≢◌}
use Rattle.bx_keys.specs.declared.key.Key.{Key}
use Rattle.bx_store.specs.declared.store.StoreFault.{StoreFault}
use Rattle.bx_ucd.specs.Data.{Data}
use Rattle.bx_editor.specs.Editor.{Editor, with_top}
use Rattle.bx_editor.specs.Keys.{after_key}
use Rattle.bx_editor.specs.declared.scrolling.Scroll.{Scroll}
use Rattle.bx_editor.specs.Picture.{top_behind}
use Rattle.bx_session.specs.declared.status.Refused.{Refused}
use Rattle.bx_session.specs.declared.status.Refused.TheVariants as refused
use Rattle.bx_session.specs.declared.status.Status.{Status}
use Rattle.bx_session.specs.Feeding.{AfterPress}
use Rattle.bx_session.specs.Session.{Session, counted_key, is_painted_press, painted_after, scroll_behind, session_after_any, unpainted_after_press}

abbrev pub editor_after : Data → Option StoreFault → Editor → Option Key → Editor
editor_after d fault e None = e
editor_after d fault e (Some key) = after_key d fault e key

-- all but the row that is shown first, which a painting may move
pub record Leaves (d : Data) (fault : Option StoreFault) (old : Session) (key : Option Key) (new : Session) : Type 0 where
  pub editor : new.editor ≡ with_top (editor_after d fault old.editor key) new.editor.top

-- before the painting
any_leaves : (d : Data) (fault : Option StoreFault) (s : Session) (key : Option Key)
    → (session_after_any d fault s key).editor ≡ editor_after d fault s.editor key
any_leaves d fault s None = refl
any_leaves d fault s (Some key) = refl

unpainted_at : (ended : Bool) (d : Data) (fault : Option StoreFault) (s : Session) (key : Option Key) → ended ≡ false
    → (session_after_any d fault s (if ended then None else key)).editor ≡ editor_after d fault s.editor key
unpainted_at true d fault s key e = absurd (cc e)
unpainted_at false d fault s key e = any_leaves d fault s key

-- an editor is itself with its own top
own_top : (e new : Editor) → new ≡ e → new ≡ with_top e new.top
own_top e new is = is ∙ ap (λ (x : Editor). with_top e x.top) (sym is)

painted_at : (paints : Bool) (d : Data) (fault : Option StoreFault) (scroll : Scroll) (old new : Session) (key counts : Option Key)
    → new.editor ≡ editor_after d fault old.editor key → Leaves d fault old key (if paints then painted_after d scroll new counts else new)
painted_at true d fault scroll old new key counts h = record {
  editor = ap (λ (e : Editor). with_top e (top_behind d new.editor new.editor.top scroll)) h;
}
painted_at false d fault scroll old new key counts h = record { editor = own_top (editor_after d fault old.editor key) new.editor h }

pub press_leaves : (d : Data) (fault : Option StoreFault) (s : Session) (key : Option Key) (a : Result Status Refused) (new : Session)
    → s.editor.ended ≡ false → a ≢ Err refused.Edit → AfterPress d fault s key a new → Leaves d fault s key new
press_leaves d fault s key (Ok status) new runs some h =
    subst (Leaves d fault s key) (sym h.0)
    (painted_at (is_painted_press s key) d fault (scroll_behind s.editor (counted_key s key)) s (unpainted_after_press d fault s key) key (counted_key s key)
    (unpainted_at s.editor.ended d fault s key runs))
press_leaves d fault s key (Err refused.Edit) new runs some h = absurd (some refl)
press_leaves d fault s key (Err refused.Paint) new runs some h =
    let u = unpainted_after_press d fault s key in
    subst (Leaves d fault s key) (sym h.0)
    (record { editor = own_top (editor_after d fault s.editor key) u.editor (unpainted_at s.editor.ended d fault s key runs) })
press_leaves d fault s key (Err refused.Size) new runs some h = absurd h
