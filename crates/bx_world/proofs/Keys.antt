-- What a key leaves of the window's size, of the mark of the last telling, and of what is known of the screen.
use Rattle.std.proofs.Common.{◌≡◌, ℕ, Bool, true, false, ◌⊎◌, inl, inr, Option, Some, None, refl, sym, subst, ◌∙◌, arith, if◌then◌else◌}
use Rattle.std.specs.Prelude.{IfSome, ◌||◌, ◌&&◌, ◌==◌}
use Rattle.std.proofs.lemmas.Bool.Decides.{nat_tests}
use Rattle.bx_keys.specs.declared.key.Key.{Key}
use Rattle.bx_keys.specs.declared.key.Key.TheVariants.{Size}
use Rattle.bx_grid.specs.Picture.{PictureState}
use Rattle.bx_store.specs.declared.store.StoreFault.{StoreFault}
use Rattle.bx_ucd.specs.Data.{Data}
use Rattle.bx_editor.specs.Editor.{Editor}
use Rattle.bx_editor.specs.Keys.{after_key, asks_for_whole}
use Rattle.bx_session.specs.Session.{Session, session_after_key, session_after_any, counted_key, unpainted_after_press}
use Rattle.bx_session.proofs.KeySizes.{SameSize, other_size}
use Rattle.bx_world.specs.World.{World, told_after, told_after_key, is_window}
use Rattle.bx_world.specs.Showing.{FitsWindow}

-- ---- kinds of keys

-- a key that is no telling keeps the editor's size
abbrev pub IsOther : Data → Option StoreFault → Editor → Key → Type 0
IsOther d fault e key = SameSize e (after_key d fault e key) × ((height width : ℕ) (told : Bool) → told_after height width told (Some key) ≡ told)

abbrev pub IsTelling : Key → Type 0
IsTelling key = (height : ℕ) × (width : ℕ) × (key ≡ Size height width)

pub kind_of_key : (d : Data) (fault : Option StoreFault) (e : Editor) (key : Key) → IsOther d fault e key ⊎ IsTelling key
kind_of_key d fault e (Size height width) = inr (height, width, refl)
kind_of_key d fault e key = inl (other_size d fault e key refl, λ h w t. refl)

-- ---- what a key leaves of a world's marks

-- of the session before the key's effect and the world before the press: where the size still counts as told, the editor
-- has the window's size, and what is known of the screen is what was known of it
pub record Keeps (w : World) (s new : Session) (told : Bool) : Type 0 where
  pub size : (w.told ≡ true → FitsWindow w.height w.width s.editor) → told ≡ true → FitsWindow w.height w.width new.editor
  pub known : told ≡ true → IfSome new.known (λ p. (w.told ≡ true) × (s.known ≡ Some p))

known_if : (g told : Bool) (painted : Option PictureState) → told ≡ true
    → IfSome (if g then None else painted) (λ p. (told ≡ true) × (painted ≡ Some p))
known_if true told painted on = tt
known_if false told None on = tt
known_if false told (Some p) on = (on, refl)

-- a key that is no telling
other_key : (d : Data) (fault : Option StoreFault) (w : World) (s : Session) (key : Key) → SameSize s.editor (after_key d fault s.editor key)
    → told_after_key w (Some key) ≡ w.told → Keeps w s (session_after_key d fault s key) (told_after_key w (Some key))
other_key d fault w s key size stays = record {
  size = λ fits on. (let was = fits (sym stays ∙ on) in (size.0 ∙ was.0, size.1 ∙ was.1));
  known = λ on. known_if (asks_for_whole key || (after_key d fault s.editor key).ended) w.told s.known (sym stays ∙ on);
}

pub both : (a b : Bool) → a && b ≡ true → (a ≡ true) × (b ≡ true)
both true b on = (refl, on)
both false b on = absurd (cc on)

pub same_number : (a b : ℕ) → a == b ≡ true → a ≡ b
same_number a b on = grind (arith, nat_tests, on)

size_key : (d : Data) (fault : Option StoreFault) (w : World) (s : Session) (height width : ℕ)
    → Keeps w s (session_after_key d fault s (Size height width)) (is_window w height width)
size_key d fault w s height width = record {
  size = λ fits on. (let each = both (w.height == height) (w.width == width) on in
      (sym (same_number w.height height each.0), sym (same_number w.width width each.1)));
  known = λ on. tt;
}

pub key_keeps : (d : Data) (fault : Option StoreFault) (w : World) (s : Session) (key : Key)
    → Keeps w s (session_after_key d fault s key) (told_after_key w (Some key))
key_keeps d fault w s key = by (kind_of_key d fault s.editor key) where
  by : IsOther d fault s.editor key ⊎ IsTelling key → Keeps w s (session_after_key d fault s key) (told_after_key w (Some key))
  by (inl other) = other_key d fault w s key other.0 (other.1 w.height w.width w.told)
  by (inr size) =
      subst (λ (k : Key). Keeps w s (session_after_key d fault s k) (told_after_key w (Some k))) (sym size.2) (size_key d fault w s size.0 size.1)

any_keeps : (d : Data) (fault : Option StoreFault) (w : World) (s : Session) (key : Option Key) → Keeps w s (session_after_any d fault s key) (told_after_key w key)
any_keeps d fault w s None = record { size = λ fits on. fits on; known = λ on. known_if false w.told s.known on }
any_keeps d fault w s (Some key) = key_keeps d fault w s key

-- ---- what a press leaves

-- its key is applied, and not yet painted
pub press_keeps : (d : Data) (fault : Option StoreFault) (w : World) (key : Option Key)
    → Keeps w w.session (unpainted_after_press d fault w.session key) (told_after_key w (counted_key w.session key))
press_keeps d fault w key = any_keeps d fault w w.session (counted_key w.session key)

any_pending : (d : Data) (fault : Option StoreFault) (s : Session) (key : Option Key) → (session_after_any d fault s key).pending ≡ s.pending
any_pending d fault s None = refl
any_pending d fault s (Some key) = refl

pub press_pending : (d : Data) (fault : Option StoreFault) (s : Session) (key : Option Key) → (unpainted_after_press d fault s key).pending ≡ s.pending
press_pending d fault s key = any_pending d fault s (counted_key s key)
