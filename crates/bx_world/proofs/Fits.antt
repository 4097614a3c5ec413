-- In a window that keeps its size, the size counts as told exactly where it is the session's.
use Rattle.std.proofs.Common.{◌≡◌, ℕ, Bool, true, false, [], ◌∷◌, ◌⊎◌, inl, inr, Option, Some, None, Result, Ok, Err, refl, sym, ap, subst, ◌∙◌}
use Rattle.std.specs.Prelude.{◌&&◌, ◌==◌}
use Rattle.std.specs.List.{AllByRecursion}
use Rattle.bx_keys.specs.declared.key.Key.{Key}
use Rattle.bx_store.specs.declared.store.StoreFault.{StoreFault}
use Rattle.bx_ucd.specs.Data.{Data}
use Rattle.bx_editor.specs.Editor.{Editor}
use Rattle.bx_editor.specs.Keys.{after_key}
use Rattle.bx_session.specs.declared.status.Refused.TheVariants as refused
use Rattle.bx_session.specs.Session.{StoreState, Session, after_press, counted_key, is_painted_press, owing_after_press, scroll_behind}
use Rattle.bx_session.proofs.KeySizes.{SameSize}
use Rattle.bx_world.specs.declared.step.Step.{Step}
use Rattle.bx_world.specs.declared.step.Step.TheVariants.{Byte, Window, Told, Send, Read}
use Rattle.bx_world.specs.declared.step.StepFault.{StepFault}
use Rattle.bx_world.specs.declared.step.StepFault.TheVariants as faults
use Rattle.bx_world.specs.World.{World, press_of, told_after, with_byte, AfterByteStep, AfterSendStep, AfterReadStep, StepsTo, PlaysTo}
use Rattle.bx_editor.specs.declared.scrolling.Scroll.{Scroll}
use Rattle.bx_world.specs.Events.{after_input, painted_if}
use Rattle.bx_world.specs.Runs.{Schedule}
use Rattle.bx_grid.specs.declared.error.GridError.TheVariants as grid
use Rattle.bx_world.proofs.Brought.{byte_pressed}
use Rattle.bx_world.proofs.Keys.{IsOther, IsTelling, kind_of_key}

-- the window has the editor's size
abbrev pub fits : ℕ → ℕ → Editor → Bool
fits height width e = (height == e.height) && (width == e.width)

same_fits : (height width : ℕ) (e f : Editor) → SameSize e f → fits height width e ≡ fits height width f
same_fits height width e f same = ap (λ h. (height == h) && (width == e.width)) (sym same.0) ∙ ap (λ w. (height == f.height) && (width == w)) (sym same.1)

pub key_fits : (d : Data) (fault : Option StoreFault) (height width : ℕ) (told : Bool) (e : Editor) (key : Key) → told ≡ fits height width e
    → told_after height width told (Some key) ≡ fits height width (after_key d fault e key)
key_fits d fault height width told e key was = by (kind_of_key d fault e key) where
  by : IsOther d fault e key ⊎ IsTelling key → told_after height width told (Some key) ≡ fits height width (after_key d fault e key)
  by (inl other) = other.1 height width told ∙ was ∙ same_fits height width e (after_key d fault e key) other.0
  by (inr size) =
      subst (λ (k : Key). told_after height width told (Some k) ≡ fits height width (after_key d fault e k)) (sym size.2) refl

input_fits : (d : Data) (fault : Option StoreFault) (height width : ℕ) (told : Bool) (e : Editor) (key : Option Key) → told ≡ fits height width e
    → told_after height width told key ≡ fits height width (after_input d true fault e key)
input_fits d fault height width told e None was = was
input_fits d fault height width told e (Some key) was = key_fits d fault height width told e key was

-- ---- steps that change no window and tell nothing

abbrev pub Fits : World → Type 0
Fits w = w.told ≡ fits w.height w.width w.session.editor

-- the key of a byte, as it counts
abbrev key_at : World → ℕ → Option Key
key_at w b = counted_key w.session (press_of w b)

applied_fits : (d : Data) (fault : Option StoreFault) (old : World) (b : ℕ) (s : Session) (painted : Bool) (scroll : Scroll) → Fits old
    → s.editor ≡ painted_if painted d scroll (after_input d true fault old.session.editor (key_at old b)) → Fits (with_byte old b s)
applied_fits d fault old b s painted scroll was is =
    input_fits d fault old.height old.width old.told old.session.editor (key_at old b) was
    ∙ ap (λ (e : Editor). fits old.height old.width e) (sym is)

byte_fits : (d : Data) (fault : Option StoreFault) (old new : World) (b : ℕ) (answer : Result (Unit {0}) StepFault) → AfterByteStep d fault old b answer new
    → Fits old → Fits new
byte_fits d fault old new b (Ok done) is was =
    let pressed = byte_pressed d fault old new b (Ok done) is in
    subst Fits (sym is) (applied_fits d fault old b (after_press d fault old.session (press_of old b)) (is_painted_press old.session (press_of old b))
    (scroll_behind old.session.editor (key_at old b)) was (ap (λ (w : World). w.session.editor) (sym is) ∙ pressed.editor))
byte_fits d fault old new b (Err (faults.Session refused.Paint)) is was =
    let pressed = byte_pressed d fault old new b (Err (faults.Session refused.Paint)) is in
    subst Fits (sym is.0) (applied_fits d fault old b (owing_after_press d fault old.session (press_of old b)) false
    (scroll_behind old.session.editor (key_at old b)) was (ap (λ (w : World). w.session.editor) (sym is.0) ∙ pressed.editor))
byte_fits d fault old new b (Err (faults.Session refused.Edit)) is was = subst Fits (sym is.0) was
byte_fits d fault old new b (Err (faults.Session refused.Size)) is was = absurd is
byte_fits d fault old new b (Err (faults.Screen _)) is was = absurd is
byte_fits d fault old new b (Err faults.Line) is was = absurd is

send_fits : (old new : World) (count : ℕ) (answer : Result (Unit {0}) StepFault) → AfterSendStep old count answer new → Fits old → Fits new
send_fits old new count (Ok done) is was = subst Fits (sym is) was
send_fits old new count (Err faults.Line) is was = subst Fits (sym is) was
send_fits old new count (Err (faults.Session fault)) is was = absurd is
send_fits old new count (Err (faults.Screen fault)) is was = absurd is

read_fits : (old new : World) (count : ℕ) (answer : Result (Unit {0}) StepFault) → AfterReadStep old count answer new → Fits old → Fits new
read_fits old new count (Ok done) is was = subst Fits (sym is.1) was
read_fits old new count (Err (faults.Screen grid.OutOfMemory)) is was = subst Fits (sym is.1) was
read_fits old new count (Err (faults.Screen grid.SizeOutOfRange)) is was = absurd is
read_fits old new count (Err (faults.Session fault)) is was = absurd is
read_fits old new count (Err faults.Line) is was = absurd is

-- no step changes the window or tells a size
abbrev pub is_still : Step → Bool
is_still (Window height width) = false
is_still (Told height width) = false
is_still (Byte b) = true
is_still (Send count) = true
is_still (Read count) = true

step_fits : (d : Data) (old new : World) (store store' : StoreState) (step : Step) (answer : Result (Unit {0}) StepFault) → is_still step ≡ true
    → StepsTo d old store step answer new store' → Fits old → Fits new
step_fits d old new store store' (Byte b) answer still is was = byte_fits d is.0 old new b answer is.2 was
step_fits d old new store store' (Send count) answer still is was = send_fits old new count answer is.0 was
step_fits d old new store store' (Read count) answer still is was = read_fits old new count answer is.0 was
step_fits d old new store store' (Window height width) answer still is was = absurd (cc still)
step_fits d old new store store' (Told height width) answer still is was = absurd (cc still)

pub plays_fit : (d : Data) (old new : World) (store store' : StoreState) (all : Schedule) → AllByRecursion (λ s. is_still s.0 ≡ true) all
    → PlaysTo d old store all new store' → Fits old → Fits new
plays_fit d old new store store' [] still plays was = subst Fits (sym plays.0) was
plays_fit d old new store store' (s ∷ more) still plays was =
    plays_fit d plays.0 new plays.1 store' more still.1 plays.3 (step_fits d old plays.0 store plays.1 s.0 s.1 still.0 plays.2 was)
