-- The bytes that the terminal reads in a schedule, and when a picture that is queued is seen, also in the middle of a schedule. `w`
-- is the world before a step.
use Rattle.std.specs.Prelude.{◌≡◌, ℕ, Bool, true, false, ◌||◌, List, [], ◌∷◌, ◌++◌, length, take, Result, IfSome}
use Rattle.bx_grid.specs.Picture.{Shows}
use Rattle.bx_ucd.specs.Data.{Data}
use Rattle.bx_session.specs.Session.{StoreState}
use Rattle.bx_world.specs.declared.step.Step.{Step}
use Rattle.bx_world.specs.declared.step.Step.TheVariants.{Byte, Window, Told, Send, Read}
use Rattle.bx_world.specs.declared.step.StepFault.{StepFault}
use Rattle.bx_world.specs.World.{World, StepsTo, is_ok}
use Rattle.bx_world.specs.Showing.{unread, picture_of}

-- the bytes that the terminal reads in a step
abbrev pub read_at : World → Step → List ℕ
read_at w (Read count) = take count w.line
read_at w (Byte b) = []
read_at w (Told height width) = []
read_at w (Window height width) = []
read_at w (Send count) = []

-- a sequence of steps with their answers, in which the terminal reads these bytes
abbrev pub PlaysReading : {A : Type 0} → Data → World → StoreState → List (Step × Result A StepFault) → World → StoreState → List ℕ → Type 0
PlaysReading d old store [] new store' read = (new ≡ old) × (store' ≡ store) × (read ≡ [])
PlaysReading d old store (s ∷ more) new store' read =
    (mid : World) × (mid_store : StoreState) × (others : List ℕ) × StepsTo d old store s.0 s.1 mid mid_store × (read ≡ read_at old s.0 ++ others)
    × PlaysReading d mid mid_store more new store' others

-- whether a step resized the window
abbrev pub is_change : {A : Type 0} → Step → Result A StepFault → Bool
is_change (Window height width) answer = is_ok answer
is_change (Byte b) answer = false
is_change (Told height width) answer = false
is_change (Send count) answer = false
is_change (Read count) answer = false

-- whether a step of a schedule resized the window
abbrev pub is_window_changed : {A : Type 0} → List (Step × Result A StepFault) → Bool
is_window_changed [] = false
is_window_changed (s ∷ more) = is_change s.0 s.1 || is_window_changed more

-- A promised picture is seen once its last byte is read, whatever is queued after it: if the session had been told the
-- window's last size and no painting was owed, the window has not been resized since, and the terminal has read as many
-- bytes as were unread then, it shows the picture of that moment.
abbrev pub SeesPromised : {A : Type 0} → Data → World → List (Step × Result A StepFault) → List ℕ → World → Type 0
SeesPromised d old schedule read new =
    old.told ≡ true → old.session.painting_owed ≡ false → is_window_changed schedule ≡ false → length read ≡ length (unread old)
    → IfSome new.screen (λ t. Shows t (picture_of d old.session))
