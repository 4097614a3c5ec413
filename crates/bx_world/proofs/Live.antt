-- The terminal is there as long as it has memory.
use Rattle.std.proofs.Common.{◌≡◌, true, List, [], ◌∷◌, Option, Result, Ok, Err, sym, ap, subst}
use Rattle.std.specs.Prelude.{IsSome, option_map}
use Rattle.bx_grid.specs.declared.error.GridError.TheVariants as grid
use Rattle.bx_grid.specs.Terminal.{Terminal}
use Rattle.bx_ucd.specs.Data.{Data}
use Rattle.bx_session.specs.declared.status.Refused.TheVariants as refused
use Rattle.bx_session.specs.Session.{StoreState}
use Rattle.bx_world.specs.declared.step.Step.{Step}
use Rattle.bx_world.specs.declared.step.Step.TheVariants.{Byte, Window, Told, Send, Read}
use Rattle.bx_world.specs.declared.step.StepFault.{StepFault}
use Rattle.bx_world.specs.declared.step.StepFault.TheVariants as faults
use Rattle.bx_world.specs.World.{World, StepsTo, PlaysTo, HasMemory, has_memory}
use Rattle.bx_world.proofs.Woven.{live_map}

-- a step that left the screen as it was
same_screen : (old new : World) → new.screen ≡ old.screen → IsSome old.screen → IsSome new.screen
same_screen old new is live = subst (λ (x : Option Terminal). IsSome x) (sym is) live

changed_screen : (old new : World) (f : Terminal → Terminal) → new.screen ≡ option_map f old.screen → IsSome old.screen → IsSome new.screen
changed_screen old new f is live = subst (λ (x : Option Terminal). IsSome x) (sym is) (live_map old.screen f live)

step_live : (d : Data) (old new : World) (store store' : StoreState) (step : Step) (answer : Result (Unit {0}) StepFault)
    → has_memory answer ≡ true → StepsTo d old store step answer new store' → IsSome old.screen → IsSome new.screen
step_live d old new store store' (Byte b) (Ok done) memory is live = same_screen old new (ap (λ (w : World). w.screen) is.2) live
step_live d old new store store' (Byte b) (Err (faults.Session refused.Paint)) memory is live =
    same_screen old new (ap (λ (w : World). w.screen) is.2.0) live
step_live d old new store store' (Byte b) (Err (faults.Session refused.Edit)) memory is live =
    same_screen old new (ap (λ (w : World). w.screen) is.2.0) live
step_live d old new store store' (Byte b) (Err (faults.Session refused.Size)) memory is live = absurd is.2
step_live d old new store store' (Byte b) (Err (faults.Screen fault)) memory is live = absurd is.2
step_live d old new store store' (Byte b) (Err faults.Line) memory is live = absurd is.2
step_live d old new store store' (Told height width) (Ok done) memory is live = same_screen old new (ap (λ (w : World). w.screen) is.0.1) live
step_live d old new store store' (Told height width) (Err (faults.Session refused.Paint)) memory is live =
    same_screen old new (ap (λ (w : World). w.screen) is.0.1) live
step_live d old new store store' (Told height width) (Err (faults.Session refused.Size)) memory is live =
    same_screen old new (ap (λ (w : World). w.screen) is.0.1) live
step_live d old new store store' (Told height width) (Err (faults.Session refused.Edit)) memory is live = absurd is.0
step_live d old new store store' (Told height width) (Err (faults.Screen fault)) memory is live = absurd is.0
step_live d old new store store' (Told height width) (Err faults.Line) memory is live = absurd is.0
step_live d old new store store' (Window height width) (Ok done) memory is live = changed_screen old new _ (ap (λ (w : World). w.screen) is.0.2) live
step_live d old new store store' (Window height width) (Err (faults.Screen grid.SizeOutOfRange)) memory is live =
    same_screen old new (ap (λ (w : World). w.screen) is.0.2) live
step_live d old new store store' (Window height width) (Err (faults.Screen grid.OutOfMemory)) memory is live = absurd (cc memory)
step_live d old new store store' (Window height width) (Err (faults.Session fault)) memory is live = absurd is.0
step_live d old new store store' (Window height width) (Err faults.Line) memory is live = absurd is.0
step_live d old new store store' (Send count) (Ok done) memory is live = same_screen old new (ap (λ (w : World). w.screen) is.0) live
step_live d old new store store' (Send count) (Err faults.Line) memory is live = same_screen old new (ap (λ (w : World). w.screen) is.0) live
step_live d old new store store' (Send count) (Err (faults.Session fault)) memory is live = absurd is.0
step_live d old new store store' (Send count) (Err (faults.Screen fault)) memory is live = absurd is.0
step_live d old new store store' (Read count) (Ok done) memory is live = changed_screen old new _ (ap (λ (w : World). w.screen) is.0.1) live
step_live d old new store store' (Read count) (Err (faults.Screen grid.OutOfMemory)) memory is live = absurd (cc memory)
step_live d old new store store' (Read count) (Err (faults.Screen grid.SizeOutOfRange)) memory is live = absurd is.0
step_live d old new store store' (Read count) (Err (faults.Session fault)) memory is live = absurd is.0
step_live d old new store store' (Read count) (Err faults.Line) memory is live = absurd is.0

pub plays_live : (d : Data) (old new : World) (store store' : StoreState) (all : List (Step × Result (Unit {0}) StepFault)) → HasMemory all
    → PlaysTo d old store all new store' → IsSome old.screen → IsSome new.screen
plays_live d old new store store' [] memory plays live = same_screen old new (ap (λ (w : World). w.screen) plays.0) live
plays_live d old new store store' (s ∷ more) memory plays live =
    plays_live d plays.0 new plays.1 store' more memory.1 plays.3 (step_live d old plays.0 store plays.1 s.0 s.1 memory.0 plays.2 live)
