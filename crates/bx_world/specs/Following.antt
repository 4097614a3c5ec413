-- What a schedule makes of any world. `d` is Unicode's data.
use Rattle.std.specs.Prelude.{◌≡◌, ◌+◌, ◌<◌, List, [], Result}
use Rattle.bx_keys.specs.Waiting.{keys_from}
use Rattle.bx_store.specs.Faults.{greatest}
use Rattle.bx_ucd.specs.Data.{Data}
use Rattle.bx_session.specs.Session.{StoreState}
use Rattle.bx_world.specs.declared.step.Step.{Step}
use Rattle.bx_world.specs.declared.step.StepFault.{StepFault}
use Rattle.bx_world.specs.World.{World}
use Rattle.bx_world.specs.Events.{Event, AreEventsFrom, input_of, keys_of, HasBytesUntilEnd, HasKeysOfAll, after_events, stored_after_all}
use Rattle.bx_world.specs.Events.{failed_saves}

-- the effect of a schedule's events on a world
pub record Follows {A : Type 0} (d : Data) (old : World) (store : StoreState) (schedule : List (Step × Result A StepFault)) (new : World)
    (store' : StoreState) (events : List Event) : Type 0 where
  pub events_are : AreEventsFrom d old.session.painting_owed old.session.editor schedule events
  pub input : HasBytesUntilEnd schedule events new.session.editor
  -- the keys of the input after the bytes of an unfinished key; without such bytes, the keys of the input as a whole
  pub keys : keys_of events ≡ keys_from old.rest (input_of events)
  pub as_whole : old.rest ≡ [] → HasKeysOfAll [] events
  pub editor : new.session.editor ≡ after_events d old.session.editor events
  pub stored : store' ≡ stored_after_all d old.session.editor store events
  -- the store counts each failed save, up to the largest u64
  pub failures : store'.faults.count < greatest → store'.faults.count ≡ store.faults.count + failed_saves d old.session.editor events
