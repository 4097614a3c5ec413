-- The law of the bytes that the session reads: its decoder gives exactly the machine's keys. `fs` are frames, `m` is the machine's state.
use Rattle.std.specs.Prelude.{◌≡◌, Bool, List, [], ◌∷◌, ◌++◌, flat_map, option_to_list}
use Rattle.std.specs.List.{AllByRecursion}
use Rattle.bx_keys.specs.Keys.{decoding}
use Rattle.bx_keys.specs.Waiting.{IsWaiting}
use Rattle.bx_keys.specs.declared.key.Key.{Key}
use Rattle.bx_input.specs.Frames.{Frame}
use Rattle.bx_input.specs.KeyBytes.{key_bytes}
use Rattle.bx_input.specs.Machine.{Event, End, Machine, after, after_all, begun, events_of}
use Rattle.bx_input_laws.specs.Hearing.{after_frames}

-- the bytes of the key are decoded as the key, and nothing waits behind them
abbrev pub IsRead : Key → Type 0
IsRead key = decoding (key_bytes key) ≡ record { keys = key ∷ []; rest = [] }

-- those of each of these keys are
abbrev pub AreRead : List Key → Type 0
AreRead keys = AllByRecursion IsRead keys

-- what waits in a machine begins an item, and the notice that waits is a key whose bytes are decoded as it
pub record IsReady (m : Machine) : Type 0 where
  pub waits : IsWaiting m.rest
  pub notice : AreRead (option_to_list m.notice)

-- each key that a machine gives is decoded from its bytes
pub record KeysAreRead : Type 0 where
  pub begins : (erases_by_delete : Bool) → IsReady (begun erases_by_delete)
  pub goes_on : (e : Event) (m : Machine) → IsReady m → IsReady (after e m).machine
  pub are : (e : Event) (m : Machine) → IsReady m → AreRead (after e m).keys

-- the events of frames, and the input's end
abbrev pub all_events : List Frame → List Event
all_events fs = flat_map events_of fs ++ End ∷ []

-- what the session decodes of the translation of any frames are the machine's keys of their events
abbrev pub FramesAreRead : Type 0
FramesAreRead = (erases_by_delete : Bool) (fs : List Frame)
    → decoding (after_frames fs (begun erases_by_delete)) ≡ record { keys = (after_all (all_events fs) (begun erases_by_delete)).keys; rest = [] }
