-- A device in memory, whose log has all calls of it.
use Rattle.std.specs.Prelude.{◌≡◌, ℕ, List, [], ◌∷◌, ◌++◌, Option, Some, None, Result, Ok, Err, IfSome}
use Rattle.bx_store.specs.Stores.{MemoryState}
use Rattle.bx_session.specs.declared.action.Action.{Action}
use Rattle.bx_session.specs.declared.action.Action.TheVariants.{Read}
use Rattle.bx_session.specs.Log.{read_by}
use Rattle.bx_session.specs.Session.{StoreState}

-- the value of a `MemoryDevice`
pub record DeviceState : Type 0 where
  -- the bytes that no read gave yet
  pub input : List ℕ
  -- the calls of the device, in order; None once memory ran out for the log
  pub log : Option (List Action)
  pub store : MemoryState

-- what the device's store has
abbrev pub stored_in : DeviceState → StoreState
stored_in device = record { contents = Some device.store.contents; faults = device.store.faults }

-- the log after these actions; None if memory ran out, before or now
abbrev pub Logs : Option (List Action) → List Action → Option (List Action) → Type 0
Logs old actions new = IfSome new (λ after. (before : List Action) × (old ≡ Some before) × (after ≡ before ++ actions))

-- the log after an action: with the action if there was memory for its bytes, else None
abbrev pub DidLog : {E : Type 0} → Option (List Action) → Result Action E → Option (List Action) → Type 0
DidLog old (Ok action) new = Logs old (action ∷ []) new
DidLog old (Err fault) new = new ≡ None

-- what one call does to the device; a read of no bytes comes only at the end of the input
pub record DidInMemory (old : DeviceState) (action : Action) (new : DeviceState) : Type 0 where
  pub input : old.input ≡ read_by action ++ new.input
  pub log : Logs old.log (action ∷ []) new.log
  pub store : new.store ≡ old.store
  pub end : action ≡ Read [] → new.input ≡ []

-- the obeying of a press changes nothing but the store
pub record ObeyedInMemory (old new : DeviceState) : Type 0 where
  pub input : new.input ≡ old.input
  pub log : new.log ≡ old.log
