-- What a store that the host keeps says of its talk with the saver.
use Rattle.std.specs.Prelude.{◌≡◌, ◌≢◌, ◌⊎◌, ℕ, Option, Some, IfSome, IsSome}
use Rattle.bx_store.specs.declared.cause.SaveCause.{SaveCause}
use Rattle.bx_store.specs.declared.cause.SaveCause.TheVariants as cause
use Rattle.bx_store.specs.declared.saver.Answer.TheVariants.{Failed}
use Rattle.bx_store.specs.declared.store.StoreFault.{StoreFault}
use Rattle.bx_store.specs.Stores.{fault}
use Rattle.bx_store.specs.Talk.{Talk, answer_by}

-- the byte of each cause in the frame FAILED (enum cause of host/cause.h)
abbrev pub byte_of_cause : SaveCause → ℕ
byte_of_cause cause.NoSpace = 1
byte_of_cause cause.NotPermitted = 2
byte_of_cause cause.FolderGone = 3
byte_of_cause cause.ReadOnly = 4
byte_of_cause cause.TooLarge = 5
byte_of_cause cause.OutOfMemory = 6
byte_of_cause cause.Changed = 7
byte_of_cause cause.NotPlain = 8
byte_of_cause cause.CutOff = 9
byte_of_cause cause.Other = 10
byte_of_cause cause.Exists = 11

-- This is the cause of the byte: the byte is its own, or it is `Other` and the byte is no cause's.
abbrev pub IsCauseOf : ℕ → SaveCause → Type 0
IsCauseOf byte told = (byte ≡ byte_of_cause told) ⊎ (((c : SaveCause) → byte ≢ byte_of_cause c) × (told ≡ cause.Other))

-- the saver answered that it failed, with this byte
abbrev pub HasFailed : Option Talk → ℕ → Type 0
HasFailed talk byte = answer_by talk ≡ Some (Some (Failed byte))

-- a failed call tells the cause that the saver answered, if it answered one
abbrev pub HasCause : Option Talk → StoreFault → Type 0
HasCause talk failed = (byte : ℕ) → HasFailed talk byte → (told : SaveCause) × IsCauseOf byte told × (failed ≡ fault (Some told))

-- the last frames were answered, as far as that is known
abbrev pub IsAnswered : Option Talk → Type 0
IsAnswered talk = IfSome (answer_by talk) IsSome
