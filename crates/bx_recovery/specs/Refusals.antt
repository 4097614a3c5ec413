-- Why a session is not opened or recovered: the first cause, in the order of the checks. Unicode's files come first, then the
-- text's length, its bytes, and the window. Memory can run out at each step, which tells that all before it was accepted. `b` is
-- what a session starts from.
use Rattle.std.specs.Prelude.{◌≡◌, ◌≤◌, ◌⊎◌, ℕ, List, None, Some, IsUtf8, length}
use Rattle.bx_common.specs.Characters.{largest_text}
use Rattle.bx_command.specs.shared.Tables.{NoMemoryInTables, refused_line}
use Rattle.bx_store.specs.Faults.{with_fault}
use Rattle.bx_store.specs.declared.faults.Faults.{Faults}
use Rattle.bx_store.specs.declared.store.StoreFault.{StoreFault}
use Rattle.bx_editor.specs.Editor.{Causes}
use Rattle.bx_recovery.specs.Beginnings.{bytes_of}
use Rattle.bx_recovery.specs.declared.beginning.Beginning.{Beginning}
use Rattle.bx_recovery.specs.declared.fault.RecoveryFault.{RecoveryFault}
use Rattle.bx_recovery.specs.declared.fault.RecoveryFault.TheVariants.{Tables, Open, Unwritten, OutOfMemory}

-- a file of these bytes can be opened as a text
pub record IsText (bytes : List ℕ) : Type 0 where
  pub short : length bytes ≤ largest_text
  pub utf8 : IsUtf8 bytes

-- nothing but a want of memory can be in the way: Unicode's files have no refused line, and the file is a text
pub record CanOpen (b : Beginning) : Type 0 where
  pub accepted : refused_line b.unicode.now ≡ None
  pub text : IsText (bytes_of b.text)

-- the fault tells the first cause why the session is not opened
abbrev pub IsFirstCause : Beginning → RecoveryFault → Type 0
IsFirstCause b (Tables error) = (refused_line b.unicode.now ≡ Some error) ⊎ NoMemoryInTables b.unicode.now error
IsFirstCause b (Open error) = (refused_line b.unicode.now ≡ None) × Causes (bytes_of b.text) b.rows b.cols error
IsFirstCause b OutOfMemory = CanOpen b
IsFirstCause b Unwritten = ⊥

-- one call more of a store has failed
abbrev pub HasFailed : Faults → Faults → Type 0
HasFailed faults faults' = (fault : StoreFault) × (faults' ≡ with_fault fault faults)

-- The fault tells the first cause why no text is recovered from an opened session. `faults` are the failed calls of the store
-- before, `faults'` those after.
abbrev pub IsLaterCause : Faults → Faults → RecoveryFault → Type 0
IsLaterCause faults faults' OutOfMemory = faults' ≡ faults
IsLaterCause faults faults' Unwritten = HasFailed faults faults'
IsLaterCause faults faults' before = ⊥

-- the fault tells the first cause why no text is recovered: the session is not opened, or the text is not written
abbrev pub IsRecoveryCause : Beginning → Faults → Faults → RecoveryFault → Type 0
IsRecoveryCause b faults faults' Unwritten = CanOpen b × HasFailed faults faults'
IsRecoveryCause b faults faults' before = IsFirstCause b before × (faults' ≡ faults)
