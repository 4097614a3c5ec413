-- The faults that end the program with status 1: which of them a recovery's fault becomes, and which causes they tell.
use Rattle.std.specs.Prelude.{⊤}
use Rattle.bx_recovery.specs.declared.beginning.Beginning.{Beginning}
use Rattle.bx_recovery.specs.declared.fault.RecoveryFault.{RecoveryFault}
use Rattle.bx_recovery.specs.declared.fault.RecoveryFault.TheVariants as recovery
use Rattle.bx_recovery.specs.Refusals.{CanOpen, IsFirstCause}
use Rattle.bidi_edit.specs.declared.fault.ProgramFault.{ProgramFault}
use Rattle.bidi_edit.specs.declared.fault.ProgramFault.TheVariants as program

-- a fault of opening or recovering a session, as the program's
abbrev pub fault_of_recovery : RecoveryFault → ProgramFault
fault_of_recovery (recovery.Tables error) = program.Tables error
fault_of_recovery (recovery.Open error) = program.Open error
fault_of_recovery recovery.Unwritten = program.Unwritten
fault_of_recovery recovery.OutOfMemory = program.OutOfMemory

-- a fault that comes once a session is opened: memory ran out while the journal was replayed or the picture was painted, or the fault
-- is the end of the run
abbrev pub IsLaterFault : ProgramFault → Type 0
IsLaterFault program.OutOfMemory = ⊤
IsLaterFault (program.Run cause) = ⊤
IsLaterFault program.Unsaved = ⊤
IsLaterFault other = ⊥

-- The fault tells the first cause: Unicode's files, then the text's length, its UTF-8, the window's size, then a want of memory
-- (`IsFirstCause`). A later fault comes only if Unicode's files and the text were accepted.
abbrev pub IsFirstFault : Beginning → ProgramFault → Type 0
IsFirstFault b (program.Tables error) = IsFirstCause b (recovery.Tables error)
IsFirstFault b (program.Open error) = IsFirstCause b (recovery.Open error)
IsFirstFault b later = CanOpen b × IsLaterFault later
