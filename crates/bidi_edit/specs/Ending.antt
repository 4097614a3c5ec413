-- How a run ended, in a word for the host. A run that tells `saved` has no unsaved changes (`outcome_of` of Run.antt).
use Rattle.std.specs.Prelude.{ℕ, ◌/◌, ◌%◌, List, [], ◌∷◌, length, Option, Some, None, Result, Ok, Err, codes}
use Rattle.bx_session.specs.declared.end.RunFault.TheVariants.{ReadFault, WriteFault, ReadLimit}
use Rattle.bidi_edit.specs.declared.edit.Changes.{Changes}
use Rattle.bidi_edit.specs.declared.edit.Changes.TheVariants as changes
use Rattle.bidi_edit.specs.declared.fault.ProgramFault.{ProgramFault}
use Rattle.bidi_edit.specs.declared.fault.ProgramFault.TheVariants as fault
use Rattle.bidi_edit.specs.declared.ending.Ending.{Ending}
use Rattle.bidi_edit.specs.declared.ending.Ending.TheVariants as ending

-- the word of an end
abbrev pub word_of : Ending → List ℕ
word_of ending.Saved = codes "saved"
word_of ending.Unsaved = codes "unsaved"
word_of ending.Dropped = codes "dropped"
word_of ending.Input = codes "input"
word_of ending.Output = codes "output"
word_of ending.Reads = codes "reads"

-- the end that a fault is, unless it came before the run
abbrev pub end_of_fault : ProgramFault → Option Ending
end_of_fault fault.Unsaved = Some ending.Unsaved
end_of_fault (fault.Run ReadFault) = Some ending.Input
end_of_fault (fault.Run WriteFault) = Some ending.Output
end_of_fault (fault.Run ReadLimit) = Some ending.Reads
end_of_fault before = None

-- the end of a run with this result
abbrev pub end_of : Result Changes ProgramFault → Option Ending
end_of (Ok changes.Saved) = Some ending.Saved
end_of (Ok changes.Dropped) = Some ending.Dropped
end_of (Err cause) = end_of_fault cause

-- a frame for the host: a letter, the number of its bytes in two bytes, the high one first, and the bytes
abbrev pub frame : ℕ → List ℕ → List ℕ
frame letter bytes = letter ∷ length bytes / 256 ∷ length bytes % 256 ∷ bytes

-- the last word: a frame with the letter e and the word of the end; nothing if a fault came before the run
abbrev pub last_word : Option Ending → List ℕ
last_word None = []
last_word (Some end) = frame 0x65 (word_of end)
