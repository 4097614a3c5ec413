-- What is told to the host and to a reader: the notes on a journal, and faults.
use Rattle.std.specs.Prelude.{◌≡◌, ◌⊎◌, ◌++◌, ℕ, Bool, true, false, List, [], ◌∷◌, Option, Some, None, IfSome, codes, take}
use Rattle.std.specs.Fmt.{decimal}
use Rattle.std.specs.Io.KnownBytes.{Appends}
use Rattle.bx_command.specs.declared.check.TextFault.TheVariants as text
use Rattle.bx_command.specs.declared.journal.JournalNotes.{JournalNotes}
use Rattle.bx_command.specs.declared.shared.files.FileFault.TheVariants as file
use Rattle.bx_editor.specs.declared.opening.OpenError.TheVariants as opening
use Rattle.bidi_edit.specs.Ending.{frame}
use Rattle.bidi_edit.specs.declared.fault.ProgramFault.{ProgramFault}
use Rattle.bidi_edit.specs.declared.fault.ProgramFault.TheVariants as fault

-- for the host, frames with the letter j and a word; for a reader, lines
abbrev pub AreNotes : Bool → JournalNotes → Type 0
AreNotes true notes = (notes.lost.now ≡ frame 0x6A (codes "lost")) × (notes.kept.now ≡ frame 0x6A (codes "kept"))
AreNotes false notes =
    (notes.lost.now ≡ codes "bidi_edit: the journal could not be written" ++ 10 ∷ [])
    × (notes.kept.now ≡ codes "bidi_edit: the journal is kept again" ++ 10 ∷ [])

-- The word of a fault for the host, which may have a value after it. Of a line of Unicode's files that is refused, no clause says how it is told.
abbrev pub word_of_fault : ProgramFault → Option (List ℕ)
word_of_fault (fault.Tables error) = None
word_of_fault (fault.Text (text.NotUtf8 line)) = Some (codes "not-utf8 " ++ decimal line)
word_of_fault (fault.Text text.TooLong) = Some (codes "too-long")
word_of_fault (fault.Open (opening.NotUtf8 offset)) = Some (codes "not-utf8")
word_of_fault (fault.Open opening.TooLong) = Some (codes "too-long")
word_of_fault (fault.File (file.Unreadable path)) = Some (codes "unreadable")
word_of_fault fault.Untold = Some (codes "output")
word_of_fault fault.Unwritten = Some (codes "unwritten")
word_of_fault other = Some (codes "memory")

-- a frame with this text was written, of which at most 2,047 bytes count; or, without memory for it, the fault `memory`
abbrev pub IsTold : ℕ → Option (List ℕ) → Option (List ℕ) → Option (List ℕ) → Type 0
IsTold letter text old new = IfSome text (λ t. Appends old new (frame letter (take 2047 t)) ⊎ Appends old new (frame 0x66 (codes "memory")))
