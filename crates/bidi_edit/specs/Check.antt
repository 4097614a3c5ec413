-- What `--check` answers. `answers` says what a file system answers to a read of a path.
use Rattle.std.specs.Global.{Vec}
use Rattle.std.specs.Prelude.{◌≡◌, ℕ, List, Option, Result, Ok, Err}
use Rattle.std.specs.declared.io.ErrorKind.{ErrorKind}
use Rattle.bx_command.specs.shared.Files.{ReadsText}
use Rattle.bx_command.specs.declared.shared.files.FileFault.{FileFault}
use Rattle.bx_command.specs.Check.{Refuses}
use Rattle.bx_recovery.specs.Beginnings.{bytes_of}
use Rattle.bx_recovery.specs.Refusals.{IsText}
use Rattle.bidi_edit.specs.declared.fault.ProgramFault.{ProgramFault}
use Rattle.bidi_edit.specs.declared.fault.ProgramFault.TheVariants.{File, Text}

-- the answer to what was read of FILE: the fault of reading it; or that it is a text, or the first cause why it is none
abbrev pub Checks : Result (Option (Vec ℕ)) FileFault → Result (Unit {0}) ProgramFault → Type 0
Checks (Err fault) answer = answer ≡ Err (File fault)
Checks (Ok read) (Ok done) = IsText (bytes_of read)
Checks (Ok read) (Err (Text fault)) = Refuses (bytes_of read) fault
Checks (Ok read) (Err other) = ⊥

-- the file at this path was read, and the answer is about what was read
pub record IsChecked (answers : List ℕ → Option ℕ → Result (List ℕ) ErrorKind → Type 0) (path : List ℕ) (answer : Result (Unit {0}) ProgramFault) : Type 0 where
  pub read : Result (Option (Vec ℕ)) FileFault
  pub reads : ReadsText answers path read
  pub checks : Checks read answer
