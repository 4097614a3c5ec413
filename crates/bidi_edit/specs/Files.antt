-- The files of a run. `answers` says what a file system answers to a read of a path.
use Rattle.std.specs.Global.{Vec}
use Rattle.std.specs.Prelude.{◌≡◌, ℕ, Bool, true, false, List, [], Option, Some, None, Result, Ok, Err}
use Rattle.std.specs.Borrow.{Bor}
use Rattle.std.specs.declared.io.ErrorKind.{ErrorKind}
use Rattle.bx_command.specs.shared.Files.{ReadsText}
use Rattle.bx_command.specs.declared.parsed.Options.{Options}
use Rattle.bx_command.specs.declared.shared.files.FileFault.{FileFault}
use Rattle.bx_recovery.specs.Beginnings.{bytes_of}

module _ (answers : List ℕ → Option ℕ → Result (List ℕ) ErrorKind → Type 0) where
  -- the bytes at a path, none if there is no path or nothing has it
  abbrev pub HeldAt : Option (Bor (List ℕ)) → Result (Vec ℕ) FileFault → Type 0
  HeldAt None (Ok bytes) = bytes.items ≡ []
  HeldAt None (Err fault) = ⊥
  HeldAt (Some path) (Ok bytes) = (read : Option (Vec ℕ)) × ReadsText answers path.now (Ok read) × (bytes.items ≡ bytes_of read)
  HeldAt (Some path) (Err fault) = ReadsText answers path.now (Err fault)

  -- with a host, --against names what FILE holds
  abbrev pub HeldIf : Bool → Option (Bor (List ℕ)) → Bor (List ℕ) → Result (Vec ℕ) FileFault → Type 0
  HeldIf true against file held = HeldAt against held
  HeldIf false against file held = HeldAt (Some file) held

  -- what FILE holds
  abbrev pub IsHeld : Options → Result (Vec ℕ) FileFault → Type 0
  IsHeld options held = HeldIf options.frames options.against options.file held
