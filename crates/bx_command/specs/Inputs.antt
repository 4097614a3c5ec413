-- The input files of a session, by its options. `answers` says what a file system answers to a read of a path.
use Rattle.std.specs.Global.{Vec}
use Rattle.std.specs.Prelude.{◌≡◌, ◌⊎◌, ℕ, Bool, true, false, List, [], Option, Some, None, Result, Ok, Err}
use Rattle.std.specs.Borrow.{Bor}
use Rattle.std.specs.declared.io.ErrorKind.{ErrorKind}
use Rattle.bx_command.specs.declared.files.Files.{Files}
use Rattle.bx_command.specs.declared.parsed.Options.{Options}
use Rattle.bx_command.specs.declared.shared.files.FileFault.{FileFault}
use Rattle.bx_command.specs.shared.Files.{IsFirstUnread, ReadsAll, ReadsFound, ReadsText, AreReadable}
use Rattle.bx_command.specs.shared.Reading.{AreRead, paths_in}

module _ (answers : List ℕ → Option ℕ → Result (List ℕ) ErrorKind → Type 0) where
  -- the text at the path of --text, which must be there, or at FILE
  abbrev pub TextAt : Option (Bor (List ℕ)) → List ℕ → Result (Option (Vec ℕ)) FileFault → Type 0
  TextAt (Some path) file (Ok None) = ⊥
  TextAt (Some path) file (Ok (Some bytes)) = ReadsFound answers path.now (Ok bytes)
  TextAt (Some path) file (Err fault) = ReadsFound answers path.now (Err fault)
  TextAt None file read = ReadsText answers file read

  -- the text that is opened: none with --new
  abbrev pub TextUnless : Bool → Option (Bor (List ℕ)) → List ℕ → Result (Option (Vec ℕ)) FileFault → Type 0
  TextUnless true path file read = read ≡ Ok None
  TextUnless false path file read = TextAt path file read

  abbrev pub OpensText : Options → Result (Option (Vec ℕ)) FileFault → Type 0
  OpensText options read = TextUnless options.is_new options.text options.file.now read

  -- the keys of the journal at the path of --replay; none without it
  abbrev pub KeysAt : Option (Bor (List ℕ)) → Result (Vec ℕ) FileFault → Type 0
  KeysAt (Some path) read = ReadsAll answers path.now read
  KeysAt None (Ok keys) = keys.items ≡ []
  KeysAt None (Err fault) = ⊥

  abbrev pub ReadsKeys : Options → Result (Vec ℕ) FileFault → Type 0
  ReadsKeys options read = KeysAt options.replay read

  -- the files that the options name
  pub record AreInputs (options : Options) (files : Files) : Type 0 where
    pub unicode : AreRead answers options.unicode files.unicode
    pub text : OpensText options (Ok files.text)
    pub keys : ReadsKeys options (Ok files.keys)

  -- the fault of the first file that cannot be read: Unicode's, the text, the journal
  abbrev pub IsFirstFault : Options → FileFault → Type 0
  IsFirstFault options fault =
      IsFirstUnread answers (paths_in options.unicode) fault
      ⊎ (AreReadable answers (paths_in options.unicode)
      × (OpensText options (Err fault)
      ⊎ (((text : Option (Vec ℕ)) × OpensText options (Ok text)) × ReadsKeys options (Err fault))))
