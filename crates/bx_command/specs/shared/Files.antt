-- Files that are read. `answers` says what a file system may answer to a read of a path: the bytes of the file, of which the first so
-- many are asked for, or all of them; or why it gives none.
use Rattle.std.specs.Global.{Vec}
use Rattle.std.specs.Prelude.{◌≡◌, ◌≢◌, ◌⊎◌, ⊤, ℕ, suc, List, [], ◌∷◌, Option, Some, None, Result, Ok, Err}
use Rattle.std.specs.declared.io.ErrorKind.{ErrorKind}
use Rattle.std.specs.declared.io.ErrorKind.TheVariants as kinds
use Rattle.bx_common.specs.Characters.{largest_text}
use Rattle.bx_command.specs.declared.shared.files.FileFault.{FileFault}
use Rattle.bx_command.specs.declared.shared.files.FileFault.TheVariants.{Unreadable, OutOfMemory}

-- the fault that a cause is at a path
abbrev pub IsFaultOf : List ℕ → ErrorKind → FileFault → Type 0
IsFaultOf path kind (Unreadable named) = (named.now ≡ path) × (kind ≢ kinds.OutOfMemory)
IsFaultOf path kind OutOfMemory = kind ≡ kinds.OutOfMemory

module _ (answers : List ℕ → Option ℕ → Result (List ℕ) ErrorKind → Type 0) where
  -- so many bytes of a text are asked for
  abbrev pub for_text : Option ℕ
  for_text = Some (suc largest_text)

  -- the bytes of the file at a path, of one that is longer than the largest text so many that this shows
  abbrev pub HasText : List ℕ → List ℕ → Type 0
  HasText path bytes = answers path for_text (Ok bytes)

  -- why the file at a path was not read, when so many bytes were asked for
  abbrev pub IsUnread : Option ℕ → List ℕ → FileFault → Type 0
  IsUnread most path fault = (kind : ErrorKind) × answers path most (Err kind) × IsFaultOf path kind fault

  -- The text at a path, None if nothing has the path.
  abbrev pub ReadsText : List ℕ → Result (Option (Vec ℕ)) FileFault → Type 0
  ReadsText path (Ok None) = answers path for_text (Err kinds.NotFound)
  ReadsText path (Ok (Some bytes)) = HasText path bytes.items
  ReadsText path (Err fault) = (kind : ErrorKind) × answers path for_text (Err kind) × (kind ≢ kinds.NotFound) × IsFaultOf path kind fault

  -- the text at a path that must be there
  abbrev pub ReadsFound : List ℕ → Result (Vec ℕ) FileFault → Type 0
  ReadsFound path (Ok bytes) = HasText path bytes.items
  ReadsFound path (Err fault) = IsUnread for_text path fault

  -- all bytes of the file at a path
  abbrev pub ReadsAll : List ℕ → Result (Vec ℕ) FileFault → Type 0
  ReadsAll path (Ok bytes) = answers path None (Ok bytes.items)
  ReadsAll path (Err fault) = IsUnread None path fault

  -- some bytes are read at each of these paths
  abbrev pub AreReadable : List (List ℕ) → Type 0
  AreReadable [] = ⊤
  AreReadable (path ∷ paths) = ((bytes : List ℕ) × answers path None (Ok bytes)) × AreReadable paths

  -- the fault is that of the first of these paths whose file cannot be read
  abbrev pub IsFirstUnread : List (List ℕ) → FileFault → Type 0
  IsFirstUnread [] fault = ⊥
  IsFirstUnread (path ∷ paths) fault = IsUnread None path fault ⊎ (((bytes : List ℕ) × answers path None (Ok bytes)) × IsFirstUnread paths fault)
