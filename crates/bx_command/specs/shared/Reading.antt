-- Unicode's files that are read. `answers` says what a file system answers to a read of a path.
use Rattle.std.specs.Global.{Vec}
use Rattle.std.specs.Prelude.{⊤, ℕ, List, [], ◌∷◌, Option, Some, None, Result, Ok}
use Rattle.std.specs.Borrow.{Bor}
use Rattle.std.specs.declared.io.ErrorKind.{ErrorKind}
use Rattle.bx_command.specs.declared.shared.unicode.JoiningFiles.{JoiningFiles}
use Rattle.bx_command.specs.declared.shared.unicode.UnicodeFiles.{UnicodeFiles}

-- the paths of Unicode's files, in the order in which they are read
abbrev pub joining_paths_in : JoiningFiles (Bor (List ℕ)) → List (List ℕ)
joining_paths_in paths = paths.joining.now ∷ paths.characters.now ∷ []

abbrev pub paths_if_any : Option (JoiningFiles (Bor (List ℕ))) → List (List ℕ)
paths_if_any None = []
paths_if_any (Some paths) = joining_paths_in paths

abbrev pub paths_in : UnicodeFiles (Bor (List ℕ)) → List (List ℕ)
paths_in paths = paths.classes.now ∷ paths.brackets.now ∷ paths.mirroring.now ∷ paths_if_any paths.joining

module _ (answers : List ℕ → Option ℕ → Result (List ℕ) ErrorKind → Type 0) where
  pub record AreJoiningRead (paths : JoiningFiles (Bor (List ℕ))) (files : JoiningFiles (Vec ℕ)) : Type 0 where
    pub joining : answers paths.joining.now None (Ok files.joining.items)
    pub characters : answers paths.characters.now None (Ok files.characters.items)

  abbrev pub AreReadIfAny : Option (JoiningFiles (Bor (List ℕ))) → Option (JoiningFiles (Vec ℕ)) → Type 0
  AreReadIfAny None None = ⊤
  AreReadIfAny (Some paths) (Some files) = AreJoiningRead paths files
  AreReadIfAny _ _ = ⊥

  -- each file has the bytes at its path
  pub record AreRead (paths : UnicodeFiles (Bor (List ℕ))) (files : UnicodeFiles (Vec ℕ)) : Type 0 where
    pub classes : answers paths.classes.now None (Ok files.classes.items)
    pub brackets : answers paths.brackets.now None (Ok files.brackets.items)
    pub mirroring : answers paths.mirroring.now None (Ok files.mirroring.items)
    pub joining : AreReadIfAny paths.joining files.joining
