-- The first file that cannot be read, where those before it were.
use Rattle.std.proofs.Common.{◌≡◌, inl, inr, ℕ, List, Option, Some, None, Result, Ok, Err, IfErr, IsErrAnd, subst, sym}
use Rattle.std.specs.Global.{Vec}
use Rattle.std.specs.Borrow.{Bor}
use Rattle.std.specs.declared.io.ErrorKind.{ErrorKind}
use Rattle.bx_command.specs.Inputs.{IsFirstFault, OpensText, ReadsKeys}
use Rattle.bx_command.specs.declared.parsed.Options.{Options}
use Rattle.bx_command.specs.declared.shared.files.FileFault.{FileFault}
use Rattle.bx_command.specs.declared.shared.unicode.JoiningFiles.{JoiningFiles}
use Rattle.bx_command.specs.declared.shared.unicode.UnicodeFiles.{UnicodeFiles}
use Rattle.bx_command.specs.shared.Files.{AreReadable}
use Rattle.bx_command.specs.shared.Reading.{AreRead, AreReadIfAny, paths_if_any, paths_in}

joining_readable : (answers : List ℕ → Option ℕ → Result (List ℕ) ErrorKind → Type 0) (paths : Option (JoiningFiles (Bor (List ℕ)))) (files : Option (JoiningFiles (Vec ℕ)))
    → AreReadIfAny answers paths files → AreReadable answers (paths_if_any paths)
joining_readable answers None None read = tt
joining_readable answers None (Some files) read = absurd read
joining_readable answers (Some paths) None read = absurd read
joining_readable answers (Some paths) (Some files) read = ((files.joining.items, read.joining), ((files.characters.items, read.characters), tt))

readable : (answers : List ℕ → Option ℕ → Result (List ℕ) ErrorKind → Type 0) (paths : UnicodeFiles (Bor (List ℕ))) (files : UnicodeFiles (Vec ℕ))
    → AreRead answers paths files → AreReadable answers (paths_in paths)
readable answers paths files read =
    ((files.classes.items, read.classes), ((files.brackets.items, read.brackets), ((files.mirroring.items, read.mirroring), joining_readable answers paths.joining files.joining read.joining)))

-- Unicode's files are read, and the text is not
pub text_unread : (answers : List ℕ → Option ℕ → Result (List ℕ) ErrorKind → Type 0) (options : Options) (unicode : UnicodeFiles (Vec ℕ)) (fault : FileFault)
    → AreRead answers options.unicode unicode → OpensText answers options (Err fault) → IsFirstFault answers options fault
text_unread answers options unicode fault read unread = inr (readable answers options.unicode unicode read, inl unread)

-- the text is read, and the journal is not
pub keys_unread : (answers : List ℕ → Option ℕ → Result (List ℕ) ErrorKind → Type 0) (options : Options) (unicode : UnicodeFiles (Vec ℕ)) (text : Option (Vec ℕ)) (fault : FileFault)
    → AreRead answers options.unicode unicode → OpensText answers options (Ok text) → ReadsKeys answers options (Err fault) → IsFirstFault answers options fault
keys_unread answers options unicode text fault read opened unread = inr (readable answers options.unicode unicode read, inr ((text, opened), unread))

-- what holds of the fault that `?` returns
pub on_first : {T : Type 0} (P : FileFault → Type 0) (r : Result T FileFault) (fault : FileFault) → IsErrAnd r (λ e. e ≡ fault) → P fault → IfErr r P
on_first P (Ok x) fault is p = absurd is
on_first P (Err e) fault is p = subst P (sym is) p
