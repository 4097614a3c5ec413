-- The tables that are read from the bytes of Unicode's files. `d` is Unicode's data.
use Rattle.std.specs.Global.{Vec}
use Rattle.std.specs.Prelude.{◌≡◌, ℕ, Option, Some, None}
use Rattle.bx_ucd.specs.Reading.{JoiningTexts, NoMemoryAfter, refusal, class_in_file, bracket_in_file, mirror_in_file, form_if_any, joining_if_any}
use Rattle.bx_ucd.specs.Data.{Data}
use Rattle.bx_ucd.specs.declared.error.UcdError.{UcdError}
use Rattle.bx_ucd.specs.declared.joining.Form.{Form}
use Rattle.bx_command.specs.declared.shared.unicode.JoiningFiles.{JoiningFiles}
use Rattle.bx_command.specs.declared.shared.unicode.UnicodeFiles.{UnicodeFiles}

-- the texts of the two files by which letters are joined, if they are given
abbrev pub joining_texts : Option (JoiningFiles (Vec ℕ)) → Option JoiningTexts
joining_texts None = None
joining_texts (Some files) = Some (files.joining.items, files.characters.items)

-- the first refused line of Unicode's files, with its file, its number and what is wrong with it
abbrev pub refused_line : UnicodeFiles (Vec ℕ) → Option UcdError
refused_line files = refusal files.classes.items files.brackets.items files.mirroring.items (joining_texts files.joining)

-- memory ran out while one of Unicode's files was read, and no line of the files before it is refused
abbrev pub NoMemoryInTables : UnicodeFiles (Vec ℕ) → UcdError → Type 0
NoMemoryInTables files error =
    NoMemoryAfter files.classes.items files.brackets.items files.mirroring.items (joining_texts files.joining) error

-- the tables say of each character, by its code, what Unicode's files say; the files have no bad line
pub record AreOfFiles (d : Data) (files : UnicodeFiles (Vec ℕ)) : Type 0 where
  pub accepted : refused_line files ≡ None
  pub classes_are : (code : ℕ) → d.class code ≡ class_in_file files.classes.items code
  pub brackets_are : (code : ℕ) → d.bracket code ≡ bracket_in_file files.brackets.items code
  pub mirrors_are : (code : ℕ) → d.mirror code ≡ mirror_in_file files.mirroring.items code
  pub joining_is : (code : ℕ) → d.joining code ≡ joining_if_any (joining_texts files.joining) (class_in_file files.classes.items code) code
  pub forms_are : (code : ℕ) (form : Form) → d.form code form ≡ form_if_any (joining_texts files.joining) code form
