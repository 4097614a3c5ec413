-- What is printed: the page of a text, by tables that agree with Unicode's files. `old` and `new` are the bytes that the writer holds before and
-- after, as far as they are known.
use Rattle.std.specs.Global.{Vec}
use Rattle.std.specs.Prelude.{◌≡◌, ◌≤◌, ◌<◌, ◌⊎◌, ℕ, List, Option, Some, None, Result, IsUtf8, length}
use Rattle.std.specs.Io.KnownBytes.{Appends}
use Rattle.std.specs.Str.{IsValidUpTo}
use Rattle.std.specs.declared.io.ErrorKind.{ErrorKind}
use Rattle.bx_common.specs.Characters.{largest_text}
use Rattle.bx_ucd.specs.Data.{Data}
use Rattle.bx_command.specs.declared.shared.unicode.UnicodeFiles.{UnicodeFiles}
use Rattle.bx_command.specs.shared.Files.{HasText}
use Rattle.bx_command.specs.shared.Reading.{AreRead}
use Rattle.bx_command.specs.shared.Tables.{AreOfFiles, NoMemoryInTables, refused_line}
use Rattle.bx_print.specs.Page.{page}
use Rattle.bx_print.specs.declared.error.PrintError.TheVariants as printing
use Rattle.bx_print.specs.declared.style.Style.{Style}
use Rattle.bidi_print.specs.declared.fault.ProgramFault.{ProgramFault}
use Rattle.bidi_print.specs.declared.fault.ProgramFault.TheVariants as fault
use Rattle.bidi_print.specs.declared.words.Options.{Options}

-- the page of these bytes was written, in this style
pub record IsPage (style : Style) (files : UnicodeFiles (Vec ℕ)) (bytes : List ℕ) (old new : Option (List ℕ)) : Type 0 where
  pub tables : Data
  pub answers : AreOfFiles tables files
  pub appends : Appends old new (page tables style.placeholders style.base style.columns bytes)

-- nothing in the files is in the way
pub record CanPrint (files : UnicodeFiles (Vec ℕ)) (bytes : List ℕ) : Type 0 where
  pub accepted : refused_line files ≡ None
  pub short : length bytes ≤ largest_text
  pub utf8 : IsUtf8 bytes

-- the fault tells the first cause: Unicode's files, the text's length, its UTF-8, and then the writer or a want of memory
abbrev pub IsFirstFault : UnicodeFiles (Vec ℕ) → List ℕ → ProgramFault → Type 0
IsFirstFault files bytes (fault.Tables error) = (refused_line files ≡ Some error) ⊎ NoMemoryInTables files error
IsFirstFault files bytes (fault.Print printing.TooLong) = (refused_line files ≡ None) × (largest_text < length bytes)
IsFirstFault files bytes (fault.NotUtf8 offset) = (refused_line files ≡ None) × (length bytes ≤ largest_text) × IsValidUpTo bytes offset
IsFirstFault files bytes (fault.Print printing.WriteFault) = CanPrint files bytes
IsFirstFault files bytes (fault.Print printing.OutOfMemory) = CanPrint files bytes
IsFirstFault files bytes fault.OutOfMemory = CanPrint files bytes
IsFirstFault files bytes (fault.File error) = ⊥

-- FILE was read, and its page was written. `answers` says what a file system answers to a read of a path.
pub record IsPrinted (answers : List ℕ → Option ℕ → Result (List ℕ) ErrorKind → Type 0) (options : Options) (old new : Option (List ℕ)) : Type 0 where
  pub unicode : UnicodeFiles (Vec ℕ)
  pub bytes : List ℕ
  pub read : AreRead answers options.unicode unicode
  pub text : HasText answers options.file.now bytes
  pub printed : IsPage options.style unicode bytes old new
