-- The editor's options, by the words of its command line.
use Rattle.std.specs.Prelude.{◌≡◌, ◌≤◌, ℕ, Bool, false, List, length, Option, Some, None, IfSome, option_map, map, codes}
use Rattle.std.specs.Char.{to_ascii_lowercase}
use Rattle.std.specs.Borrow.{Bor}
use Rattle.std.specs.Str.{bytes_eq, chars}
use Rattle.std.specs.Str.Parse.{IsNumeral, digits_value, without_leading_plus}
use Rattle.clap.specs.Words.{Row, Text, matches_of}
use Rattle.bx_common.specs.Directions.{word_of}
use Rattle.bx_command.specs.shared.Arguments.{ArePathsIn, IsSideIn, is_given, value_in}
use Rattle.bx_command.specs.shared.Rules.{DirectionWords}
use Rattle.bx_command.specs.Command.{editor_app}
use Rattle.bx_command.specs.declared.parsed.Options.{Options}

-- the text of an option that may be missing
abbrev pub text_in : Option (Bor (List ℕ)) → Option (List ℕ)
text_in text = option_map (λ t. t.now) text

-- the line that the value of --line says, a decimal number, maybe after a plus; none without --line
abbrev pub IsLine : Option Text → Option ℕ → Type 0
IsLine None line = line ≡ None
IsLine (Some text) line = IsNumeral 10 (without_leading_plus text) × (line ≡ Some (digits_value 10 (without_leading_plus text)))

-- a tab's spaces, from 1 to 8, by the value of --spaces, a decimal number, maybe after a plus; 0 without --spaces
abbrev pub AreSpaces : Option Text → ℕ → Type 0
AreSpaces None spaces = spaces ≡ 0
AreSpaces (Some text) spaces =
    IsNumeral 10 (without_leading_plus text) × (spaces ≡ digits_value 10 (without_leading_plus text)) × (1 ≤ spaces) × (spaces ≤ 8)

-- at most 255 characters
abbrev pub IsShortName : Option Text → Type 0
IsShortName name = IfSome name (λ text. length (chars text) ≤ 255)

-- the value of --erase is DELETE, 7F, in any case
abbrev pub is_delete : Option Text → Bool
is_delete None = false
is_delete (Some code) = bytes_eq (map to_ascii_lowercase code) (codes "7f")

-- each option is what the argument of its name says
pub record AreOptionsIn (found : List Row) (options : Options) : Type 0 where
  pub rows : IsSideIn found (codes "rows") options.rows
  pub cols : IsSideIn found (codes "cols") options.cols
  pub unicode : ArePathsIn found options.unicode
  pub file : value_in found (codes "file") ≡ Some options.file.now
  pub opened : value_in found (codes "text") ≡ text_in options.text
  pub is_new : options.is_new ≡ is_given found (codes "new")
  pub check : options.check ≡ is_given found (codes "check")
  pub unsaved : options.unsaved ≡ is_given found (codes "unsaved")
  pub clipboard : options.clipboard ≡ is_given found (codes "clipboard")
  pub view : options.view ≡ is_given found (codes "view")
  pub indent : options.indent ≡ is_given found (codes "indent")
  pub spaces : AreSpaces (value_in found (codes "spaces")) options.spaces
  pub name : value_in found (codes "name") ≡ text_in options.name
  pub short_name : IsShortName (text_in options.name)
  pub journal : value_in found (codes "journal") ≡ text_in options.journal
  pub replay : value_in found (codes "replay") ≡ text_in options.replay
  pub to : value_in found (codes "to") ≡ text_in options.to
  pub against : value_in found (codes "against") ≡ text_in options.against
  pub line : IsLine (value_in found (codes "line")) options.line
  pub direction : value_in found (codes "direction") ≡ Some (word_of options.direction)
  pub before : value_in found (codes "before") ≡ text_in options.before
  pub frames : options.frames ≡ is_given found (codes "frames")
  pub saves : value_in found (codes "saves") ≡ text_in options.saves
  pub erase : options.erases_by_delete ≡ is_delete (value_in found (codes "erase"))

-- the options that these words give
abbrev pub AreOptionsOf : List Text → Options → Type 0
AreOptionsOf words options = (directions : DirectionWords) × AreOptionsIn (matches_of (editor_app directions) words) options
