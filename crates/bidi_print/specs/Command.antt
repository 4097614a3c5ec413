-- The printer's command line, as clap has it, and its options by the words.
use Rattle.std.specs.Prelude.{◌≡◌, Bool, true, false, List, [], ◌∷◌, Some, codes}
use Rattle.clap.specs.Words.{App, Row, Rule, Text, matches_of, new_app}
use Rattle.bx_common.specs.Directions.{word_of}
use Rattle.bx_command.specs.Command.{file_rule}
use Rattle.bx_command.specs.shared.Arguments.{ArePathsIn, IsSideIn, is_given, value_in}
use Rattle.bx_command.specs.shared.Rules.{DirectionWords, direction_rule, flag_rule, side_rule, table_rules, with_rules}
use Rattle.bx_print.specs.declared.style.Placeholders.{Placeholders}
use Rattle.bx_print.specs.declared.style.Placeholders.TheVariants.{Bracketed, LeftOut}
use Rattle.bidi_print.specs.declared.words.Options.{Options}

-- the options but those of Unicode's files
abbrev pub own_rules : DirectionWords → List Rule
own_rules directions = side_rule (codes "cols") (codes "80") ∷ direction_rule directions ∷ flag_rule (codes "marks") ∷ file_rule ∷ []

-- the command before its options: all words are its own, and none asks for help or a version
abbrev pub bare_app : App
bare_app = record (new_app (codes "bidi_print")) {
  top = record (new_app (codes "bidi_print")).top { no_binary_name = true; disable_help_flag = true; disable_version_flag = true };
}

abbrev pub printer_app : DirectionWords → App
printer_app directions = with_rules (with_rules bare_app table_rules) (own_rules directions)

-- with --marks a placeholder is its letter in brackets
abbrev pub placeholders_by : Bool → Placeholders
placeholders_by true = Bracketed
placeholders_by false = LeftOut

-- each option is what the argument of its name says
pub record AreOptionsIn (found : List Row) (options : Options) : Type 0 where
  pub cols : IsSideIn found (codes "cols") options.style.columns
  pub direction : value_in found (codes "direction") ≡ Some (word_of options.style.base)
  pub marks : options.style.placeholders ≡ placeholders_by (is_given found (codes "marks"))
  pub unicode : ArePathsIn found options.unicode
  pub file : value_in found (codes "file") ≡ Some options.file.now

-- the options that these words give
abbrev pub AreOptionsOf : List Text → Options → Type 0
AreOptionsOf words options = (directions : DirectionWords) × AreOptionsIn (matches_of (printer_app directions) words) options
