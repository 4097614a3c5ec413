-- What the options of a command line say.
use Rattle.std.specs.Prelude.{◌≡◌, ◌≢◌, ◌⊎◌, Bool, true, false, ℕ, List, Option, Some, None, MatchOption, codes}
use Rattle.std.specs.Borrow.{Bor}
use Rattle.std.specs.Str.{bytes_eq}
use Rattle.std.specs.Str.Parse.{IsNumeral, digits_value, without_leading_plus}
use Rattle.clap.specs.Words.{Row, first_of, found_of, rows_of}
use Rattle.clap.specs.declared.parser.matches.ArgMatches.{ArgMatches}
use Rattle.bx_common.specs.Directions.{word_of}
use Rattle.bx_common.specs.Characters.{is_side}
use Rattle.bx_common.specs.declared.base.Base.{Base}
use Rattle.bx_command.specs.declared.shared.unicode.JoiningFiles.{JoiningFiles}
use Rattle.bx_command.specs.declared.shared.unicode.UnicodeFiles.{UnicodeFiles}

-- what clap found: a row for each option that is given or has a default
abbrev pub rows_in : ArgMatches → List Row
rows_in matches = rows_of (found_of matches)

-- the value of an option
abbrev pub value_in : List Row → List ℕ → Option (List ℕ)
value_in rows name = first_of name rows

-- the value is the word by which clap says that a flag is given
abbrev pub is_yes : Option (List ℕ) → Bool
is_yes None = false
is_yes (Some value) = bytes_eq value (codes "true")

-- a flag is given
abbrev pub is_given : List Row → List ℕ → Bool
is_given rows name = is_yes (value_in rows name)

-- the value of an option is the decimal number of a window's side, maybe after a plus
pub record IsSideIn (rows : List Row) (name : List ℕ) (n : ℕ) : Type 0 where
  pub text : List ℕ
  pub is_text : value_in rows name ≡ Some text
  pub numeral : IsNumeral 10 (without_leading_plus text)
  pub value : n ≡ digits_value 10 (without_leading_plus text)
  pub side : is_side n ≡ true

-- the side that an option gives; none if its value is not a side's number
abbrev pub GivesSide : List Row → List ℕ → Option ℕ → Type 0
GivesSide rows name side = MatchOption side ((n : ℕ) → ¬ (IsSideIn rows name n)) (IsSideIn rows name)

-- the direction whose word is the value of --direction; none if that is not a direction's word
abbrev pub GivesDirection : List Row → Option Base → Type 0
GivesDirection rows direction =
    MatchOption direction ((base : Base) → value_in rows (codes "direction") ≢ Some (word_of base))
    (λ base. value_in rows (codes "direction") ≡ Some (word_of base))

-- the values of --joining and --characters; none if one of them is missing
abbrev pub GivesJoining : List Row → Option (JoiningFiles (Bor (List ℕ))) → Type 0
GivesJoining rows paths =
    MatchOption paths ((value_in rows (codes "joining") ≡ None) ⊎ (value_in rows (codes "characters") ≡ None))
    (λ p. (value_in rows (codes "joining") ≡ Some p.joining.now) × (value_in rows (codes "characters") ≡ Some p.characters.now))

-- each path is the value of the option of its name
pub record ArePathsIn (rows : List Row) (paths : UnicodeFiles (Bor (List ℕ))) : Type 0 where
  pub classes : value_in rows (codes "classes") ≡ Some paths.classes.now
  pub brackets : value_in rows (codes "brackets") ≡ Some paths.brackets.now
  pub mirroring : value_in rows (codes "mirroring") ≡ Some paths.mirroring.now
  pub joining : GivesJoining rows paths.joining

-- these paths; none if one of the three that are required is missing
abbrev pub GivesPaths : List Row → Option (UnicodeFiles (Bor (List ℕ))) → Type 0
GivesPaths rows paths =
    MatchOption paths
    ((value_in rows (codes "classes") ≡ None) ⊎ ((value_in rows (codes "brackets") ≡ None) ⊎ (value_in rows (codes "mirroring") ≡ None)))
    (ArePathsIn rows)
