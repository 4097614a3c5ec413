-- The options that several programs share, as clap has them: their names, defaults and kinds of values.
use Rattle.std.specs.Prelude.{List, [], ◌∷◌, Some, true, false, pos, codes, fold}
use Rattle.std.specs.Borrow.{Bor}
use Rattle.clap.specs.Words.{App, Rule, Text, new_rule, with_rule}
use Rattle.clap.specs.declared.builder.ArgAction.TheVariants.{SetTrue}
use Rattle.clap.specs.declared.builder.value_parser.ValueParser.TheVariants as vp
use Rattle.bx_common.specs.Characters.{largest_side}

-- `--name`, which has a value
abbrev pub option_rule : Text → Rule
option_rule name = record (new_rule name) { long = Some name; value_names = 1 }

-- `--name`, which has none
abbrev pub flag_rule : Text → Rule
flag_rule name = record (new_rule name) { long = Some name; action = Some SetTrue }

-- the same option, which a command line must have
abbrev pub required : Rule → Rule
required rule = record rule { required = true }

-- the same option, which requires or excludes others
abbrev pub bound : Rule → Rule
bound rule = record rule { is_free = false }

-- the side of a window, a number from 1
abbrev pub side_rule : Text → Text → Rule
side_rule name default = record (option_rule name) { parser = Some (vp.Signed (pos 1) (pos largest_side)); defaults = default ∷ [] }

-- where the words that name directions are
abbrev pub DirectionWords : Type 0
DirectionWords = Bor (List (Bor Text))

-- the direction, which is one of these words
abbrev pub direction_rule : DirectionWords → Rule
direction_rule words = record (new_rule (codes "direction")) {
  long = Some (codes "direction");
  parser = Some (vp.Names words);
  defaults = codes "auto" ∷ [];
}

-- Unicode's files
abbrev pub table_rules : List Rule
table_rules =
    required (option_rule (codes "classes"))
    ∷ required (option_rule (codes "brackets"))
    ∷ required (option_rule (codes "mirroring"))
    ∷ bound (option_rule (codes "joining"))
    ∷ bound (option_rule (codes "characters"))
    ∷ []

-- the command with these options behind its own
abbrev pub with_rules : App → List Rule → App
with_rules app rules = fold with_rule app rules
