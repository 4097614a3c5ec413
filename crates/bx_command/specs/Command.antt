-- The editor's command line, as clap has it: the names, defaults and kinds of values of its options.
use Rattle.std.specs.Prelude.{List, [], ◌∷◌, Some, true, pos, codes}
use Rattle.clap.specs.Words.{App, Rule, new_app, new_rule}
use Rattle.clap.specs.declared.builder.value_parser.ValueParser.TheVariants as vp
use Rattle.bx_command.specs.shared.Rules.{DirectionWords, bound, direction_rule, flag_rule, option_rule, side_rule, table_rules, with_rules}

-- the cursor's first line, a number from 1
abbrev pub line_rule : Rule
line_rule = record (option_rule (codes "line")) { parser = Some (vp.Unsigned 1 18446744073709551615) }

-- a tab's spaces, a number from 1 to 8
abbrev pub spaces_rule : Rule
spaces_rule = record (option_rule (codes "spaces")) { parser = Some (vp.Signed (pos 1) (pos 8)) }

-- FILE, which has no name before it
abbrev pub file_rule : Rule
file_rule = record (new_rule (codes "file")) { value_names = 1; required = true }

-- the options that stand alone, and FILE
abbrev pub plain_rules : DirectionWords → List Rule
plain_rules directions =
    side_rule (codes "rows") (codes "24")
    ∷ side_rule (codes "cols") (codes "80")
    ∷ option_rule (codes "text")
    ∷ option_rule (codes "journal")
    ∷ option_rule (codes "replay")
    ∷ flag_rule (codes "unsaved")
    ∷ flag_rule (codes "frames")
    ∷ flag_rule (codes "clipboard")
    ∷ flag_rule (codes "view")
    ∷ flag_rule (codes "indent")
    ∷ spaces_rule
    ∷ option_rule (codes "name")
    ∷ direction_rule directions
    ∷ line_rule
    ∷ option_rule (codes "before")
    ∷ file_rule
    ∷ []

-- the options that require others or exclude them
abbrev pub bound_rules : List Rule
bound_rules =
    bound (flag_rule (codes "check"))
    ∷ bound (flag_rule (codes "new"))
    ∷ bound (option_rule (codes "saves"))
    ∷ bound (option_rule (codes "erase"))
    ∷ bound (option_rule (codes "to"))
    ∷ bound (option_rule (codes "against"))
    ∷ []

-- the command before its options: all words are its own, and none asks for help or a version
abbrev pub bare_app : App
bare_app = record (new_app (codes "bidi_edit")) {
  top = record (new_app (codes "bidi_edit")).top { no_binary_name = true; disable_help_flag = true; disable_version_flag = true };
}

-- the command with all of them
abbrev pub editor_app : DirectionWords → App
editor_app directions = with_rules (with_rules (with_rules bare_app table_rules) (plain_rules directions)) bound_rules
