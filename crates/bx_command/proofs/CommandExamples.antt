-- Worked examples of the command line: options that words give, by its law alone.
use Rattle.std.proofs.Common.{◌≡◌, ◌∙◌, ap, sym, ℕ, true, false, List, [], ◌∷◌, refl}
use Rattle.std.specs.Prelude.{Option, Some, None, codes}
use Rattle.std.specs.Str.Parse.{digits_value, without_leading_plus}
use Rattle.clap.specs.Words.{Row, Text, matches_of}
use Rattle.clap.proofs.OnLiterals.{clap_on_literals}
use Rattle.bx_command.specs.shared.Arguments.{IsSideIn, value_in}
use Rattle.bx_command.specs.shared.Rules.{DirectionWords}
use Rattle.bx_command.specs.Command.{editor_app}
use Rattle.bx_command.specs.Options.{AreOptionsOf, text_in}
use Rattle.bx_command.specs.declared.parsed.Options.{Options}

-- words behind those that name Unicode's files
abbrev given : List Text → List Text
given words = codes "--classes" ∷ codes "C" ∷ codes "--brackets" ∷ codes "B" ∷ codes "--mirroring" ∷ codes "M" ∷ words

-- ---- the line

pub a_line_is_given : (options : Options) → AreOptionsOf (given (codes "--line" ∷ codes "3" ∷ codes "FILE" ∷ [])) options → options.line ≡ Some 3
unfolding clap_on_literals
a_line_is_given options law = law.1.line.1

pub a_line_may_have_a_plus : (options : Options) → AreOptionsOf (given (codes "--line=+12" ∷ codes "FILE" ∷ [])) options → options.line ≡ Some 12
unfolding clap_on_literals
a_line_may_have_a_plus options law = law.1.line.1

pub without_it_there_is_none : (options : Options) → AreOptionsOf (given (codes "FILE" ∷ [])) options → options.line ≡ None
unfolding clap_on_literals
without_it_there_is_none options law = law.1.line

-- ---- the text, and whether it counts as changed

pub a_recovered_text_is_unsaved : (options : Options) → AreOptionsOf (given (codes "--unsaved" ∷ codes "--text" ∷ codes "T" ∷ codes "FILE" ∷ [])) options
    → (options.unsaved ≡ true) × (text_in options.text ≡ Some (codes "T")) × (Some (codes "FILE") ≡ Some options.file.now)
unfolding clap_on_literals
a_recovered_text_is_unsaved options law = (law.1.unsaved, sym law.1.opened, law.1.file)

pub an_opened_text_is_saved : (options : Options) → AreOptionsOf (given (codes "FILE" ∷ [])) options → (options.unsaved ≡ false) × (text_in options.text ≡ None)
unfolding clap_on_literals
an_opened_text_is_saved options law = (law.1.unsaved, sym law.1.opened)

-- ---- flags

pub a_file_is_only_checked : (options : Options) → AreOptionsOf (given (codes "--check" ∷ codes "FILE" ∷ [])) options
    → (options.check ≡ true) × (options.is_new ≡ false) × (options.unsaved ≡ false) × (options.clipboard ≡ false) × (options.frames ≡ false)
unfolding clap_on_literals
a_file_is_only_checked options law = (law.1.check, law.1.is_new, law.1.unsaved, law.1.clipboard, law.1.frames)

pub a_file_may_have_a_flags_name : (options : Options) → AreOptionsOf (given (codes "--" ∷ codes "--check" ∷ [])) options
    → (options.check ≡ false) × (Some (codes "--check") ≡ Some options.file.now)
unfolding clap_on_literals
a_file_may_have_a_flags_name options law = (law.1.check, law.1.file)

pub a_clipboard_is_asked_for : (options : Options) → AreOptionsOf (given (codes "FILE" ∷ codes "--clipboard" ∷ [])) options → options.clipboard ≡ true
unfolding clap_on_literals
a_clipboard_is_asked_for options law = law.1.clipboard

pub an_erase_character_may_be_delete : (options : Options) → AreOptionsOf (given (codes "--frames" ∷ codes "--erase" ∷ codes "7F" ∷ codes "FILE" ∷ [])) options
    → (options.frames ≡ true) × (options.erases_by_delete ≡ true)
unfolding clap_on_literals
an_erase_character_may_be_delete options law = (law.1.frames, law.1.erase)

pub or_another : (options : Options) → AreOptionsOf (given (codes "--frames" ∷ codes "--erase" ∷ codes "08" ∷ codes "FILE" ∷ [])) options → options.erases_by_delete ≡ false
unfolding clap_on_literals
or_another options law = law.1.erase

-- ---- how the text is edited

pub settings_are_given : (options : Options)
    → AreOptionsOf (given (codes "--view" ∷ codes "--indent" ∷ codes "--spaces" ∷ codes "4" ∷ codes "--name" ∷ codes "x" ∷ codes "FILE" ∷ [])) options
    → (options.view ≡ true) × (options.indent ≡ true) × (options.spaces ≡ 4) × (text_in options.name ≡ Some (codes "x"))
unfolding clap_on_literals
settings_are_given options law = (law.1.view, law.1.indent, law.1.spaces.1, sym law.1.name)

pub without_them_there_are_none : (options : Options) → AreOptionsOf (given (codes "FILE" ∷ [])) options
    → (options.view ≡ false) × (options.indent ≡ false) × (options.spaces ≡ 0) × (text_in options.name ≡ None)
unfolding clap_on_literals
without_them_there_are_none options law = (law.1.view, law.1.indent, law.1.spaces, sym law.1.name)

-- an empty word says that the text has no name yet
pub a_name_may_be_empty : (options : Options) → AreOptionsOf (given (codes "--name" ∷ [] ∷ codes "FILE" ∷ [])) options → text_in options.name ≡ Some []
unfolding clap_on_literals
a_name_may_be_empty options law = sym law.1.name

-- ---- the window

same_text : (option : Option Text) (left right : Text) → option ≡ Some left → option ≡ Some right → right ≡ left
same_text option left right a b = cc

side_is : (found : List Row) (name text : Text) (n : ℕ) → IsSideIn found name n → value_in found name ≡ Some text → n ≡ digits_value 10 (without_leading_plus text)
side_is found name text n side is =
    side.value ∙ ap (λ t. digits_value 10 (without_leading_plus t)) (same_text (value_in found name) text side.text is side.is_text)

abbrev sized : List Text
sized = given (codes "--cols=7" ∷ codes "--rows" ∷ codes "5" ∷ codes "FILE" ∷ [])

rows_are : (directions : DirectionWords) → value_in (matches_of (editor_app directions) sized) (codes "rows") ≡ Some (codes "5")
unfolding clap_on_literals
rows_are directions = refl

columns_are : (directions : DirectionWords) → value_in (matches_of (editor_app directions) sized) (codes "cols") ≡ Some (codes "7")
unfolding clap_on_literals
columns_are directions = refl

pub a_size_is_given : (options : Options) → AreOptionsOf sized options → (options.rows ≡ 5) × (options.cols ≡ 7)
a_size_is_given options law = (
  side_is (matches_of (editor_app law.0) sized) (codes "rows") (codes "5") options.rows law.1.rows (rows_are law.0),
  side_is (matches_of (editor_app law.0) sized) (codes "cols") (codes "7") options.cols law.1.cols (columns_are law.0),
)
