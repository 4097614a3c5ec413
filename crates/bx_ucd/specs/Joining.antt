-- Joining types and forms of characters, by the entries of the files.
use Rattle.std.specs.Prelude.{ℕ, Bool, true, false, not, ◌&&◌, ◌||◌, ◌==◌, List, Option, is_some, option_map, if◌then◌else◌}
use Rattle.bx_ucd.specs.Answers.{find_last}
use Rattle.bx_ucd.specs.Class.{is_unlettered}
use Rattle.bx_ucd.specs.Control.{is_control}
use Rattle.bx_common.specs.Characters.{is_direction_mark}
use Rattle.bx_ucd.specs.declared.class.Class.{Class}
use Rattle.bx_ucd.specs.declared.class.Class.TheVariants.{BN}
use Rattle.bx_ucd.specs.declared.joining.Joining.{Joining}
use Rattle.bx_ucd.specs.declared.joining.Joining.TheVariants.{R, L, D, U, T}
use Rattle.bx_ucd.specs.declared.joining.Form.{Form}
use Rattle.bx_ucd.specs.declared.joining.Form.TheVariants.{Isolated, Initial, Medial, Final}
use Rattle.bx_ucd.specs.declared.joining_file.JoiningEntry.{JoiningEntry}
use Rattle.bx_ucd.specs.declared.characters_file.FormEntry.{FormEntry}

-- ---- forms

abbrev pub is_same : Form → Form → Bool
is_same Isolated Isolated = true
is_same Initial Initial = true
is_same Medial Medial = true
is_same Final Final = true
is_same _ _ = false

-- the entry is of this form of the letter
abbrev pub is_for : ℕ → Form → FormEntry → Bool
is_for letter form e = e.letter == letter && is_same e.form form

-- the character that is this form of the letter, by the last line for both
abbrev pub form_by_lines : List FormEntry → ℕ → Form → Option ℕ
form_by_lines entries letter form = option_map (λ e. e.shown) (find_last (is_for letter form) entries)

-- a letter has one of the four forms
abbrev pub has_form : (Form → Option ℕ) → Bool
has_form forms = (is_some (forms Isolated) || is_some (forms Initial)) || (is_some (forms Medial) || is_some (forms Final))

-- ---- joining types

-- a nonspacing mark, a formatting character, or a boundary neutral that is not a control
abbrev pub is_joined_across : Class → ℕ → Bool
is_joined_across BN c = not (is_control c)
is_joined_across class c = is_unlettered class

-- the joining type of a character without a line, by its class: T if letters join across it, else U
abbrev pub joining_by_class : Class → ℕ → Joining
joining_by_class class c = if is_direction_mark c || is_joined_across class c then T else U

-- the joining type of a character, by the last line for it, if there is one
abbrev pub joining_by_lines : List JoiningEntry → ℕ → Option Joining
joining_by_lines entries c = option_map (λ e. e.joining) (find_last (λ e. e.character == c) entries)

-- a letter of the type joins only if it has a form
abbrev pub needs_form : Joining → Bool
needs_form R = true
needs_form L = true
needs_form D = true
needs_form _ = false

-- the joining type that counts for a character whose own type is `joining`: U, if the type needs a form and the character has none
abbrev pub counted : Joining → Bool → Joining
counted joining has_form = if needs_form joining && not has_form then U else joining

-- the joining type that counts for a character with a line, the last one for it deciding, given the forms of letters
abbrev pub counted_by_lines : List JoiningEntry → (ℕ → Form → Option ℕ) → ℕ → Option Joining
counted_by_lines entries forms c = option_map (λ e. counted e.joining (has_form (forms c))) (find_last (λ e. e.character == c) entries)
