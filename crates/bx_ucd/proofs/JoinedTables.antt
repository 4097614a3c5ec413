-- Tables with joining types and forms, for worked examples of letters that join.
use Rattle.std.specs.Prelude.{ℕ, List, Option, unwrap_or}
use Rattle.bx_ucd.specs.Data.{Data}
use Rattle.bx_ucd.specs.Joining.{counted, form_by_lines, has_form, joining_by_class, joining_by_lines}
use Rattle.bx_ucd.specs.SmallTables.{bracket}
use Rattle.bx_ucd.specs.declared.class.Class.{Class}
use Rattle.bx_ucd.specs.declared.joining.Joining.{Joining}
use Rattle.bx_ucd.specs.declared.joining.Form.{Form}
use Rattle.bx_ucd.specs.declared.joining_file.JoiningEntry.{JoiningEntry}
use Rattle.bx_ucd.specs.declared.characters_file.FormEntry.{FormEntry}

-- a line of joining types, and one of forms
abbrev pub type_line : ℕ → Joining → JoiningEntry
type_line c joining = record { character = c; joining = joining }

abbrev pub form_line : ℕ → Form → ℕ → FormEntry
form_line letter form shown = record { letter = letter; form = form; shown = shown }

-- all that the tables say, by their classes, mirrors and lines
abbrev pub joined_tables : (ℕ → Class) → (ℕ → Option ℕ) → List JoiningEntry → List FormEntry → Data
joined_tables class mirror types forms = record {
  class = class;
  bracket = bracket;
  mirror = mirror;
  joining = λ c. counted (unwrap_or (joining_by_lines types c) (joining_by_class (class c) c)) (has_form (form_by_lines forms c));
  form = form_by_lines forms;
}
