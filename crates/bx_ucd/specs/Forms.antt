-- The stored forms of letters.
use Rattle.std.specs.Prelude.{ℕ, Option, Some, None}
use Rattle.bx_ucd.specs.CodeMap.{value_in}
use Rattle.bx_ucd.specs.declared.code_map.CodeMap.{CodeMap}
use Rattle.bx_ucd.specs.declared.forms.Forms.{Forms}
use Rattle.bx_ucd.specs.declared.joining.Form.{Form}
use Rattle.bx_ucd.specs.declared.joining.Form.TheVariants.{Isolated, Initial, Medial, Final}

-- the character of a form
abbrev pub form_in : Forms → Form → Option ℕ
form_in forms Isolated = forms.isolated
form_in forms Initial = forms.initial
form_in forms Medial = forms.medial
form_in forms Final = forms.last

-- the character of a form, if a letter has forms
abbrev pub form_if_any : Option Forms → Form → Option ℕ
form_if_any None form = None
form_if_any (Some forms) form = form_in forms form

-- the character of a letter's form
abbrev pub form_in_map : CodeMap Forms → ℕ → Form → Option ℕ
form_in_map map letter form = form_if_any (value_in map letter) form
