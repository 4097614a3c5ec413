-- A text shown in the forms of its letters. `ucd` is Unicode's data.
use Rattle.std.specs.Prelude.{◌≡◌, ℕ, All, List, None, chars, encode_utf8_all}
use Rattle.bx_ucd.specs.Data.{Data}
use Rattle.bx_ucd.specs.declared.joining.Form.{Form}
use Rattle.bx_rows.specs.joining.Joining.{in_forms}

-- the text `shown`, with the forms `forms` of the letters of `text` in place of its characters
abbrev pub joined_image : Data → List Form → List ℕ → List ℕ → List ℕ
joined_image ucd forms text shown = encode_utf8_all (in_forms ucd forms (chars text) (chars shown))

-- none of the letters has a form
abbrev pub AreFormless : Data → List ℕ → Type 0
AreFormless ucd letters = All (λ c. (form : Form) → ucd.form c form ≡ None) letters
