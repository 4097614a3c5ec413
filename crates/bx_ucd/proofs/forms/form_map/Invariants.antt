use Rattle.std.proofs.Common.{◌≡◌, ℕ, drop}
use Rattle.std.specs.Option.{option_or}
use Rattle.bx_ucd.specs.Forms.{form_in_map}
use Rattle.bx_ucd.specs.Joining.{form_by_lines}
use Rattle.bx_ucd.specs.declared.joining.Form.{Form}
use Rattle.bx_ucd.proofs.forms.form_map.Given as goal

abbrev pub invariant-loop-entry : goal.invariant-loop-entry
invariant-loop-entry l = (letter : ℕ) (form : Form) → form_by_lines l.entries letter form
    ≡ option_or (form_by_lines (drop l.entry-index l.entries) letter form) (form_in_map l.forms letter form)
