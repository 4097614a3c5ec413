use Rattle.std.proofs.Common.{◌≡◌, ℕ, drop}
use Rattle.std.specs.Option.{option_or}
use Rattle.bx_ucd.specs.CodeMap.{value_in}
use Rattle.bx_ucd.specs.Forms.{form_in_map}
use Rattle.bx_ucd.specs.Joining.{counted_by_lines}
use Rattle.bx_ucd.proofs.joined_letters.type_map.Given as goal

abbrev pub invariant-loop-entry : goal.invariant-loop-entry
invariant-loop-entry l = (c : ℕ) → counted_by_lines l.entries (form_in_map l.forms) c
    ≡ option_or (counted_by_lines (drop l.entry-index l.entries) (form_in_map l.forms) c) (value_in l.types c)
