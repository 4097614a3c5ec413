use Rattle.std.proofs.Common.{◌≡◌, ℕ, drop}
use Rattle.std.specs.Option.{option_or}
use Rattle.bx_ucd.specs.Answers.{mirror_by_lines}
use Rattle.bx_ucd.specs.CodeMap.{value_in}
use Rattle.bx_ucd.proofs.tables.mirror_map.Given as goal

abbrev pub invariant-loop-entry : goal.invariant-loop-entry
invariant-loop-entry l = (code : ℕ) → mirror_by_lines l.entries code
    ≡ option_or (mirror_by_lines (drop l.entry-index l.entries) code) (value_in l.mirrors code)
