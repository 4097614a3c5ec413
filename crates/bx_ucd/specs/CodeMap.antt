-- A map from characters to values, as the brackets, the mirrors and the forms are kept.
use Rattle.std.specs.Prelude.{ℕ, Option}
use Rattle.std.specs.Ordering.{nat_cmp}
use Rattle.std.specs.BTreeMap.{get}
use Rattle.bx_ucd.specs.declared.code_map.CodeMap.{CodeMap}

-- the value of a character, if it has one
abbrev pub value_in : {V : Type 0} → CodeMap V → ℕ → Option V
value_in map code = get nat_cmp map.each code
