-- The stored joining types, as they count.
use Rattle.std.specs.Prelude.{ℕ, Option, Some, None, unwrap_or}
use Rattle.bx_ucd.specs.CodeMap.{value_in}
use Rattle.bx_ucd.specs.Joining.{joining_by_class}
use Rattle.bx_ucd.specs.declared.class.Class.{Class}
use Rattle.bx_ucd.specs.declared.code_map.CodeMap.{CodeMap}
use Rattle.bx_ucd.specs.declared.joined_letters.JoinedLetters.{JoinedLetters}
use Rattle.bx_ucd.specs.declared.joining.Joining.{Joining}
use Rattle.bx_ucd.specs.declared.joining.Joining.TheVariants.{U}

-- the joining type of a character of a class, by the types that were read, if any were
abbrev pub type_by : Option (CodeMap Joining) → Class → ℕ → Joining
type_by None class c = U
type_by (Some types) class c = unwrap_or (value_in types c) (joining_by_class class c)

-- the joining type of a character of a class, by what is stored of both files
abbrev pub type_in : JoinedLetters → Class → ℕ → Joining
type_in joined class c = type_by joined.types class c
