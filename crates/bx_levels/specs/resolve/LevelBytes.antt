-- The byte that stores a character's level, or none.
use Rattle.std.specs.Prelude.{◌≡◌, ◌==◌, ℕ, true, false, Option, Some, None}
use Rattle.std.proofs.Common.{refl, sym, ap, eqb-true}
use Rattle.bx_levels.specs.declared.resolve.paragraph.Level.TheInside.{Inside}

-- 255 stores no level (`NONE` of src/resolve/paragraph.rt): levels are at most 126 (`max_level`)
abbrev kept_in : ℕ → Option ℕ
kept_in byte = elim (byte == 255) [ true ↦ None | false ↦ Some byte ]

-- the level that a stored value has, or none
abbrev pub level_of : Inside → Option ℕ
level_of l = kept_in l.byte

-- the byte that stores a level, or none
abbrev byte_of : Option ℕ → ℕ
byte_of None = 255
byte_of (Some level) = level

-- the stored value with this byte
abbrev made : ℕ → Inside
made byte = record { byte = byte }

-- the stored value of a level, or of none
abbrev pub inside_of : Option ℕ → Inside
inside_of level = made (byte_of level)

-- what a byte stores, stored again, is the byte
byte_back : (byte : ℕ) → byte_of (kept_in byte) ≡ byte
byte_back byte = elim (byte == 255) as (λ b. (byte == 255) ≡ b → byte_of (elim b [ true ↦ None | false ↦ Some byte ]) ≡ byte) [
  | true ↦ λ e. sym (eqb-true byte 255 e)
  | false ↦ λ e. refl
] refl

-- what a value stores, stored again, is the value
pub inside_of-level : (l : Inside) → inside_of (level_of l) ≡ l
inside_of-level l = ap made (byte_back l.byte)
