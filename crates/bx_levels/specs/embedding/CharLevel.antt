-- The explicit level of a character, from the result of the explicit rules for it (`None` where X9 removes it).
use Rattle.std.specs.Prelude.{◌≡◌, ℕ, Option, Some, None}
use Rattle.bx_levels.specs.declared.embedding.entry.ExplicitChar.{ExplicitChar}

-- the level of a kept character, or 0
abbrev pub level_or_0 : Option ExplicitChar → ℕ
level_or_0 None = 0
level_or_0 (Some k) = k.level

-- the character is kept and has this level
abbrev pub HasLevel : ℕ → Option ExplicitChar → Type 0
HasLevel level None = ⊥
HasLevel level (Some k) = k.level ≡ level
