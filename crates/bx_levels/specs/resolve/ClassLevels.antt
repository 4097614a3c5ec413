-- Levels that depend on the characters' classes only: what the short ways for simple texts find. `ucd` is Unicode's data.
use Rattle.std.specs.Prelude.{◌≡◌, ℕ, List, Option, map}
use Rattle.bx_ucd.specs.Data.{Data}
use Rattle.bx_ucd.specs.declared.class.Class.{Class}
use Rattle.bx_levels.specs.resolve.Levels.{paragraph_levels}

-- each text with these classes has these levels, given the paragraph level
unfoldable pub AreLevelsOf : ℕ → List Class → List (Option ℕ) → Type 0
AreLevelsOf paragraph cs each = (ucd : Data) (chars : List ℕ) → cs ≡ map ucd.class chars → each ≡ paragraph_levels ucd paragraph chars
