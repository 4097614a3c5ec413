-- A law of the levels of units. `ucd` is what the tables say.
use Rattle.std.specs.Prelude.{◌≡◌, ℕ, ◌+◌, ◌<◌, true, List, ◌∷◌, ◌++◌, length, slice_get, Option, Some, None, chars}
use Rattle.std.specs.List.{concat}
use Rattle.bx_ucd.specs.Data.{Data}
use Rattle.bx_common.specs.declared.base.Base.{Base}
use Rattle.unicode_segmentation.specs.Grapheme.{graphemes}
use Rattle.bx_levels.specs.resolve.Levels.{levels_under}
use Rattle.bx_view.specs.Numbers.{body_at, count, start_at}
use Rattle.bx_document.specs.PlaceLevel.{place_level}

-- the levels at the indexes `k` to `k + i - 1` are None, and the one at `k + i` is `level`
pub record IsFirstLevel (each : List (Option ℕ)) (k i level : ℕ) : Type 0 where
  pub none_before : (j : ℕ) → j < i → slice_get each (k + j) ≡ Some None
  pub level_is : slice_get each (k + i) ≡ Some (Some level)

-- The place before a unit has the level of the unit's first character with a level, if there is one. `number` is the paragraph,
-- from 0, `front` its units before this one, and `i`, from 0, that character in the unit.
abbrev pub UnitsHaveLevels : Data → Base → List ℕ → Type 0
UnitsHaveLevels ucd base text =
    (number : ℕ) → number < count ucd text → (front rest : List (List ℕ)) (unit : List ℕ)
    → graphemes true (body_at ucd text number) ≡ front ++ unit ∷ rest → (i level : ℕ) → i < length (chars unit)
    → IsFirstLevel (levels_under ucd base (chars (body_at ucd text number))) (length (chars (concat front))) i level
    → place_level ucd base text (start_at ucd text number + length (concat front)) ≡ Some level
