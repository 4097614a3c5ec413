-- The embedding level of the unit at a place, which the editor tells of the unit at the cursor: UAX #9's after rule I2, before
-- rule L1 resets trailing blanks. Rule X9 removes characters: these have no level. `ucd` is what the tables say.
use Rattle.std.specs.Prelude.{ℕ, ◌+◌, ◌-◌, ◌==◌, true, false, List, [], ◌∷◌, length, take, drop, Option, None, chars}
use Rattle.bx_ucd.specs.Data.{Data}
use Rattle.bx_common.specs.declared.base.Base.{Base}
use Rattle.unicode_segmentation.specs.Grapheme.{graphemes}
use Rattle.bx_text.specs.index.Paragraphs.{lengths, paragraph_of}
use Rattle.bx_levels.specs.resolve.Levels.{levels_under}
use Rattle.bx_rows.specs.RowLevels.{first_level}
use Rattle.bx_view.specs.Numbers.{body_at, start_at}

-- The level of the unit that begins at the offset `at`, among units of which the first begins at the offset `start`; `each` has
-- the level of each of their characters. The unit's level is the one of its first character that X9 keeps: None if X9 keeps none,
-- and if no unit begins at `at`.
abbrev pub level_from : ℕ → List (List ℕ) → List (Option ℕ) → ℕ → Option ℕ
level_from start [] each at = None
level_from start (u ∷ us) each at =
    elim (start == at) [
      | true ↦ first_level (take (length (chars u)) each)
      | false ↦ level_from (start + length u) us (drop (length (chars u)) each) at
    ]

-- the level of the unit that begins at the offset `at` of a body; `each` has the level of each character of the body
abbrev pub unit_level : List ℕ → List (Option ℕ) → ℕ → Option ℕ
unit_level body each at = level_from 0 (graphemes true body) each at

-- the level of the unit that begins at a place of a text; None at a separator and at the text's end
abbrev pub place_level : Data → Base → List ℕ → ℕ → Option ℕ
place_level ucd base text place =
    let number = paragraph_of (lengths ucd text) place in
    let body = body_at ucd text number in
    unit_level body (levels_under ucd base (chars body)) (place - start_at ucd text number)
