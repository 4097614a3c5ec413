-- Worked examples: the columns of runs of characters.
use Rattle.std.proofs.Common.{◌≡◌, ℕ, List, [], ◌∷◌, ◌++◌, map, refl}
use Rattle.std.specs.Prelude.{codes}
use Rattle.std.specs.Str.{chars}
use Rattle.unicode_width.proofs.Computing.{unicode_width}
use Rattle.bx_common.specs.Glyphs.{run_width}

-- U+4E16, of two columns, and e with an acute accent
abbrev wide : List ℕ
wide = 0xE4 ∷ 0xB8 ∷ 0x96 ∷ []

abbrev accented : List ℕ
accented = 0x65 ∷ 0xCC ∷ 0x81 ∷ []

-- a column for each character of ASCII, two for a wide one, none for an accent
pub columns_of_runs : map run_width ([] ∷ codes "abc" ∷ wide ∷ (codes "ab" ++ wide) ∷ accented ∷ []) ≡ 0 ∷ 3 ∷ 2 ∷ 4 ∷ 1 ∷ []
unfolding chars unicode_width
columns_of_runs = refl

-- U+00A1, which East Asian terminals show in two columns, counts one
pub ambiguous_is_narrow : run_width (0xC2 ∷ 0xA1 ∷ []) ≡ 1
unfolding chars unicode_width
ambiguous_is_narrow = refl
