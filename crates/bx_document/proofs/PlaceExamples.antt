-- Worked examples, computed with the small tables: points, and the first separator.
use Rattle.std.proofs.Common.{◌≡◌, ℕ, Bool, true, false, List, [], ◌∷◌, map, refl}
use Rattle.std.specs.Prelude.{codes, encode_utf8_all}
use Rattle.unicode_segmentation.proofs.Computing.{unicode_segmentation}
use Rattle.unicode_width.proofs.Computing.{unicode_width}
use Rattle.bx_ucd.specs.Data.{Data}
use Rattle.bx_ucd.specs.declared.class.Class.TheVariants.{NSM}
use Rattle.bx_ucd.specs.SmallTables.{small}
use Rattle.bx_document.specs.Line.{has_crlf_first}
use Rattle.bx_document.specs.Points.{is_point, point_start}

abbrev alef : ℕ
alef = 0x5d0

abbrev acute : ℕ
acute = 0x301

-- ---- points

-- where all characters are marks, the variation selectors and the keycap are still no points
abbrev marks : Data
marks = record small { class = λ c. NSM }

points_of_marks : map (is_point marks) (acute ∷ 0xfdff ∷ 0xfe00 ∷ 0xfe0f ∷ 0xfe10 ∷ 0x20e3 ∷ []) ≡ true ∷ true ∷ false ∷ false ∷ true ∷ false ∷ []
points_of_marks = refl

-- a mark, the zero width joiner and non-joiner, a letter, a blank, an embedding
points : map (is_point small) (acute ∷ 0x200c ∷ 0x200d ∷ alef ∷ 0x20 ∷ 0x202b ∷ []) ≡ true ∷ true ∷ true ∷ false ∷ false ∷ false ∷ []
points = refl

abbrev from : List ℕ → ℕ
from unit = point_start small (encode_utf8_all unit)

-- the last of two marks begins at 4, the only one at 2; a mark alone is removed whole
last_mark : from (alef ∷ acute ∷ acute ∷ []) ∷ from (alef ∷ acute ∷ []) ∷ from (acute ∷ []) ∷ from (acute ∷ acute ∷ []) ∷ [] ≡ 4 ∷ 2 ∷ 0 ∷ 2 ∷ []
unfolding unicode_segmentation unicode_width
last_mark = refl

-- a joiner after a letter, a letter after a joiner, a letter alone, and nothing
last_joiner : from (0x61 ∷ 0x200d ∷ []) ∷ from (0x200d ∷ 0x61 ∷ []) ∷ from (0x61 ∷ []) ∷ from [] ∷ [] ≡ 1 ∷ 0 ∷ 0 ∷ 0 ∷ []
unfolding unicode_segmentation unicode_width
last_joiner = refl

-- ---- the first separator

abbrev crlf : List ℕ → Bool
crlf text = has_crlf_first small text

first_separators : map crlf (codes "a\r\nb\nc" ∷ codes "a\nb\r\n" ∷ codes "\r\n" ∷ codes "a\rb\r\n" ∷ codes "ab" ∷ [] ∷ [])
    ≡ true ∷ false ∷ true ∷ false ∷ false ∷ false ∷ []
unfolding unicode_segmentation unicode_width
first_separators = refl
