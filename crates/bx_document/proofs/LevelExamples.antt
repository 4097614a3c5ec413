-- Worked examples of levels at places, computed with the small tables.
use Rattle.std.proofs.Common.{◌≡◌, ℕ, List, [], ◌∷◌, map, Option, Some, None, refl}
use Rattle.std.specs.Prelude.{codes, encode_utf8_all}
use Rattle.unicode_segmentation.proofs.Computing.{unicode_segmentation}
use Rattle.unicode_width.proofs.Computing.{unicode_width}
use Rattle.bx_ucd.specs.SmallTables.{small}
use Rattle.bx_common.specs.declared.base.Base.{Base}
use Rattle.bx_common.specs.declared.base.Base.TheVariants.{Auto, Rtl}
use Rattle.bx_document.specs.PlaceLevel.{place_level}

abbrev levels_at : Base → List ℕ → List ℕ → List (Option ℕ)
levels_at base text places = map (place_level small base text) places

-- a letter with a mark, a blank and two digits, which stand from right to left: units begin at 0, 4, 5 and 6, the text ends at 7
letter_and_digits : levels_at Auto (encode_utf8_all (0x5d0 ∷ 0x301 ∷ 0x20 ∷ 0x31 ∷ 0x32 ∷ [])) (0 ∷ 4 ∷ 5 ∷ 6 ∷ 7 ∷ [])
    ≡ Some 1 ∷ Some 1 ∷ Some 2 ∷ Some 2 ∷ None ∷ []
unfolding unicode_segmentation unicode_width
letter_and_digits = refl

-- an isolate has the level around it, an embedding after it has none
formatting : levels_at Auto (encode_utf8_all (0x61 ∷ 0x2067 ∷ 0x202b ∷ [])) (0 ∷ 1 ∷ 4 ∷ []) ≡ Some 0 ∷ Some 0 ∷ None ∷ []
unfolding unicode_segmentation unicode_width
formatting = refl

-- letters from left to right in a paragraph from right to left
under_base : levels_at Rtl (codes "ab") (0 ∷ 1 ∷ 2 ∷ []) ≡ Some 2 ∷ Some 2 ∷ None ∷ []
unfolding unicode_segmentation unicode_width
under_base = refl

-- a separator has no level; the second paragraph has its own levels
second_paragraph : levels_at Auto (encode_utf8_all (0x61 ∷ 0x0a ∷ 0x5d0 ∷ 0x31 ∷ [])) (0 ∷ 1 ∷ 2 ∷ 4 ∷ 5 ∷ [])
    ≡ Some 0 ∷ None ∷ Some 1 ∷ Some 2 ∷ None ∷ []
unfolding unicode_segmentation unicode_width
second_paragraph = refl
