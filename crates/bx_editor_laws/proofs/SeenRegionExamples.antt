-- Worked examples: the region in the picture.
use Rattle.std.proofs.Common.{◌≡◌, ℕ, true, false, List, [], ◌∷◌, ◌++◌, map, refl}
use Rattle.std.specs.Prelude.{codes, encode_utf8}
use Rattle.std.specs.Fmt.{digits}
use Rattle.unicode_segmentation.proofs.Computing.{unicode_segmentation}
use Rattle.unicode_width.proofs.Computing.{unicode_width}
use Rattle.bx_keys.specs.declared.key.Key.{Key}
use Rattle.bx_keys.specs.declared.key.Key.TheVariants.{Forward, Back, Mark, RowEnd, TextEnd}
use Rattle.bx_grid.specs.Columns.{Col, Glyph}
use Rattle.bx_editor.proofs.Computed.{start, after, shown}

-- the columns after keys typed over a text of these characters, in a window of some rows and columns
abbrev seen : List ℕ → ℕ → ℕ → List Key → List Col
seen text height width keys = (shown (after (start text height width) keys) 0).columns

-- characters that are one glyph each, in one column, normal and negative
abbrev normal : List ℕ → List Col
normal cs = map (λ c. Glyph (encode_utf8 c) 1 0 false) cs

abbrev negative : List ℕ → List Col
negative cs = map (λ c. Glyph (encode_utf8 c) 1 0 true) cs

-- letters from right to left: U+05D0 and U+05D1
abbrev alef : ℕ
alef = 0x5d0

abbrev bet : ℕ
bet = 0x5d1

pub a_region_in_two_pieces : seen (codes "a " ++ alef ∷ bet ∷ codes " b") 1 6 (Mark ∷ Forward ∷ Forward ∷ Forward ∷ [])
    ≡ negative (codes "a ") ++ normal (bet ∷ []) ++ negative (alef ∷ []) ++ normal (codes " b")
unfolding unicode_segmentation unicode_width digits
a_region_in_two_pieces = refl

pub the_same_from_the_other_side : seen (codes "a " ++ alef ∷ bet ∷ codes " b") 1 6 (RowEnd ∷ Mark ∷ Back ∷ Back ∷ Back ∷ [])
    ≡ normal (codes "a ") ++ negative (bet ∷ []) ++ normal (alef ∷ []) ++ negative (codes " b")
unfolding unicode_segmentation unicode_width digits
the_same_from_the_other_side = refl

pub the_blanks_of_a_tab_are_turned : seen (alef ∷ 9 ∷ bet ∷ []) 1 16 (Mark ∷ Forward ∷ Forward ∷ [])
    ≡ normal (codes "       ") ++ normal (bet ∷ []) ++ negative (codes "       ") ++ negative (alef ∷ [])
unfolding unicode_segmentation unicode_width digits
the_blanks_of_a_tab_are_turned = refl

pub a_region_over_the_end_of_a_row : seen (codes "abcdef") 3 4 (Forward ∷ Forward ∷ Mark ∷ Forward ∷ Forward ∷ Forward ∷ [])
    ≡ normal (codes "ab") ++ negative (codes "cde") ++ normal (codes "f  - 1:")
unfolding unicode_segmentation unicode_width digits
a_region_over_the_end_of_a_row = refl

pub separators_and_ends_have_no_columns : seen (codes "a\n\nb") 4 4 (Mark ∷ TextEnd ∷ [])
    ≡ negative (codes "a") ++ normal (codes "       ") ++ negative (codes "b") ++ normal (codes "   - 3:")
unfolding unicode_segmentation unicode_width digits
separators_and_ends_have_no_columns = refl

pub a_wide_glyph_is_turned_whole : seen (0x4e16 ∷ codes "x") 1 4 (Mark ∷ Forward ∷ [])
    ≡ Glyph (encode_utf8 0x4e16) 2 0 true ∷ Glyph (encode_utf8 0x4e16) 2 1 true ∷ normal (codes "x ")
unfolding unicode_segmentation unicode_width digits
a_wide_glyph_is_turned_whole = refl

-- U+2067 is shown as `I`
pub a_mark_for_a_control : seen (codes "a" ++ 0x2067 ∷ codes "b") 1 4 [] ≡ normal (codes "a") ++ negative (codes "I") ++ normal (codes "b ")
unfolding unicode_segmentation unicode_width digits
a_mark_for_a_control = refl

pub a_mark_for_a_control_turns_to_normal : seen (codes "a" ++ 0x2067 ∷ codes "b") 1 4 (Mark ∷ RowEnd ∷ [])
    ≡ negative (codes "a") ++ normal (codes "I") ++ negative (codes "b") ++ normal (codes " ")
unfolding unicode_segmentation unicode_width digits
a_mark_for_a_control_turns_to_normal = refl
