-- Worked examples: status rows while a search is on.
use Rattle.std.proofs.Common.{◌≡◌, ℕ, false, true, List, [], ◌∷◌, ◌++◌, map, Option, Some, None, refl}
use Rattle.std.specs.Prelude.{codes, encode_utf8, encode_utf8_all}
use Rattle.std.specs.Fmt.{digits}
use Rattle.unicode_segmentation.proofs.Computing.{unicode_segmentation}
use Rattle.unicode_width.proofs.Computing.{unicode_width}
use Rattle.bx_grid.specs.Columns.{Col, Glyph, glyph_columns}
use Rattle.bx_editor.specs.declared.message.Message.{Message}
use Rattle.bx_editor.specs.declared.message.Message.TheVariants.{NotFound}
use Rattle.bx_editor.specs.declared.search_state.SearchState.TheVariants.{Typed}
use Rattle.bx_editor.specs.Status.{status_columns}
use Rattle.bx_editor.proofs.Computed.{tables, start, ascii_columns}

-- the status row of a window of `width` columns where these characters are sought in an empty text
abbrev sought_row : ℕ → Option Message → List ℕ → List Col
sought_row width message cs = status_columns tables (record (start [] 2 width) { query = encode_utf8_all cs; search_state = Typed; message = message })

-- columns of characters that are one column each, any characters
abbrev letters_of : List ℕ → List Col
letters_of cs = map (λ c. Glyph (encode_utf8 c) 1 0 false) cs

abbrev wide : ℕ
wide = 0x4e16

abbrev right_to_left_isolate : ℕ
right_to_left_isolate = 0x2067

pub hebrew_from_right_to_left : sought_row 30 (Some NotFound) (0x5d0 ∷ 0x5d1 ∷ [])
    ≡ ascii_columns (codes "- 1:1 not found find: ") ++ (letters_of (0x5d1 ∷ 0x5d0 ∷ []) ++ ascii_columns (codes "      "))
unfolding unicode_segmentation unicode_width digits
hebrew_from_right_to_left = refl

pub hebrew_after_a_letter : sought_row 30 (Some NotFound) (codes "a " ++ (0x5d0 ∷ 0x5d1 ∷ []))
    ≡ ascii_columns (codes "- 1:1 not found find: a ") ++ (letters_of (0x5d1 ∷ 0x5d0 ∷ []) ++ ascii_columns (codes "    "))
unfolding unicode_segmentation unicode_width digits
hebrew_after_a_letter = refl

pub a_blank_of_the_query_is_seen : sought_row 30 (Some NotFound) (0x5d0 ∷ 0x5d1 ∷ codes " ")
    ≡ ascii_columns (codes "- 1:1 not found find:  ") ++ (letters_of (0x5d1 ∷ 0x5d0 ∷ []) ++ ascii_columns (codes "     "))
unfolding unicode_segmentation unicode_width digits
a_blank_of_the_query_is_seen = refl

pub a_wide_glyph_without_room_is_left_out : sought_row 15 None (wide ∷ wide ∷ codes "x")
    ≡ ascii_columns (codes "- 1:1 find: ") ++ (glyph_columns (encode_utf8 wide) 2 false ++ ascii_columns (codes " "))
unfolding unicode_segmentation unicode_width digits
a_wide_glyph_without_room_is_left_out = refl

pub nothing_stands_behind_it : sought_row 13 None (wide ∷ codes "x") ≡ ascii_columns (codes "- 1:1 find:  ")
unfolding unicode_segmentation unicode_width digits
nothing_stands_behind_it = refl

pub what_has_no_room_is_cut : sought_row 20 (Some NotFound) (wide ∷ codes "xy") ≡ ascii_columns (codes "- 1:1 not found find")
unfolding unicode_segmentation unicode_width digits
what_has_no_room_is_cut = refl

pub a_mark_in_the_query : sought_row 40 (Some NotFound) (right_to_left_isolate ∷ codes "x")
    ≡ ascii_columns (codes "- 1:1 not found find: ") ++ (Glyph (codes "I") 1 0 true ∷ ascii_columns (codes "x                "))
unfolding unicode_segmentation unicode_width digits
a_mark_in_the_query = refl

pub an_empty_query : sought_row 20 None [] ≡ ascii_columns (codes "- 1:1 find:         ")
unfolding unicode_segmentation unicode_width digits
an_empty_query = refl
