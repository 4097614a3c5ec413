-- Places by their numbers, computed.
use Rattle.std.proofs.Common.{◌≡◌, ℕ, List, [], ◌∷◌, ◌++◌, map, refl}
use Rattle.std.specs.Prelude.{codes}
use Rattle.unicode_segmentation.proofs.Computing.{unicode_segmentation}
use Rattle.unicode_width.proofs.Computing.{unicode_width}
use Rattle.bx_ucd.specs.SmallTables.{small}
use Rattle.bx_view.specs.Numbers.{place_of}

-- lines of two letters, three, none and one
abbrev four_lines : List ℕ
four_lines = codes "ab\nabc\n\nx"

-- where the second line's units begin, and its end; its third unit
in_the_second_line : map (place_of small four_lines 2) (1 ∷ 2 ∷ 3 ∷ 4 ∷ []) ≡ 3 ∷ 4 ∷ 5 ∷ 6 ∷ []
unfolding unicode_segmentation unicode_width
in_the_second_line = refl

-- a unit too large means the line's end
past_a_line : place_of small four_lines 2 9 ∷ place_of small four_lines 1 4 ∷ place_of small four_lines 3 1 ∷ place_of small four_lines 3 2 ∷ [] ≡ 6 ∷ 2 ∷ 7 ∷ 7 ∷ []
unfolding unicode_segmentation unicode_width
past_a_line = refl

-- a line too large means the last one
past_the_last_line : place_of small four_lines 4 1 ∷ place_of small four_lines 9 1 ∷ place_of small four_lines 9 9 ∷ [] ≡ 8 ∷ 8 ∷ 9 ∷ []
unfolding unicode_segmentation unicode_width
past_the_last_line = refl

-- 0 means 1
zero_is_one : place_of small four_lines 0 1 ∷ place_of small four_lines 0 0 ∷ place_of small four_lines 2 0 ∷ [] ≡ 0 ∷ 0 ∷ 3 ∷ []
unfolding unicode_segmentation unicode_width
zero_is_one = refl

-- a letter with its accent is one unit, CR LF none of a line
whole_units : place_of small (codes "a" ++ (0xcc ∷ 0x81 ∷ []) ++ codes "b") 1 2 ∷ place_of small (codes "a\r\nb") 1 2 ∷ place_of small (codes "a\r\nb") 2 1 ∷ []
    ≡ 3 ∷ 1 ∷ 3 ∷ []
unfolding unicode_segmentation unicode_width
whole_units = refl
