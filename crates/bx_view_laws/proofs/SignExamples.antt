-- Words with signs, and the words at places, computed.
use Rattle.std.proofs.Common.{◌≡◌, ℕ, ◌==◌, ◌||◌, List, [], ◌∷◌, ◌++◌, refl, replicate}
use Rattle.std.specs.Prelude.{codes, encode_utf8_all, if◌then◌else◌}
use Rattle.unicode_segmentation.proofs.Computing.{unicode_segmentation}
use Rattle.unicode_width.proofs.Computing.{unicode_width}
use Rattle.bx_ucd.specs.Data.{Data}
use Rattle.bx_ucd.specs.SmallTables.{class, small}
use Rattle.bx_ucd.specs.declared.class.Class.{Class}
use Rattle.bx_ucd.specs.declared.class.Class.TheVariants.{CS, EN, ON}
use Rattle.bx_view.specs.declared.moves.Logical.TheVariants.{Back, Forward}
use Rattle.bx_view.specs.Words.{step_word, stretch_at, unit_at}
use Rattle.bx_view.proofs.Computed.{walk}

-- the small tables with quotation mark, apostrophe, right single quotation mark, full stop, colon, and a digit of Persian
abbrev signed : ℕ → Class
signed c =
    if (c == 0x22) || ((c == 0x27) || (c == 0x2019)) then ON else if (c == 0x2E) || (c == 0x3A) then CS else if c == 0x6F2 then EN else class c

abbrev signs : Data
signs = record small { class = signed }

abbrev forward : List ℕ → ℕ → ℕ → List ℕ
forward cs n place = walk (replicate n (step_word signs (encode_utf8_all cs) Forward)) place

abbrev back : List ℕ → ℕ → ℕ → List ℕ
back cs n place = walk (replicate n (step_word signs (encode_utf8_all cs) Back)) place

-- ---- between letters

-- a Hebrew abbreviation, and an apostrophe at a word's end
abbrev abbreviated : List ℕ
abbreviated = (0x5d0 ∷ 0x5d1 ∷ []) ++ codes "\"" ++ (0x5d2 ∷ []) ++ codes " " ++ (0x5d0 ∷ 0x5d1 ∷ []) ++ codes "'"

over_abbreviation : forward abbreviated 2 0 ≡ 8 ∷ 13 ∷ []
unfolding unicode_segmentation unicode_width
over_abbreviation = refl

back_over_abbreviation : back abbreviated 2 13 ≡ 8 ∷ 0 ∷ []
unfolding unicode_segmentation unicode_width
back_over_abbreviation = refl

-- in quotation marks none is of a word
over_quotes : forward (codes "don't 'ab' \"a\" a" ++ (0x2019 ∷ []) ++ codes "b x") 6 0 ≡ 7 ∷ 12 ∷ 15 ∷ 21 ∷ 22 ∷ 22 ∷ []
unfolding unicode_segmentation unicode_width
over_quotes = refl

-- letters of both directions, digits, and two signs
over_two_directions : forward (codes "a\"" ++ (0x5d0 ∷ []) ++ codes " a\"1 1\"a a''b") 7 0 ≡ 5 ∷ 7 ∷ 9 ∷ 11 ∷ 13 ∷ 16 ∷ 17 ∷ []
unfolding unicode_segmentation unicode_width
over_two_directions = refl

-- ---- between digits

over_numbers : forward (codes "12.50 1,250 08:30 1.2.3") 4 0 ≡ 6 ∷ 12 ∷ 18 ∷ 23 ∷ []
unfolding unicode_segmentation unicode_width
over_numbers = refl

over_points_alone : forward (codes "3. .5 1,,2 a.b 1.a " ++ (0x661 ∷ []) ++ codes "." ++ (0x6f2 ∷ [])) 9 0 ≡ 4 ∷ 6 ∷ 9 ∷ 11 ∷ 13 ∷ 15 ∷ 17 ∷ 19 ∷ 24 ∷ []
unfolding unicode_segmentation unicode_width
over_points_alone = refl

over_last_point : forward (codes "1.") 1 0 ≡ 2 ∷ []
unfolding unicode_segmentation unicode_width
over_last_point = refl

-- ---- a letter with a point, a sign with a point, the ends of lines, and a direction mark, which is no letter

over_points : forward (codes "a" ++ (0x301 ∷ []) ++ codes "'b 1" ++ (0x301 ∷ []) ++ codes ".5 a'" ++ (0x301 ∷ []) ++ codes "b") 4 0 ≡ 6 ∷ 12 ∷ 16 ∷ 17 ∷ []
unfolding unicode_segmentation unicode_width
over_points = refl

over_line_ends : forward (codes "'a a' a\n'b") 5 0 ≡ 1 ∷ 3 ∷ 6 ∷ 7 ∷ 9 ∷ []
unfolding unicode_segmentation unicode_width
over_line_ends = refl

over_direction_marks : forward (codes "a" ++ (0x200f ∷ []) ++ codes "'b a'" ++ (0x200f ∷ []) ++ codes "b") 4 0 ≡ 5 ∷ 7 ∷ 12 ∷ 13 ∷ []
unfolding unicode_segmentation unicode_width
over_direction_marks = refl

-- ---- the word at a place

abbrev word : List ℕ → ℕ → ℕ × ℕ
word cs place = stretch_at signs (encode_utf8_all cs) place

abbrev unit : List ℕ → ℕ → ℕ × ℕ
unit cs place = unit_at signs (encode_utf8_all cs) place

words_and_other_units : word (codes "ab cd, ef") 4 ∷ word (codes "ab cd, ef") 5 ∷ word (codes "ab cd, ef") 2 ∷ word (codes "ab cd, ef") 9 ∷ []
    ≡ (3, 5) ∷ (5, 6) ∷ (2, 3) ∷ (7, 9) ∷ []
unfolding unicode_segmentation unicode_width
words_and_other_units = refl

at_line_ends : word (codes "ab!") 3 ∷ word (codes "ab\nc") 2 ∷ word (codes "a\nbc") 4 ∷ word (codes "a\n\nb") 2 ∷ word (codes "a\n") 2 ∷ word [] 0 ∷ []
    ≡ (2, 3) ∷ (0, 2) ∷ (2, 4) ∷ (2, 2) ∷ (2, 2) ∷ (0, 0) ∷ []
unfolding unicode_segmentation unicode_width
at_line_ends = refl

of_hebrew_words : word (codes "a " ++ (0x5d0 ∷ 0x5d1 ∷ []) ++ codes " b") 2 ∷ word (codes "a " ++ (0x5d0 ∷ 0x5d1 ∷ []) ++ codes "\"" ++ (0x5d2 ∷ []) ++ codes " b") 6 ∷ []
    ≡ (2, 6) ∷ (2, 9) ∷ []
unfolding unicode_segmentation unicode_width
of_hebrew_words = refl

of_wide_marked_and_other : word (0x4e00 ∷ 0x4e00 ∷ 0x78 ∷ []) 3 ∷ word (codes "a\tb") 1 ∷ word (codes "e" ++ (0x301 ∷ []) ++ codes "f g") 3 ∷ []
    ≡ (0, 7) ∷ (1, 2) ∷ (0, 4) ∷ []
unfolding unicode_segmentation unicode_width
of_wide_marked_and_other = refl

of_direction_marks : word (codes "a" ++ (0x200f ∷ []) ++ codes "b") 1 ∷ word (codes "a" ++ (0x200f ∷ []) ++ codes "b") 4 ∷ []
    ≡ (1, 4) ∷ (4, 5) ∷ []
unfolding unicode_segmentation unicode_width
of_direction_marks = refl

of_isolates : word (codes "a" ++ (0x2067 ∷ []) ++ codes "b" ++ (0x2069 ∷ [])) 4 ∷ word (codes "a" ++ (0x2067 ∷ []) ++ codes "b" ++ (0x2069 ∷ [])) 1 ∷ []
    ≡ (4, 5) ∷ (1, 4) ∷ []
unfolding unicode_segmentation unicode_width
of_isolates = refl

of_numbers : word (codes "1,2") 0 ∷ word (codes "08:30, 09") 2 ∷ word (codes "08:30, 09") 5 ∷ [] ≡ (0, 3) ∷ (0, 5) ∷ (5, 6) ∷ []
unfolding unicode_segmentation unicode_width
of_numbers = refl

-- ---- the unit at a place

units : unit (codes "ab\ncd") 1 ∷ unit (codes "ab\ncd") 2 ∷ unit (codes "ab\ncd") 5 ∷ unit (codes "e" ++ (0x301 ∷ []) ++ codes "f") 0 ∷ unit [] 0 ∷ []
    ≡ (1, 2) ∷ (2, 2) ∷ (5, 5) ∷ (0, 3) ∷ (0, 0) ∷ []
unfolding unicode_segmentation unicode_width
units = refl
