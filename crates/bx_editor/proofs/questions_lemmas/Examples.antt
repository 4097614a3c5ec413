-- Worked examples: answers and what they mean.
use Rattle.std.proofs.Common.{◌≡◌, ℕ, true, false, Bool, List, [], ◌∷◌, ◌++◌, map, replicate, Option, Some, None, refl, length}
use Rattle.std.specs.Prelude.{codes}
use Rattle.bx_editor.specs.declared.questions.line.Target.{Target}
use Rattle.bx_editor.specs.questions.Answers.{shortened, asked, digit_of, is_line_letter}
use Rattle.bx_editor.specs.questions.Names.{named, closing, asks_code, coded, is_code_letter}
use Rattle.std.specs.Str.{chars}
use Rattle.std.specs.Char.{encode_utf8}

-- ---- going to a line

abbrev in_paragraph : ℕ → ℕ → Option Target
in_paragraph paragraph unit = Some (record { paragraph = Some paragraph; unit = unit })

abbrev in_this_one : ℕ → Option Target
in_this_one unit = Some (record { paragraph = None; unit = unit })

-- paragraph and unit; a comma is as good as a colon; one number is a paragraph's
two_numbers : map asked (codes "2:3" ∷ codes "2,3" ∷ codes "4" ∷ codes "2:" ∷ [])
    ≡ in_paragraph 2 3 ∷ in_paragraph 2 3 ∷ in_paragraph 4 1 ∷ in_paragraph 2 1 ∷ []
two_numbers = refl

-- no first number: the paragraph where the cursor is
unit_alone : map asked (codes ":2" ∷ codes "::3" ∷ codes ":9" ∷ []) ≡ in_this_one 2 ∷ in_this_one 1 ∷ in_this_one 9 ∷ []
unit_alone = refl

-- no digit at all
nothing_asked : map asked ([] ∷ codes "," ∷ codes ",," ∷ codes ":,:" ∷ []) ≡ None ∷ None ∷ None ∷ None ∷ []
nothing_asked = refl

-- a second divider and all after it are ignored; 0 means 1
passed_over : map asked (codes "2:2:9" ∷ codes "0" ∷ codes "0:0" ∷ codes "2:0" ∷ [])
    ≡ in_paragraph 2 2 ∷ in_paragraph 1 1 ∷ in_paragraph 1 1 ∷ in_paragraph 2 1 ∷ []
passed_over = refl

-- sixteen digits
many_digits : map asked (codes "0000000000000002" ∷ codes "9999999999999999" ∷ []) ≡ in_paragraph 2 1 ∷ in_paragraph 9999999999999999 1 ∷ []
many_digits = refl

-- digits of three scripts, also mixed, in the order in which they were typed
three_scripts : map asked ((0x31 ∷ 0x661 ∷ []) ∷ (0x6F0 ∷ 0x39 ∷ []) ∷ (0x668 ∷ []) ∷ (0x661 ∷ 0x2C ∷ 0x2C ∷ 0x662 ∷ []) ∷ [])
    ≡ in_paragraph 11 1 ∷ in_paragraph 9 1 ∷ in_paragraph 8 1 ∷ in_paragraph 1 1 ∷ []
three_scripts = refl

first_and_last_digits : map digit_of (0x2F ∷ 0x30 ∷ 0x39 ∷ 0x65F ∷ 0x660 ∷ 0x669 ∷ 0x66A ∷ 0x6EF ∷ 0x6F0 ∷ 0x6F9 ∷ 0x6FA ∷ 0x967 ∷ [])
    ≡ None ∷ Some 0 ∷ Some 9 ∷ None ∷ Some 0 ∷ Some 9 ∷ None ∷ None ∷ Some 0 ∷ Some 9 ∷ None ∷ None ∷ []
first_and_last_digits = refl

line_letters : map is_line_letter (codes "0:,; a" ++ 0x967 ∷ []) ≡ true ∷ true ∷ true ∷ replicate 4 false
line_letters = refl

-- ---- characters by name and code

each_name : map named (codes "eEoOpiIfPlranjux")
    ≡ Some 0x202A ∷ Some 0x202B ∷ Some 0x202D ∷ Some 0x202E ∷ Some 0x202C ∷ Some 0x2066 ∷ Some 0x2067 ∷ Some 0x2068 ∷ Some 0x2069
    ∷ Some 0x200E ∷ Some 0x200F ∷ Some 0x61C ∷ Some 0x200C ∷ Some 0x200D ∷ None ∷ None ∷ []
each_name = refl

each_end : map closing (codes "eEoOiIfpPlr") ≡ replicate 4 (Some 0x202C) ++ replicate 3 (Some 0x2069) ++ replicate 4 None
each_end = refl

asking_for_a_code : map asks_code (codes "u+U-") ≡ true ∷ true ∷ false ∷ false ∷ []
asking_for_a_code = refl

code_letters : map is_code_letter (codes "09afAFgG+ ") ≡ replicate 6 true ++ replicate 4 false
code_letters = refl

characters_by_code : map coded (codes "05d0" ∷ codes "1F600" ∷ codes "a" ∷ codes "0" ∷ codes "00005D" ∷ codes "10ffff" ∷ [])
    ≡ Some 0x5D0 ∷ Some 0x1F600 ∷ Some 0xA ∷ Some 0 ∷ Some 0x5D ∷ Some 0x10FFFF ∷ []
characters_by_code = refl

no_such_character : map coded ([] ∷ codes "D800" ∷ codes "dfff" ∷ codes "110000" ∷ codes "+5d" ∷ []) ≡ replicate 5 None
no_such_character = refl

-- ---- a text without its last character

one_less : map shortened ((codes "12" ++ 0xD9 ∷ 0xA1 ∷ []) ∷ codes "1" ∷ [] ∷ []) ≡ codes "12" ∷ [] ∷ [] ∷ []
unfolding chars encode_utf8
one_less = refl
