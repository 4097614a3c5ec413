-- Worked examples, computed with the small tables: the letters of characters, and the nearest matches.
use Rattle.std.proofs.Common.{◌≡◌, ℕ, true, false, List, [], ◌∷◌, ◌++◌, map, replicate, Option, Some, None, refl}
use Rattle.std.specs.Prelude.{Bool, codes, encode_utf8_all}
use Rattle.std.specs.Str.{chars}
use Rattle.std.specs.Char.{encode_utf8}
use Rattle.bx_ucd.specs.SmallTables.{small}
use Rattle.bx_find.specs.Letters.{is_passed_over, letters_of, letters}
use Rattle.bx_find.specs.Matches.{first_from, last_before, spans_from}
use Rattle.bx_find.specs.Parts.{first_between, last_from}
use Rattle.bx_find.specs.declared.letters.Reading.TheVariants.{Wide, Close}
use Rattle.ucd_case.proofs.Computing.{ucd_case}
use Rattle.unicode_normalization.proofs.Computing.{unicode_normalization}

-- ---- the characters that a search passes over

abbrev are_passed_over : List ℕ → List Bool
are_passed_over cs = map (is_passed_over small) cs

-- ARABIC TATWEEL
abbrev tatweel : ℕ
tatweel = 0x640

-- ALM, LRM and RLM
abbrev direction_marks : List ℕ
direction_marks = 0x61c ∷ 0x200e ∷ 0x200f ∷ []

-- LRE, RLE, PDF, LRO, RLO, LRI, RLI, FSI and PDI
abbrev bidi_controls : List ℕ
bidi_controls = 0x202a ∷ 0x202b ∷ 0x202c ∷ 0x202d ∷ 0x202e ∷ 0x2066 ∷ 0x2067 ∷ 0x2068 ∷ 0x2069 ∷ []

-- an accent, and a control of class BN
abbrev acute : ℕ
acute = 0x301

abbrev boundary_neutral : ℕ
boundary_neutral = 1

-- one of each kind
abbrev kinds : List ℕ
kinds = tatweel ∷ acute ∷ boundary_neutral ∷ (direction_marks ++ bidi_controls)

each_kind_is_passed_over : are_passed_over kinds ≡ replicate 15 true
each_kind_is_passed_over = refl

-- letters, a digit, blanks, line ends, signs and the neighbours of the marks are not
others_are_letters : are_passed_over (codes "aZ1 \t\n\r!(" ++ (0x5d0 ∷ 0x628 ∷ 0x63f ∷ 0x641 ∷ 0x661 ∷ 0x200d ∷ 0x2010 ∷ 0x2029 ∷ 0x4e16 ∷ []))
    ≡ replicate 18 false
others_are_letters = refl

-- A to Z as small letters; other letters have their case
small_letters : letters small Close (0x41 ∷ acute ∷ 0x5a ∷ 0x40 ∷ 0x5b ∷ 0xc9 ∷ 0xe9 ∷ []) ≡ 0x61 ∷ 0x7a ∷ 0x40 ∷ 0x5b ∷ 0xc9 ∷ 0xe9 ∷ []
small_letters = refl

-- ---- matches

-- the first match of a query in a text at or after an offset, and the last one before it
abbrev first : List ℕ → List ℕ → ℕ → Option ℕ
first query text x = first_from small Close (letters small Close query) (encode_utf8_all text) x

abbrev last : List ℕ → List ℕ → ℕ → Option ℕ
last query text x = last_before small Close (letters small Close query) (encode_utf8_all text) x

-- a query across each kind, in the text and in the query
across_each_kind : map (λ k. first (codes "ab") (codes "xa" ++ k ∷ codes "b") 0) kinds ≡ replicate 15 (Some 1)
unfolding chars encode_utf8
across_each_kind = refl

each_kind_in_a_query : map (λ k. first (k ∷ 0x61 ∷ k ∷ codes "b") (codes "xab") 0) kinds ≡ replicate 15 (Some 1)
unfolding chars encode_utf8
each_kind_in_a_query = refl

-- a match begins at a letter, behind what stands before it
none_begins_a_match : map (λ k. first (codes "b") (codes "x" ++ k ∷ codes "b") 0) (acute ∷ boundary_neutral ∷ 0x200f ∷ []) ≡ Some 3 ∷ Some 2 ∷ Some 4 ∷ []
unfolding chars encode_utf8
none_begins_a_match = refl

none_is_found_alone : map (λ k. first (k ∷ []) (k ∷ k ∷ []) 0) kinds ≡ replicate 15 None
unfolding chars encode_utf8
none_is_found_alone = refl

-- matches may overlap; the first one has the least offset
overlapping : map (first (codes "aa") (codes "aaa")) (0 ∷ 1 ∷ 2 ∷ []) ≡ Some 0 ∷ Some 1 ∷ None ∷ []
unfolding chars encode_utf8
overlapping = refl

overlapping_back : map (last (codes "aa") (codes "aaa")) (0 ∷ 1 ∷ 2 ∷ 3 ∷ []) ≡ None ∷ Some 0 ∷ Some 1 ∷ Some 1 ∷ []
unfolding chars encode_utf8
overlapping_back = refl

-- a letter that begins the query anew
begun_anew : first (codes "abab") (codes "abaabab") 0 ≡ Some 3
unfolding chars encode_utf8
begun_anew = refl

begun_anew_back : last (codes "aba") (codes "abaabab") 4 ≡ Some 3
unfolding chars encode_utf8
begun_anew_back = refl

-- case makes no difference from A to Z
either_case : first (codes "AbZ") (codes "xaBz") 0 ≡ Some 1
unfolding chars encode_utf8
either_case = refl

other_letters_have_case : first (0xc9 ∷ []) (0xe9 ∷ []) 0 ≡ None
unfolding chars encode_utf8
other_letters_have_case = refl

-- a match that begins before the bound, and ends behind it
over_the_bound : map (last (codes "ab") (codes "abab")) (2 ∷ 3 ∷ []) ≡ Some 0 ∷ Some 2 ∷ []
unfolding chars encode_utf8
over_the_bound = refl

-- ---- widely read

abbrev wide : ℕ → List ℕ
wide c = letters_of small Wide c

-- an accent is no letter, whether it is written with its letter or behind it
accents_fall : map wide (0xc9 ∷ 0xe9 ∷ 0x301 ∷ 0x45 ∷ []) ≡ (0x65 ∷ []) ∷ (0x65 ∷ []) ∷ [] ∷ (0x65 ∷ []) ∷ []
unfolding unicode_normalization ucd_case
accents_fall = refl

-- a letter that folds to two, and a ligature to three
several_letters : map wide (0xdf ∷ 0x1e9e ∷ 0xfb03 ∷ []) ≡ codes "ss" ∷ codes "ss" ∷ codes "ffi" ∷ []
unfolding unicode_normalization ucd_case
several_letters = refl

-- an iota below falls before it would be folded; a dotted I is an i, and a dotless one is not
before_folding : map wide (0x1fb3 ∷ 0x130 ∷ 0x131 ∷ []) ≡ (0x3b1 ∷ []) ∷ (0x69 ∷ []) ∷ (0x131 ∷ []) ∷ []
unfolding unicode_normalization ucd_case
before_folding = refl

-- a syllable of Hangul in its parts
syllable_parts : wide 0xd55c ≡ 0x1112 ∷ 0x1161 ∷ 0x11ab ∷ []
unfolding unicode_normalization ucd_case
syllable_parts = refl

-- final letters of Hebrew and Greek; wasla, maksura and the letters of Persian and Urdu; hamza alone is its own letter
forms_of_letters : map wide (0x5da ∷ 0x5dd ∷ 0x5df ∷ 0x5e3 ∷ 0x5e5 ∷ 0x3c2 ∷ []) ≡ map (λ c. c ∷ []) (0x5db ∷ 0x5de ∷ 0x5e0 ∷ 0x5e4 ∷ 0x5e6 ∷ 0x3c3 ∷ [])
unfolding unicode_normalization ucd_case
forms_of_letters = refl

arabic_letters : map wide (0x671 ∷ 0x649 ∷ 0x6cc ∷ 0x6a9 ∷ 0x629 ∷ 0x6c1 ∷ 0x621 ∷ []) ≡ map (λ c. c ∷ []) (0x627 ∷ 0x64a ∷ 0x64a ∷ 0x643 ∷ 0x647 ∷ 0x647 ∷ 0x621 ∷ [])
unfolding unicode_normalization ucd_case
arabic_letters = refl

-- `cafe` in x, `CAF` and U+00C9, widely read and closely
abbrev coffee : List ℕ
coffee = encode_utf8_all (codes "xCAF" ++ 0xc9 ∷ [])

found_by_letters : first_from small Wide (letters small Wide (codes "cafe")) coffee 0 ≡ Some 1
unfolding chars encode_utf8 unicode_normalization ucd_case
found_by_letters = refl

not_found_closely : first_from small Close (letters small Close (codes "cafe")) coffee 0 ≡ None
unfolding chars encode_utf8
not_found_closely = refl

-- a match may end inside the letters of a character, and begins with its first
abbrev sharp : List ℕ
sharp = encode_utf8_all (0x61 ∷ 0xdf ∷ 0x62 ∷ [])

ends_inside : map (λ q. first_from small Wide (letters small Wide q) sharp 0) (codes "as" ∷ codes "s" ∷ codes "assb" ∷ codes "sb" ∷ [])
    ≡ Some 0 ∷ Some 1 ∷ Some 0 ∷ None ∷ []
unfolding chars encode_utf8 unicode_normalization ucd_case
ends_inside = refl

-- ---- between two offsets, and from one on

first_of_two : map (first_between small Close (codes "ab") (codes "abab") 0) (0 ∷ 1 ∷ 4 ∷ []) ≡ None ∷ Some 0 ∷ Some 0 ∷ []
unfolding chars encode_utf8
first_of_two = refl

second_of_two : map (first_between small Close (codes "ab") (codes "abab") 1) (2 ∷ 3 ∷ []) ≡ None ∷ Some 2 ∷ []
unfolding chars encode_utf8
second_of_two = refl

last_of_two : map (last_from small Close (codes "ab") (codes "abab")) (0 ∷ 2 ∷ 3 ∷ []) ≡ Some 2 ∷ Some 2 ∷ None ∷ []
unfolding chars encode_utf8
last_of_two = refl

-- ---- matches that follow one another

apart : map (spans_from small Close (codes "aa") (codes "aaaaa")) (0 ∷ 1 ∷ 4 ∷ []) ≡ ((0, 2) ∷ (2, 4) ∷ []) ∷ ((1, 3) ∷ (3, 5) ∷ []) ∷ [] ∷ []
unfolding chars encode_utf8
apart = refl

-- points and strokes inside and behind a match go with it; a control behind it does not
with_points : spans_from small Close (codes "ab") (encode_utf8_all (codes "xa" ++ acute ∷ 0x62 ∷ acute ∷ codes "y")) 0 ≡ (1, 7) ∷ []
unfolding chars encode_utf8
with_points = refl

with_strokes : spans_from small Close (0x628 ∷ 0x628 ∷ []) (encode_utf8_all (0x628 ∷ tatweel ∷ 0x628 ∷ tatweel ∷ codes "y")) 0 ≡ (0, 8) ∷ []
unfolding chars encode_utf8
with_strokes = refl

without_controls : spans_from small Close (codes "ab") (0x61 ∷ boundary_neutral ∷ 0x62 ∷ boundary_neutral ∷ codes "y") 0 ≡ (0, 3) ∷ []
unfolding chars encode_utf8
without_controls = refl
