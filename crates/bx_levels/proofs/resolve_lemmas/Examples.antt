-- The definitions, computed on the worked examples.
use Rattle.std.proofs.Common.{◌≡◌, ℕ, List, [], ◌∷◌, ◌++◌, refl, Option, Some, None, replicate, map, true, false}
use Rattle.bx_ucd.specs.declared.class.Class.TheVariants.{L, AN, NSM, BN, B, LRE, LRO, RLE, RLO, PDF, LRI, FSI, PDI}
use Rattle.bx_common.specs.declared.base.Base.{Base}
use Rattle.bx_common.specs.declared.base.Base.TheVariants.{Auto, Ltr, Rtl}
use Rattle.bx_levels.specs.resolve.Levels.{levels_under, paragraph_level_under}
use Rattle.bx_levels.specs.resolve.Kept.{is_kept}
use Rattle.bx_ucd.specs.SmallTables.{small}

abbrev levels : Base → List ℕ → List (Option ℕ)
levels base chars = levels_under small base chars

abbrev all : List ℕ → List (Option ℕ)
all chars = levels Auto chars

abbrev some : List ℕ → List (Option ℕ)
some ls = map (λ l. Some l) ls

-- a AB b
mixed_line : all (97 ∷ 32 ∷ 0x5d0 ∷ 0x5d1 ∷ 32 ∷ 98 ∷ []) ≡ some (0 ∷ 0 ∷ 1 ∷ 1 ∷ 0 ∷ 0 ∷ [])
mixed_line = refl

-- AB 12
number_in_hebrew : all (0x5d0 ∷ 0x5d1 ∷ 32 ∷ 49 ∷ 50 ∷ []) ≡ some (1 ∷ 1 ∷ 1 ∷ 2 ∷ 2 ∷ [])
number_in_hebrew = refl

-- AB (a) G
brackets_in_hebrew : all (0x5d0 ∷ 0x5d1 ∷ 32 ∷ 40 ∷ 97 ∷ 41 ∷ 32 ∷ 0x5d2 ∷ []) ≡ some (1 ∷ 1 ∷ 1 ∷ 1 ∷ 2 ∷ 1 ∷ 1 ∷ 1 ∷ [])
brackets_in_hebrew = refl

-- a RLI B PDI c; a RLI B PDI !1
isolate_in_a_line : all (97 ∷ 0x2067 ∷ 0x5d1 ∷ 0x2069 ∷ 99 ∷ []) ≡ some (0 ∷ 0 ∷ 1 ∷ 0 ∷ 0 ∷ [])
isolate_in_a_line = refl

isolate_then_number : all (97 ∷ 0x2067 ∷ 0x5d1 ∷ 0x2069 ∷ 33 ∷ 49 ∷ []) ≡ some (0 ∷ 0 ∷ 1 ∷ 0 ∷ 0 ∷ 0 ∷ [])
isolate_then_number = refl

-- FSI LRI a PDI B PDI c
isolates_nest : all (0x2068 ∷ 0x2066 ∷ 97 ∷ 0x2069 ∷ 0x5d1 ∷ 0x2069 ∷ 99 ∷ []) ≡ some (0 ∷ 1 ∷ 2 ∷ 1 ∷ 1 ∷ 0 ∷ 0 ∷ [])
isolates_nest = refl

-- 63 RLE, a
deepest_embedding : all (replicate 63 0x202b ++ (97 ∷ [])) ≡ replicate 63 None ++ (Some 126 ∷ [])
deepest_embedding = refl

-- aB((G)Ad)
outer_pair_first : all (97 ∷ 0x5d1 ∷ 40 ∷ 40 ∷ 0x5d2 ∷ 41 ∷ 0x5d0 ∷ 100 ∷ 41 ∷ []) ≡ some (0 ∷ 1 ∷ 0 ∷ 0 ∷ 1 ∷ 0 ∷ 1 ∷ 0 ∷ 0 ∷ [])
outer_pair_first = refl

-- U+0627 1,2 and U+0627 1+2
arabic_numbers : all (0x627 ∷ 49 ∷ 44 ∷ 50 ∷ []) ≡ some (1 ∷ 2 ∷ 2 ∷ 2 ∷ [])
arabic_numbers = refl

arabic_digits_and_plus : all (0x627 ∷ 49 ∷ 43 ∷ 50 ∷ []) ≡ some (1 ∷ 2 ∷ 1 ∷ 2 ∷ [])
arabic_digits_and_plus = refl

-- A a(b) U+0301 B
nsm_after_bracket : all (0x5d0 ∷ 32 ∷ 97 ∷ 40 ∷ 98 ∷ 41 ∷ 0x301 ∷ 32 ∷ 0x5d1 ∷ []) ≡ some (1 ∷ 1 ∷ 2 ∷ 2 ∷ 2 ∷ 2 ∷ 2 ∷ 1 ∷ 1 ∷ [])
nsm_after_bracket = refl

-- a, n times (, A, n times ), A
abbrev nested_text : ℕ → List ℕ
nested_text n = 97 ∷ (replicate n 40 ++ (0x5d0 ∷ (replicate n 41 ++ (0x5d0 ∷ []))))

eight_nested_brackets : all (nested_text 8) ≡ some (0 ∷ (replicate 8 0 ++ (1 ∷ (replicate 8 0 ++ (1 ∷ [])))))
eight_nested_brackets = refl

more_nested_brackets : all (nested_text 24) ≡ some (0 ∷ (replicate 24 0 ++ (1 ∷ (replicate 24 0 ++ (1 ∷ [])))))
more_nested_brackets = refl

nested_brackets : all (nested_text 63) ≡ some (0 ∷ (replicate 63 0 ++ (1 ∷ (replicate 63 0 ++ (1 ∷ [])))))
nested_brackets = refl

one_bracket_too_deep : all (nested_text 64) ≡ some (0 ∷ (replicate 64 0 ++ (1 ∷ (replicate 64 1 ++ (1 ∷ [])))))
one_bracket_too_deep = refl

-- a 64th RLE overflows, and one PDF closes it
embedding_too_deep : all (replicate 64 0x202b ++ (0x202c ∷ 97 ∷ [])) ≡ replicate 65 None ++ (Some 126 ∷ [])
embedding_too_deep = refl

-- a AB b from right to left, AB 12 from left to right
forced_from_the_right : levels Rtl (97 ∷ 32 ∷ 0x5d0 ∷ 0x5d1 ∷ 32 ∷ 98 ∷ []) ≡ some (2 ∷ 1 ∷ 1 ∷ 1 ∷ 1 ∷ 2 ∷ [])
forced_from_the_right = refl

forced_from_the_left : levels Ltr (0x5d0 ∷ 0x5d1 ∷ 32 ∷ 49 ∷ 50 ∷ []) ≡ some (1 ∷ 1 ∷ 1 ∷ 2 ∷ 2 ∷ [])
forced_from_the_left = refl

isolates_nest_from_the_right : levels Rtl (0x2068 ∷ 0x2066 ∷ 97 ∷ 0x2069 ∷ 0x5d1 ∷ 0x2069 ∷ 99 ∷ []) ≡ some (1 ∷ 3 ∷ 4 ∷ 3 ∷ 3 ∷ 1 ∷ 2 ∷ [])
isolates_nest_from_the_right = refl

no_characters : all [] ≡ []
no_characters = refl

no_characters_level : paragraph_level_under small Auto [] ≡ 0
no_characters_level = refl

-- an Arabic number before a blank counts as R
arabic_number_before_blank : levels Ltr (0x661 ∷ 32 ∷ 0x5d0 ∷ []) ≡ some (2 ∷ 1 ∷ 1 ∷ [])
arabic_number_before_blank = refl

-- RLE a(b) PDF RLO U+0301 PDF: an override made the mark R, so it does not follow its bracket
nsm_under_an_override : all (0x202b ∷ 97 ∷ 40 ∷ 98 ∷ 41 ∷ 0x202c ∷ 0x202e ∷ 0x301 ∷ 0x202c ∷ [])
    ≡ None ∷ Some 2 ∷ Some 2 ∷ Some 2 ∷ Some 2 ∷ None ∷ None ∷ Some 1 ∷ None ∷ []
nsm_under_an_override = refl

-- PDI with no initiator
pdis_match_nothing : all (replicate 100 0x2069 ++ (97 ∷ [])) ≡ some (replicate 101 0)
pdis_match_nothing = refl

-- X9 keeps letters, numbers, nonspacing marks, separators and isolates, and removes embeddings, overrides, their ends and BN
classes_kept : map is_kept (L ∷ AN ∷ NSM ∷ B ∷ LRI ∷ FSI ∷ PDI ∷ []) ≡ replicate 7 true
classes_kept = refl

classes_removed : map is_kept (LRE ∷ RLE ∷ LRO ∷ RLO ∷ PDF ∷ BN ∷ []) ≡ replicate 6 false
classes_removed = refl
