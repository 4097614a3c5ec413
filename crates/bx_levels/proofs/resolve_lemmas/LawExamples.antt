-- Consequences of the laws for single texts.
use Rattle.std.proofs.Common.{◌≡◌, ℕ, List, [], ◌∷◌, Some, refl, arith}
use Rattle.std.specs.Prelude.{All}
use Rattle.std.specs.List.Sorted.{IsPermutation}
use Rattle.std.proofs.lemmas.List.Elements.{All-nil, All-cons}
use Rattle.bx_ucd.specs.declared.class.Class.{Class}
use Rattle.bx_ucd.specs.declared.class.Class.TheVariants.{L, R, RLE, PDF, RLI, PDI}
use Rattle.bx_ucd.specs.SmallTables.{small}
use Rattle.bx_common.specs.declared.base.Base.TheVariants.{Auto, Ltr, Rtl}
use Rattle.bx_levels.specs.embedding.Explicit.{explicit_levels}
use Rattle.bx_levels.specs.embedding.Sequences.{sequences}
use Rattle.bx_levels.specs.resolve.Levels.{levels_under, paragraph_level_under}
use Rattle.bx_levels.specs.resolve.Laws.{all_indexes, level_at, HaveEachOnce, IsEven, IsOdd, LeftTextsHave, LettersKeepDirection, OverridesGiveDirection}
use Rattle.bx_levels.specs.resolve.Laws.{TypesKeepDirection}

-- the indexes that the sequences of a text from left to right have between them
abbrev in_sequences : List Class → List ℕ
in_sequences cs = all_indexes (sequences 0 cs (explicit_levels 0 cs))

-- a RLI B PDI c: each character is in one sequence, once
isolate_in_sequences : HaveEachOnce → IsPermutation (0 ∷ 1 ∷ 2 ∷ 3 ∷ 4 ∷ []) (in_sequences (L ∷ RLI ∷ R ∷ PDI ∷ L ∷ []))
isolate_in_sequences law = law 0 (L ∷ RLI ∷ R ∷ PDI ∷ L ∷ []) (omega arith)

-- a RLE B PDF c: the characters that X9 removes are in none
embedding_in_sequences : HaveEachOnce → IsPermutation (0 ∷ 2 ∷ 4 ∷ []) (in_sequences (L ∷ RLE ∷ R ∷ PDF ∷ L ∷ []))
embedding_in_sequences law = law 0 (L ∷ RLE ∷ R ∷ PDF ∷ L ∷ []) (omega arith)

-- the characters of ab are of class L
ab_is_left : All (λ c. small.class c ≡ L) (97 ∷ 98 ∷ [])
ab_is_left = All-cons (λ c. small.class c ≡ L) 97 (98 ∷ []) refl (All-cons (λ c. small.class c ≡ L) 98 [] refl (All-nil (λ c. small.class c ≡ L)))

-- ab, by its own direction and from right to left
ab_levels : LeftTextsHave Auto 0 0 → levels_under small Auto (97 ∷ 98 ∷ []) ≡ Some 0 ∷ Some 0 ∷ []
ab_levels law = (law small (97 ∷ 98 ∷ []) ab_is_left).1

ab_levels_from_left : LeftTextsHave Ltr 0 0 → levels_under small Ltr (97 ∷ 98 ∷ []) ≡ Some 0 ∷ Some 0 ∷ []
ab_levels_from_left law = (law small (97 ∷ 98 ∷ []) ab_is_left).1

ab_levels_from_right : LeftTextsHave Rtl 1 2 → levels_under small Rtl (97 ∷ 98 ∷ []) ≡ Some 2 ∷ Some 2 ∷ []
ab_levels_from_right law = (law small (97 ∷ 98 ∷ []) ab_is_left).1

ab_paragraph : LeftTextsHave Auto 0 0 → paragraph_level_under small Auto (97 ∷ 98 ∷ []) ≡ 0
ab_paragraph law = (law small (97 ∷ 98 ∷ []) ab_is_left).0

-- RLE LRI A: a Hebrew letter in an isolate in an embedding
hebrew_in_a_nest : LettersKeepDirection → IsOdd (level_at small Ltr (0x202b ∷ 0x2066 ∷ 0x5d0 ∷ []) 2)
hebrew_in_a_nest law = law small Ltr (0x202b ∷ 0x2066 ∷ 0x5d0 ∷ []) 2 refl

-- U+0627 1: a digit after an Arabic letter
digit_after_arabic : LettersKeepDirection → IsEven (level_at small Auto (0x627 ∷ 49 ∷ []) 1)
digit_after_arabic law = law small Auto (0x627 ∷ 49 ∷ []) 1 refl

-- A a, from right to left
latin_from_right : LettersKeepDirection → IsEven (level_at small Rtl (0x5d0 ∷ 97 ∷ []) 1)
latin_from_right law = law small Rtl (0x5d0 ∷ 97 ∷ []) 1 refl

-- RLO a and LRO A: the override's direction, and not the letter's
latin_under_override : OverridesGiveDirection → IsOdd (level_at small Ltr (0x202e ∷ 97 ∷ []) 1)
latin_under_override law = law small Ltr (0x202e ∷ 97 ∷ []) 1 (omega arith) refl

hebrew_under_override : OverridesGiveDirection → IsEven (level_at small Rtl (0x202d ∷ 0x5d0 ∷ []) 1)
hebrew_under_override law = law small Rtl (0x202d ∷ 0x5d0 ∷ []) 1 (omega arith) refl

-- RLO LRI a PDI !: the PDI and the ! after the isolate are under the override again
behind_isolate_in_override : OverridesGiveDirection
    → IsOdd (level_at small Ltr (0x202e ∷ 0x2066 ∷ 97 ∷ 0x2069 ∷ 33 ∷ []) 3) × IsOdd (level_at small Ltr (0x202e ∷ 0x2066 ∷ 97 ∷ 0x2069 ∷ 33 ∷ []) 4)
behind_isolate_in_override law =
    let chars : List ℕ = 0x202e ∷ 0x2066 ∷ 97 ∷ 0x2069 ∷ 33 ∷ [] in
    (law small Ltr chars 3 (omega arith) refl, law small Ltr chars 4 (omega arith) refl)

-- RLO LRI a: the isolate ends the override for the letter in it
latin_isolated_in_override : TypesKeepDirection → IsEven (level_at small Ltr (0x202e ∷ 0x2066 ∷ 97 ∷ []) 2)
latin_isolated_in_override law = law small Ltr (0x202e ∷ 0x2066 ∷ 97 ∷ []) 2
