-- Worked examples: what is told of units, by the classes of the small tables.
use Rattle.std.proofs.Common.{◌≡◌, ℕ, List, [], ◌∷◌, ◌++◌, map, replicate, Option, Some, None, refl}
use Rattle.std.specs.Prelude.{codes}
use Rattle.std.specs.Fmt.{digits}
use Rattle.bx_ucd.specs.SmallTables.{small}
use Rattle.bx_editor.specs.questions.Told.{code_text, told_text}

codes_of_any_length : map code_text (0 ∷ 0xA ∷ 0x5D0 ∷ 0x2067 ∷ 0xFFFF ∷ 0x10000 ∷ 0x1F600 ∷ 0xFFFFF ∷ 0x100000 ∷ 0x10FFFD ∷ [])
    ≡ codes "0000" ∷ codes "000A" ∷ codes "05D0" ∷ codes "2067" ∷ codes "FFFF" ∷ codes "10000" ∷ codes "1F600" ∷ codes "FFFFF"
    ∷ codes "100000" ∷ codes "10FFFD" ∷ []
codes_of_any_length = refl

-- separators and removed characters have no level
without_a_level : told_text small (0xD ∷ 0xA ∷ []) None ++ codes ", " ++ told_text small (1 ∷ []) None ++ codes ", " ++ told_text small (0x202B ∷ []) None
    ≡ codes "U+000D B U+000A B, U+0001 BN, U+202B RLE"
without_a_level = refl

-- four characters at most
four_characters : told_text small (0x61 ∷ replicate 3 0x301) None ≡ codes "U+0061 L U+0301 NSM U+0301 NSM U+0301 NSM"
four_characters = refl

five_characters : told_text small (0x61 ∷ replicate 4 0x301) None ≡ codes "U+0061 L U+0301 NSM U+0301 NSM U+0301 NSM ..."
five_characters = refl

-- a letter with its point, a blank, a number
with_a_level : told_text small (0x5D0 ∷ 0x301 ∷ []) (Some 1) ++ codes ", " ++ told_text small (0x20 ∷ []) (Some 1) ++ codes ", "
    ++ told_text small (0x31 ∷ []) (Some 2)
    ≡ codes "U+05D0 R U+0301 NSM level 1, U+0020 WS level 1, U+0031 EN level 2"
unfolding digits
with_a_level = refl
