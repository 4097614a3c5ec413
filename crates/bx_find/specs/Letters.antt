-- The letters that a search compares in place of characters: those that a reading gives each character. `ucd` is Unicode's data.
use Rattle.std.specs.Prelude.{ℕ, Bool, not, ◌||◌, ◌==◌, List, [], ◌∷◌, map, filter, flat_map, if◌then◌else◌}
use Rattle.std.specs.Char.{to_ascii_lowercase}
use Rattle.ucd_case.specs.CaseFolding.{full_fold}
use Rattle.unicode_normalization.specs.Forms.{nfd}
use Rattle.bx_ucd.specs.Data.{Data}
use Rattle.bx_ucd.specs.Class.{is_unlettered}
use Rattle.bx_common.specs.Characters.{is_direction_mark}
use Rattle.bx_find.specs.declared.letters.Reading.{Reading}
use Rattle.bx_find.specs.declared.letters.Reading.TheVariants.{Wide, Close}

-- ARABIC TATWEEL, which lengthens a stroke, or a directional mark: ALM, LRM or RLM
abbrev pub is_stroke_or_mark : ℕ → Bool
is_stroke_or_mark c = (c == 0x640) || is_direction_mark c

-- a character that a search passes over: of a class without a letter of its own, a directional mark or the tatweel
abbrev pub is_passed_over : Data → ℕ → Bool
is_passed_over ucd c = is_unlettered (ucd.class c) || is_stroke_or_mark c

-- Of letters that readers take for one another, the one that is compared: HEBREW KAF, MEM, NUN, PE and TSADI for their final
-- forms, ARABIC ALEF for ALEF WASLA, YEH for ALEF MAKSURA and FARSI YEH, KAF for KEHEH, HEH for TEH MARBUTA and HEH GOAL.
abbrev pub main_letter : ℕ → ℕ
main_letter c =
    if c == 0x5DA then 0x5DB else
    (if c == 0x5DD then 0x5DE else
    (if c == 0x5DF then 0x5E0 else
    (if c == 0x5E3 then 0x5E4 else
    (if c == 0x5E5 then 0x5E6 else
    (if c == 0x671 then 0x627 else
    (if c == 0x649 then 0x64A else
    (if c == 0x6CC then 0x64A else
    (if c == 0x6A9 then 0x643 else
    (if c == 0x629 then 0x647 else
    (if c == 0x6C1 then 0x647 else c))))))))))

-- the letters of a part of a decomposition: its case folded in full, each as its main letter
abbrev pub folded : ℕ → List ℕ
folded c = map main_letter (full_fold c)

-- the letters of the parts of a decomposition that are not passed over
abbrev pub letters_of_parts : Data → List ℕ → List ℕ
letters_of_parts ucd parts = flat_map folded (filter (λ d. not (is_passed_over ucd d)) parts)

-- The letters of a character. Widely read, those of its canonical decomposition (NFD). Closely read, the character itself, with
-- U+0041..U+005A as U+0061..U+007A, or none if it is passed over.
abbrev pub letters_of : Data → Reading → ℕ → List ℕ
letters_of ucd Wide c = letters_of_parts ucd (nfd (c ∷ []))
letters_of ucd Close c = if is_passed_over ucd c then [] else to_ascii_lowercase c ∷ []

-- the letters of characters, in order
abbrev pub letters : Data → Reading → List ℕ → List ℕ
letters ucd reading cs = flat_map (letters_of ucd reading) cs
