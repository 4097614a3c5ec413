-- Rows that follow from the laws alone, for any answer that meets them.
use Rattle.std.proofs.Common.{◌≡◌, ℕ, zero, suc, ◌<◌, ◌≤◌, Bool, true, false, ◌||◌, List, [], ◌∷◌, Option, Some, None, refl, ap, arith}
use Rattle.std.specs.Prelude.{codes, MatchOption}
use Rattle.std.specs.Str.{chars}
use Rattle.std.specs.Char.{encode_utf8}
use Rattle.bx_ucd.specs.Data.{Data}
use Rattle.bx_ucd.specs.SmallTables.{small}
use Rattle.bx_find.specs.Nearest.{IsFirst, IsLast, MatchesAt}
use Rattle.bx_ucd.specs.Class.{is_unlettered}
use Rattle.bx_find.specs.Letters.{is_passed_over}
use Rattle.bx_find.specs.declared.letters.Reading.TheVariants.{Close}

-- ---- whatever the tables say

or_true : (b : Bool) → b || true ≡ true
or_true true = refl
or_true false = refl

tatweel_is_passed_over : (ucd : Data) → is_passed_over ucd 0x640 ≡ true
tatweel_is_passed_over ucd = or_true (is_unlettered (ucd.class 0x640))

arabic_mark_is_passed_over : (ucd : Data) → is_passed_over ucd 0x61c ≡ true
arabic_mark_is_passed_over ucd = or_true (is_unlettered (ucd.class 0x61c))

left_mark_is_passed_over : (ucd : Data) → is_passed_over ucd 0x200e ≡ true
left_mark_is_passed_over ucd = or_true (is_unlettered (ucd.class 0x200e))

right_mark_is_passed_over : (ucd : Data) → is_passed_over ucd 0x200f ≡ true
right_mark_is_passed_over ucd = or_true (is_unlettered (ucd.class 0x200f))

-- ---- by the small tables' classes: accents, boundary neutrals, each directional formatting character, and no letter

accents_are_passed_over : (is_passed_over small 0x300 ≡ true) × (is_passed_over small 0x301 ≡ true) × (is_passed_over small 0x36f ≡ true)
accents_are_passed_over = (refl, refl, refl)

boundary_neutrals_are_passed_over : (is_passed_over small 0x0 ≡ true) × (is_passed_over small 0x8 ≡ true)
boundary_neutrals_are_passed_over = (refl, refl)

embeddings_are_passed_over : (is_passed_over small 0x202a ≡ true) × (is_passed_over small 0x202b ≡ true) × (is_passed_over small 0x202c ≡ true)
embeddings_are_passed_over = (refl, refl, refl)

overrides_are_passed_over : (is_passed_over small 0x202d ≡ true) × (is_passed_over small 0x202e ≡ true)
overrides_are_passed_over = (refl, refl)

isolates_are_passed_over : (is_passed_over small 0x2066 ≡ true) × (is_passed_over small 0x2067 ≡ true)
    × (is_passed_over small 0x2068 ≡ true) × (is_passed_over small 0x2069 ≡ true)
isolates_are_passed_over = (refl, refl, refl, refl)

letters_are_not : (is_passed_over small 0x61 ≡ false) × (is_passed_over small 0x5d0 ≡ false) × (is_passed_over small 0x628 ≡ false)
letters_are_not = (refl, refl, refl)

spaces_and_digits_are_not : (is_passed_over small 0x20 ≡ false) × (is_passed_over small 0x9 ≡ false)
    × (is_passed_over small 0x30 ≡ false) × (is_passed_over small 0x660 ≡ false)
spaces_and_digits_are_not = (refl, refl, refl, refl)

-- ---- the nearest matches of `ab` in x, a, U+0301, b, a, b

-- the text's bytes
abbrev text : List ℕ
text = 0x78 ∷ 0x61 ∷ 0xcc ∷ 0x81 ∷ 0x62 ∷ 0x61 ∷ 0x62 ∷ []

abbrev Matches : ℕ → Type 0
Matches at = MatchesAt small Close (codes "ab") text at

across_the_accent : Matches 1
unfolding chars encode_utf8
across_the_accent = ((omega arith, λ h big. absurd (omega (arith, big))), refl)

behind_it : Matches 5
unfolding chars encode_utf8
behind_it = ((omega arith, λ h big. absurd (omega (arith, big))), refl)

not_at_the_start : ¬ (Matches 0)
unfolding chars encode_utf8
not_at_the_start m = let e : false ≡ true = m.1 in absurd (cc)

not_at_2 : ¬ (Matches 2)
unfolding chars encode_utf8
not_at_2 m = let e : false ≡ true = m.1 in absurd (cc)

not_at_3 : ¬ (Matches 3)
unfolding chars encode_utf8
not_at_3 m = let h : 192 ≤ 0x81 = m.0.1 (omega arith) (omega arith) in absurd (omega (arith, h))

not_at_4 : ¬ (Matches 4)
unfolding chars encode_utf8
not_at_4 m = let e : false ≡ true = m.1 in absurd (cc)

-- what the law of the first match says of an answer from an offset on
abbrev AnswersFrom : ℕ → Option ℕ → Type 0
AnswersFrom x answer = MatchOption answer ((i : ℕ) → x ≤ i → ¬ (Matches i)) (IsFirst small Close (codes "ab") text x)

first_is_1 : (at : ℕ) → at ≤ 1 → Matches at → at ≡ 1
first_is_1 zero h m = absurd (not_at_the_start m)
first_is_1 (suc zero) h m = refl
first_is_1 (suc (suc at)) h m = absurd (omega (arith, h))

from_the_start : (answer : Option ℕ) → AnswersFrom 0 answer → answer ≡ Some 1
from_the_start None none = absurd (none 1 (omega arith) across_the_accent)
from_the_start (Some at) first = ap Some (first_is_1 at (first.least 1 (omega arith) across_the_accent) first.is_match)

next_is_5 : (at : ℕ) → 2 ≤ at → at ≤ 5 → Matches at → at ≡ 5
next_is_5 zero h upto m = absurd (omega (arith, h))
next_is_5 (suc zero) h upto m = absurd (omega (arith, h))
next_is_5 (suc (suc zero)) h upto m = absurd (not_at_2 m)
next_is_5 (suc (suc (suc zero))) h upto m = absurd (not_at_3 m)
next_is_5 (suc (suc (suc (suc zero)))) h upto m = absurd (not_at_4 m)
next_is_5 (suc (suc (suc (suc (suc zero))))) h upto m = refl
next_is_5 (suc (suc (suc (suc (suc (suc at)))))) h upto m = absurd (omega (arith, upto))

from_2 : (answer : Option ℕ) → AnswersFrom 2 answer → answer ≡ Some 5
from_2 None none = absurd (none 5 (omega arith) behind_it)
from_2 (Some at) first = ap Some (next_is_5 at first.not_before (first.least 5 (omega arith) behind_it) first.is_match)

-- what the law of the last match says of an answer before an offset
abbrev AnswersBefore : ℕ → Option ℕ → Type 0
AnswersBefore x answer = MatchOption answer ((i : ℕ) → i < x → ¬ (Matches i)) (IsLast small Close (codes "ab") text x)

last_is_1 : (at : ℕ) → 1 ≤ at → at < 5 → Matches at → at ≡ 1
last_is_1 zero h upto m = absurd (omega (arith, h))
last_is_1 (suc zero) h upto m = refl
last_is_1 (suc (suc zero)) h upto m = absurd (not_at_2 m)
last_is_1 (suc (suc (suc zero))) h upto m = absurd (not_at_3 m)
last_is_1 (suc (suc (suc (suc zero)))) h upto m = absurd (not_at_4 m)
last_is_1 (suc (suc (suc (suc (suc at))))) h upto m = absurd (omega (arith, upto))

-- a match at the bound is not before it
before_5 : (answer : Option ℕ) → AnswersBefore 5 answer → answer ≡ Some 1
before_5 None none = absurd (none 1 (omega arith) across_the_accent)
before_5 (Some at) last = ap Some (last_is_1 at (last.greatest 1 (omega arith) across_the_accent) last.before last.is_match)
