-- The columns of a cluster that is one character that begins, and its marks.
use Rattle.std.proofs.Common.{◌≡◌, ℕ, true, false, nat_lt, List, [], ◌∷◌, refl, ap, ◌∙◌, arith}
use Rattle.std.specs.List.{list_all}
use Rattle.std.proofs.lemmas.Bool.{and_parts}
use Rattle.std.proofs.lemmas.Bool.Decides.{nat_tests}
use Rattle.unicode_width.specs.declared.kind.Kind.{Kind}
use Rattle.unicode_width.specs.declared.kind.Kind.TheVariants as kinds
use Rattle.unicode_width.specs.Kind.{kind}
use Rattle.unicode_width.specs.Width.{plain, of_kind, alone, added, char_width, step, past_emoji, read_before, str_width}
use Rattle.bx_rows.specs.cells.Simple.{is_shown, own_columns, begins, is_zero, is_mark}
use Rattle.bx_rows.proofs.cells_lemmas.SimpleBreaks.{Begins-from_test, IsMark-from_test}

zero_is_plain : (c : ℕ) (k : Kind) → is_zero k ≡ true → added 0 (of_kind false c k) ≡ (0, plain)
zero_is_plain c kinds.Zero h = refl
zero_is_plain c kinds.Narrow h = cc
zero_is_plain c kinds.Wide h = cc
zero_is_plain c kinds.Ambiguous h = cc
zero_is_plain c kinds.Alef h = cc
zero_is_plain c kinds.KhmerLetter h = cc
zero_is_plain c kinds.TifinaghConsonant h = cc
zero_is_plain c kinds.LisuTone h = cc
zero_is_plain c kinds.RegionalIndicator h = cc
zero_is_plain c kinds.EmojiModifier h = cc
zero_is_plain c kinds.Emoji h = cc
zero_is_plain c kinds.Single h = cc

step-high : (c : ℕ) → nat_lt 0xA0 c ≡ true → step false c (0, plain) ≡ added 0 (alone false c)
unfolding step past_emoji
step-high c h = grind (arith, nat_tests)

step-mark : (c : ℕ) → is_mark c ≡ true → step false c (0, plain) ≡ (0, plain)
unfolding alone
step-mark c h = let m = IsMark-from_test c h in step-high c m.high ∙ zero_is_plain c (kind c) m.zero_columns

read-marks : (ms : List ℕ) → list_all is_mark ms ≡ true → read_before false ms (0, plain) ≡ (0, plain)
read-marks [] h = refl
read-marks (m ∷ ms) h =
    let parts = and_parts (is_mark m) (list_all is_mark ms) h in ap (step false m) (read-marks ms parts.1) ∙ step-mark m parts.0

step-begins : (c : ℕ) → is_shown c ≡ true → (step false c (0, plain)).0 ≡ own_columns c
unfolding step past_emoji char_width
step-begins c h = grind (arith, nat_tests)

pub width-unit : (c : ℕ) (ms : List ℕ) → begins c ≡ true → list_all is_mark ms ≡ true → str_width false (c ∷ ms) ≡ own_columns c
unfolding str_width
width-unit c ms b h = ap (λ r. (step false c r).0) (read-marks ms h) ∙ step-begins c (Begins-from_test c b).shown
