-- The columns of a text that is one character, and characters after it that take none.
use Rattle.std.proofs.Common.{◌≡◌, ℕ, ◌+◌, ◌<◌, true, false, ◌&&◌, nat_lt, List, [], ◌∷◌}
use Rattle.std.proofs.Common.{drop, Option, Some, None, unwrap_or, refl, ap, sym, ◌∙◌, arith, zero-add}
use Rattle.std.specs.List.{list_all}
use Rattle.std.specs.Str.{chars}
use Rattle.std.proofs.lemmas.Bool.{and_parts}
use Rattle.std.proofs.lemmas.Bool.Decides.{nat_tests}
use Rattle.unicode_width.specs.declared.kind.Kind.{Kind}
use Rattle.unicode_width.specs.declared.kind.Kind.TheVariants as kinds
use Rattle.unicode_width.specs.Kind.{kind}
use Rattle.unicode_width.specs.Width.{plain, single, of_kind, alone, char_width, step, past_emoji, read_before, str_width}
use Rattle.bx_grid.specs.Columns.{are_ascii_printable}
use Rattle.bx_common.specs.Glyphs.{run_width}
use Rattle.bx_terminal.specs.Widths.{takes_none, is_still, IsBase}

step_high : (c : ℕ) → 0xA0 < c → step false c (0, plain) ≡ (0 + unwrap_or (char_width false c) 0, (alone false c).1)
unfolding step past_emoji char_width
step_high c h = grind (arith, nat_tests)

one_width : (c : ℕ) → 0xA0 < c → char_width false c ≡ Some (alone false c).0
unfolding char_width
one_width c h = grind (arith, nat_tests)

single_is : (c : ℕ) → c < 0xFE00 → (single false c).0 ≡ 0 → (single false c).1 ≡ plain
single_is c low h = grind (arith, nat_tests)

of_kind_is : (c : ℕ) (k : Kind) → c < 0xFE00 → (of_kind false c k).0 ≡ 0 → (of_kind false c k).1 ≡ plain
of_kind_is c kinds.Zero low h = refl
of_kind_is c kinds.Narrow low h = refl
of_kind_is c kinds.Wide low h = refl
of_kind_is c kinds.Ambiguous low h = refl
of_kind_is c kinds.Alef low h = absurd (cc h)
of_kind_is c kinds.KhmerLetter low h = absurd (cc h)
of_kind_is c kinds.TifinaghConsonant low h = absurd (cc h)
of_kind_is c kinds.LisuTone low h = absurd (cc h)
of_kind_is c kinds.RegionalIndicator low h = absurd (cc h)
of_kind_is c kinds.EmojiModifier low h = absurd (cc h)
of_kind_is c kinds.Emoji low h = absurd (cc h)
of_kind_is c kinds.Single low h = single_is c low h

none_is : (w : Option ℕ) (n : ℕ) → w ≡ Some n → takes_none w ≡ true → n ≡ 0
none_is None n e h = absurd (cc h)
none_is (Some m) n e h = let same : m ≡ n = cc e in grind (arith, nat_tests)

step_still : (c : ℕ) → is_still c ≡ true → step false c (0, plain) ≡ (0, plain)
unfolding alone
step_still c h =
    let parts = and_parts (nat_lt 0xA0 c && nat_lt c 0xFE00) (takes_none (char_width false c)) h in
    let sides = and_parts (nat_lt 0xA0 c) (nat_lt c 0xFE00) parts.0 in
    let high : 0xA0 < c = let t = sides.0 in grind (arith, nat_tests) in
    let low : c < 0xFE00 = let t = sides.1 in grind (arith, nat_tests) in
    let none : (alone false c).0 ≡ 0 = none_is (char_width false c) (alone false c).0 (one_width c high) parts.1 in
    step_high c high
    ∙ ap (λ w. (0 + unwrap_or w 0, (alone false c).1)) (one_width c high)
    ∙ ap (λ n. (0 + n, (alone false c).1)) none
    ∙ ap (λ s. (0, s)) (of_kind_is c (kind c) low none)

read_still : (ms : List ℕ) → list_all is_still ms ≡ true → read_before false ms (0, plain) ≡ (0, plain)
read_still [] h = refl
read_still (m ∷ ms) h =
    let parts = and_parts (is_still m) (list_all is_still ms) h in
    ap (step false m) (read_still ms parts.1) ∙ step_still m parts.0

cluster_is : (c n : ℕ) (ms : List ℕ) → 0xA0 < c → char_width false c ≡ Some n → list_all is_still ms ≡ true → str_width false (c ∷ ms) ≡ n
unfolding str_width
cluster_is c n ms h e still =
    ap (λ r. (step false c r).0) (read_still ms still)
    ∙ ap (λ r. r.0) (step_high c h) ∙ zero-add (unwrap_or (char_width false c) 0) ∙ ap (λ w. unwrap_or w 0) e

-- such a text takes its first character's columns
pub width_of_base : (text : List ℕ) (c n : ℕ) → are_ascii_printable text ≡ false → IsBase text c → char_width false c ≡ Some n → n ≡ run_width text
width_of_base text c n other base e =
    sym (rw other (ap (str_width false) base.first ∙ cluster_is c n (drop 1 (chars text)) base.high e base.still))
