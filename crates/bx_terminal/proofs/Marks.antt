-- Marks and letters that are known without the tables.
use Rattle.std.proofs.Common.{◌≡◌, ℕ, ◌+◌, ◌<◌, ◌≤◌, Bool, true, false, nat_eq, Option, Some, None, ◌&&◌, ◌||◌}
use Rattle.std.proofs.Common.{zero, suc, refl, subst, ap, sym, inl, inr, arith}
use Rattle.std.proofs.lemmas.Bool.{and_parts, cases_lt}
use Rattle.std.proofs.lemmas.Bool.Decides.{nat_tests}
use Rattle.unicode_width.proofs.Computing.{unicode_width}
use Rattle.bx_common.specs.Characters.{is_within}
use Rattle.bx_terminal.specs.Widths.{is_still, is_mark, is_letter}
use Rattle.unicode_width.specs.Width.{char_width}

-- n characters from c on pass the test
all_from : (ℕ → Bool) → ℕ → ℕ → Bool
all_from p c zero = true
all_from p c (suc n) = p c && all_from p (suc c) n

told_from : (p : ℕ → Bool) (c n k : ℕ) → all_from p c n ≡ true → c ≤ k → k < c + n → p k ≡ true
unfolding all_from
told_from p c zero k h low high = absurd (omega arith)
told_from p c (suc n) k h low high =
    let parts = and_parts (p c) (all_from p (suc c) n) h in
    elim (cases_lt c k) [
      | inl below ↦ told_from p (suc c) n k parts.1 (omega arith) (omega arith)
      | inr least ↦ subst (λ m. p m ≡ true) (let e : c ≡ k = omega arith in e) parts.0
    ]

bounds : (low high c : ℕ) → is_within low high c ≡ true → (low ≤ c) × (c ≤ high)
bounds low high c h = (grind (arith, nat_tests), grind (arith, nat_tests))

-- ---- marks

latin_marks : all_from is_still 0x300 112 ≡ true
unfolding unicode_width all_from
latin_marks = refl

hebrew_marks : all_from is_still 0x591 45 ≡ true
unfolding unicode_width all_from
hebrew_marks = refl

hebrew_dots : all_from is_still 0x5C1 2 ≡ true
unfolding unicode_width all_from
hebrew_dots = refl

arabic_marks : all_from is_still 0x64B 21 ≡ true
unfolding unicode_width all_from
arabic_marks = refl

mark_by : (a b d e : Bool) (c : ℕ) → is_within 0x300 0x36F c ≡ a → is_within 0x591 0x5BD c ≡ b → is_within 0x5C1 0x5C2 c ≡ d → is_within 0x64B 0x65F c ≡ e
    → ((a || b) || d) || e ≡ true → is_still c ≡ true
mark_by true b d e c ha hb hd he h = let at = bounds 0x300 0x36F c ha in told_from is_still 0x300 112 c latin_marks at.0 (omega arith)
mark_by false true d e c ha hb hd he h = let at = bounds 0x591 0x5BD c hb in told_from is_still 0x591 45 c hebrew_marks at.0 (omega arith)
mark_by false false true e c ha hb hd he h = let at = bounds 0x5C1 0x5C2 c hd in told_from is_still 0x5C1 2 c hebrew_dots at.0 (omega arith)
mark_by false false false true c ha hb hd he h = let at = bounds 0x64B 0x65F c he in told_from is_still 0x64B 21 c arabic_marks at.0 (omega arith)
mark_by false false false false c ha hb hd he h = absurd (cc h)

pub mark_still : (c : ℕ) → is_mark c ≡ true → true ≡ is_still c
mark_still c h =
    sym (mark_by (is_within 0x300 0x36F c) (is_within 0x591 0x5BD c) (is_within 0x5C1 0x5C2 c) (is_within 0x64B 0x65F c) c refl refl refl refl h)

-- ---- letters

takes_one : Option ℕ → Bool
takes_one (Some n) = nat_eq n 1
takes_one None = false

is_narrow : ℕ → Bool
is_narrow c = takes_one (char_width false c)

one_is : (w : Option ℕ) → takes_one w ≡ true → Some 1 ≡ w
unfolding takes_one
one_is None h = absurd (cc h)
one_is (Some n) h = let e : 1 ≡ n = grind (arith, nat_tests) in ap Some e

narrow_is : (c : ℕ) → is_narrow c ≡ true → Some 1 ≡ char_width false c
unfolding is_narrow
narrow_is c h = one_is (char_width false c) h

latin_letters : all_from is_narrow 0xC0 64 ≡ true
unfolding unicode_width all_from is_narrow takes_one
latin_letters = refl

cyrillic_letters : all_from is_narrow 0x410 64 ≡ true
unfolding unicode_width all_from is_narrow takes_one
cyrillic_letters = refl

hebrew_letters : all_from is_narrow 0x5D0 48 ≡ true
unfolding unicode_width all_from is_narrow takes_one
hebrew_letters = refl

arabic_letters : all_from is_narrow 0x620 43 ≡ true
unfolding unicode_width all_from is_narrow takes_one
arabic_letters = refl

letter_by : (a b d e : Bool) (c : ℕ) → is_within 0xC0 0xFF c ≡ a → is_within 0x410 0x44F c ≡ b → is_within 0x5D0 0x5FF c ≡ d → is_within 0x620 0x64A c ≡ e
    → ((a || b) || d) || e ≡ true → is_narrow c ≡ true
letter_by true b d e c ha hb hd he h = let at = bounds 0xC0 0xFF c ha in told_from is_narrow 0xC0 64 c latin_letters at.0 (omega arith)
letter_by false true d e c ha hb hd he h = let at = bounds 0x410 0x44F c hb in told_from is_narrow 0x410 64 c cyrillic_letters at.0 (omega arith)
letter_by false false true e c ha hb hd he h = let at = bounds 0x5D0 0x5FF c hd in told_from is_narrow 0x5D0 48 c hebrew_letters at.0 (omega arith)
letter_by false false false true c ha hb hd he h = let at = bounds 0x620 0x64A c he in told_from is_narrow 0x620 43 c arabic_letters at.0 (omega arith)
letter_by false false false false c ha hb hd he h = absurd (cc h)

pub letter_narrow : (c : ℕ) → is_letter c ≡ true → Some 1 ≡ char_width false c
letter_narrow c h = narrow_is c
    (letter_by (is_within 0xC0 0xFF c) (is_within 0x410 0x44F c) (is_within 0x5D0 0x5FF c) (is_within 0x620 0x64A c) c refl refl refl refl h)
