-- The bytes of a character, by its lead byte, and the character that they encode.
use Rattle.std.proofs.Common.{◌≡◌, ℕ, ◌+◌, ◌-◌, ◌*◌, ◌<◌, ◌≤◌, inl, inr, true, false, cond, nat_eq, nat_lt, List, [], ◌∷◌, ◌++◌, length, get_or, refl, sym, ◌∙◌}
use Rattle.std.proofs.Common.{arith}
use Rattle.std.specs.Char.{InScalarRange}
use Rattle.std.specs.Str.{chars}
use Rattle.std.proofs.lemmas.Bool.{cases_lt}
use Rattle.std.proofs.lemmas.Bool.Decides.{nat_tests}
use Rattle.bx_bytes.specs.Pattern.{fate_in, Piece, One}
use Rattle.bx_bytes.specs.Utf8.{characters, trail}
use Rattle.bx_bytes.specs.declared.fate.Fate.TheVariants.{Ends, Breaks}

-- the second byte, by the first
abbrev second : ℕ → Piece
second a = One (cond (nat_eq a 0xE0) 0xA0 (cond (nat_eq a 0xF0) 0x90 0x80)) (cond (nat_eq a 0xED) 0x9F (cond (nat_eq a 0xF4) 0x8F 0xBF))

pub after_two : (a : ℕ) (rest : List ℕ) → 0xC2 ≤ a → a ≤ 0xDF → fate_in characters (a ∷ rest) ≡ fate_in ((trail ∷ []) ∷ []) rest
after_two a rest l h = grind (arith, nat_tests)

pub after_three : (a : ℕ) (rest : List ℕ) → 0xE0 ≤ a → a ≤ 0xEF → fate_in characters (a ∷ rest) ≡ fate_in ((second a ∷ trail ∷ []) ∷ []) rest
after_three a rest l h = grind (arith, nat_tests)

pub after_four : (a : ℕ) (rest : List ℕ) → 0xF0 ≤ a → a ≤ 0xF4 → fate_in characters (a ∷ rest) ≡ fate_in ((second a ∷ trail ∷ trail ∷ []) ∷ []) rest
after_four a rest l h = grind (arith, nat_tests)

pub after_low : (a b : ℕ) (rest : List ℕ) → a < 0xC2 → fate_in characters (a ∷ b ∷ rest) ≡ Breaks
after_low a b rest h = grind (arith, nat_tests)

pub after_high : (a b : ℕ) (rest : List ℕ) → 0xF4 < a → fate_in characters (a ∷ b ∷ rest) ≡ Breaks
after_high a b rest h = grind (arith, nat_tests)

pub chars_of_one : (a : ℕ) → fate_in characters (a ∷ []) ≡ Ends → chars (a ∷ []) ≡ a ∷ []
unfolding chars
chars_of_one a h = grind (arith, nat_tests)

pub chars_of_two : (a b : ℕ) → fate_in characters (a ∷ b ∷ []) ≡ Ends → chars (a ∷ b ∷ []) ≡ ((a - 0xC0) * 64 + (b - 0x80)) ∷ []
unfolding chars
chars_of_two a b h = grind (arith, nat_tests)

-- ---- whole characters of three bytes

lead_of_three : (a b c : ℕ) → fate_in characters (a ∷ b ∷ c ∷ []) ≡ Ends → (0xE0 ≤ a) × (a ≤ 0xEF)
lead_of_three a b c h = elim (cases_lt a 0xC2) [
  | inl low ↦ absurd (let e : Breaks ≡ Ends = sym (after_low a b (c ∷ []) low) ∙ h in cc e)
  | inr more ↦ elim (cases_lt a 0xE0) [
    | inl two ↦ absurd (let e = sym (after_two a (b ∷ c ∷ []) more (omega arith)) ∙ h in grind (arith, nat_tests, e))
    | inr three ↦ elim (cases_lt 0xEF a) [
      | inr fits ↦ (three, fits)
      | inl four ↦ elim (cases_lt 0xF4 a) [
        | inl high ↦ absurd (let e : Breaks ≡ Ends = sym (after_high a b (c ∷ []) high) ∙ h in cc e)
        | inr leads ↦ absurd (let e = sym (after_four a (b ∷ c ∷ []) (omega arith) leads) ∙ h in grind (arith, nat_tests, e))
      ]
    ]
  ]
]

pub record IsOfThree (a b c : ℕ) : Type 0 where
  pub lead_low : 0xE0 ≤ a
  pub lead_high : a ≤ 0xEF
  pub second_low : cond (nat_eq a 0xE0) 0xA0 0x80 ≤ b
  pub second_high : b ≤ cond (nat_eq a 0xED) 0x9F 0xBF
  pub third_low : 0x80 ≤ c
  pub third_high : c ≤ 0xBF

three_tests : (a b c : ℕ) → 0xE0 ≤ a → a ≤ 0xEF → fate_in ((second a ∷ trail ∷ []) ∷ []) (b ∷ c ∷ []) ≡ Ends → IsOfThree a b c
three_tests a b c l h e = record {
  lead_low = l;
  lead_high = h;
  second_low = grind (arith, nat_tests);
  second_high = grind (arith, nat_tests);
  third_low = grind (arith, nat_tests);
  third_high = grind (arith, nat_tests);
}

pub parts_of_three : (a b c : ℕ) → fate_in characters (a ∷ b ∷ c ∷ []) ≡ Ends → IsOfThree a b c
parts_of_three a b c h =
    let lead = lead_of_three a b c h in
    three_tests a b c lead.0 lead.1 (sym (after_three a (b ∷ c ∷ []) lead.0 lead.1) ∙ h)

abbrev pub code_of_three : ℕ → ℕ → ℕ → ℕ
code_of_three a b c = ((a - 0xE0) * 64 + (b - 0x80)) * 64 + (c - 0x80)

scalar_of_three : (a b c : ℕ) → IsOfThree a b c → InScalarRange (code_of_three a b c)
scalar_of_three a b c p = elim (cases_lt (code_of_three a b c) 0xD800) [
  | inl low ↦ inl low
  | inr high ↦ inr (grind (arith, nat_tests, p.second_high, p.lead_low, p.third_high), grind (arith, nat_tests, p.lead_high, p.second_high, p.third_high))
]

chars_by_three : (a b c : ℕ) → IsOfThree a b c → chars (a ∷ b ∷ c ∷ []) ≡ code_of_three a b c ∷ []
unfolding chars
chars_by_three a b c p =
    let one : nat_lt a 128 ≡ false = grind (arith, nat_tests, p.lead_low) in
    let two : nat_lt a 224 ≡ false = grind (arith, nat_tests, p.lead_low) in
    let three : nat_lt a 240 ≡ true = grind (arith, nat_tests, p.lead_high) in
    rw (one, two, three) refl

pub chars_of_three : (a b c : ℕ) → fate_in characters (a ∷ b ∷ c ∷ []) ≡ Ends → chars (a ∷ b ∷ c ∷ []) ≡ code_of_three a b c ∷ []
chars_of_three a b c h = chars_by_three a b c (parts_of_three a b c h)

pub code_of_three_fits : (a b c : ℕ) → fate_in characters (a ∷ b ∷ c ∷ []) ≡ Ends → InScalarRange (code_of_three a b c)
code_of_three_fits a b c h = scalar_of_three a b c (parts_of_three a b c h)

pub bytes_of_three : (a b c : ℕ) → fate_in characters (a ∷ b ∷ c ∷ []) ≡ Ends → (0xE0 ≤ a) × (0x80 ≤ b) × (0x80 ≤ c)
bytes_of_three a b c h =
    let p = parts_of_three a b c h in
    (p.lead_low, grind (arith, nat_tests, p.second_low), p.third_low)

-- ---- whole characters of four bytes

lead_of_four : (a b c d : ℕ) → fate_in characters (a ∷ b ∷ c ∷ d ∷ []) ≡ Ends → (0xF0 ≤ a) × (a ≤ 0xF4)
lead_of_four a b c d h = elim (cases_lt a 0xC2) [
  | inl low ↦ absurd (let e : Breaks ≡ Ends = sym (after_low a b (c ∷ d ∷ []) low) ∙ h in cc e)
  | inr more ↦ elim (cases_lt a 0xE0) [
    | inl two ↦ absurd (let e = sym (after_two a (b ∷ c ∷ d ∷ []) more (omega arith)) ∙ h in grind (arith, nat_tests, e))
    | inr three ↦ elim (cases_lt 0xEF a) [
      | inr fits ↦ absurd (let e = sym (after_three a (b ∷ c ∷ d ∷ []) three fits) ∙ h in grind (arith, nat_tests, e))
      | inl four ↦ elim (cases_lt 0xF4 a) [
        | inl high ↦ absurd (let e : Breaks ≡ Ends = sym (after_high a b (c ∷ d ∷ []) high) ∙ h in cc e)
        | inr leads ↦ (four, leads)
      ]
    ]
  ]
]

pub record IsOfFour (a b c d : ℕ) : Type 0 where
  pub lead_low : 0xF0 ≤ a
  pub lead_high : a ≤ 0xF4
  pub second_low : cond (nat_eq a 0xF0) 0x90 0x80 ≤ b
  pub second_high : b ≤ cond (nat_eq a 0xF4) 0x8F 0xBF
  pub third_low : 0x80 ≤ c
  pub third_high : c ≤ 0xBF
  pub fourth_low : 0x80 ≤ d
  pub fourth_high : d ≤ 0xBF

four_tests : (a b c d : ℕ) → 0xF0 ≤ a → a ≤ 0xF4 → fate_in ((second a ∷ trail ∷ trail ∷ []) ∷ []) (b ∷ c ∷ d ∷ []) ≡ Ends → IsOfFour a b c d
four_tests a b c d l h e = record {
  lead_low = l;
  lead_high = h;
  second_low = grind (arith, nat_tests);
  second_high = grind (arith, nat_tests);
  third_low = grind (arith, nat_tests);
  third_high = grind (arith, nat_tests);
  fourth_low = grind (arith, nat_tests);
  fourth_high = grind (arith, nat_tests);
}

pub parts_of_four : (a b c d : ℕ) → fate_in characters (a ∷ b ∷ c ∷ d ∷ []) ≡ Ends → IsOfFour a b c d
parts_of_four a b c d h =
    let lead = lead_of_four a b c d h in
    four_tests a b c d lead.0 lead.1 (sym (after_four a (b ∷ c ∷ d ∷ []) lead.0 lead.1) ∙ h)

abbrev pub code_of_four : ℕ → ℕ → ℕ → ℕ → ℕ
code_of_four a b c d = (((a - 0xF0) * 64 + (b - 0x80)) * 64 + (c - 0x80)) * 64 + (d - 0x80)

scalar_of_four : (a b c d : ℕ) → IsOfFour a b c d → InScalarRange (code_of_four a b c d)
scalar_of_four a b c d p =
    inr (grind (arith, nat_tests, p.lead_low, p.second_low), grind (arith, nat_tests, p.lead_high, p.second_high, p.third_high, p.fourth_high))

chars_by_four : (a b c d : ℕ) → IsOfFour a b c d → chars (a ∷ b ∷ c ∷ d ∷ []) ≡ code_of_four a b c d ∷ []
unfolding chars
chars_by_four a b c d p =
    let one : nat_lt a 128 ≡ false = grind (arith, nat_tests, p.lead_low) in
    let two : nat_lt a 224 ≡ false = grind (arith, nat_tests, p.lead_low) in
    let three : nat_lt a 240 ≡ false = grind (arith, nat_tests, p.lead_low) in
    rw (one, two, three) refl

pub chars_of_four : (a b c d : ℕ) → fate_in characters (a ∷ b ∷ c ∷ d ∷ []) ≡ Ends → chars (a ∷ b ∷ c ∷ d ∷ []) ≡ code_of_four a b c d ∷ []
chars_of_four a b c d h = chars_by_four a b c d (parts_of_four a b c d h)

pub code_of_four_fits : (a b c d : ℕ) → fate_in characters (a ∷ b ∷ c ∷ d ∷ []) ≡ Ends → InScalarRange (code_of_four a b c d)
code_of_four_fits a b c d h = scalar_of_four a b c d (parts_of_four a b c d h)

pub bytes_of_four : (a b c d : ℕ) → fate_in characters (a ∷ b ∷ c ∷ d ∷ []) ≡ Ends → (0xF0 ≤ a) × (0x80 ≤ b) × (0x80 ≤ c) × (0x80 ≤ d)
bytes_of_four a b c d h =
    let p = parts_of_four a b c d h in
    (p.lead_low, grind (arith, nat_tests, p.second_low), p.third_low, p.fourth_low)

-- ---- no character is longer

pub too_long : (a b c d e : ℕ) (rest : List ℕ) → fate_in characters (a ∷ b ∷ c ∷ d ∷ e ∷ rest) ≡ Breaks
too_long a b c d e rest = elim (cases_lt a 0xC2) [
  | inl low ↦ after_low a b (c ∷ d ∷ e ∷ rest) low
  | inr more ↦ elim (cases_lt a 0xE0) [
    | inl two ↦ after_two a (b ∷ c ∷ d ∷ e ∷ rest) more (omega arith) ∙ grind (arith, nat_tests)
    | inr three ↦ elim (cases_lt 0xEF a) [
      | inr fits ↦ after_three a (b ∷ c ∷ d ∷ e ∷ rest) three fits ∙ grind (arith, nat_tests)
      | inl four ↦ elim (cases_lt 0xF4 a) [
        | inl high ↦ after_high a b (c ∷ d ∷ e ∷ rest) high
        | inr leads ↦ after_four a (b ∷ c ∷ d ∷ e ∷ rest) (omega arith) leads ∙ grind (arith, nat_tests)
      ]
    ]
  ]
]

-- three bytes that a fourth completes
pub three_before : (xs : List ℕ) (b : ℕ) → 3 ≤ length xs → fate_in characters (xs ++ b ∷ []) ≡ Ends → xs ≡ get_or xs 0 0 ∷ get_or xs 1 0 ∷ get_or xs 2 0 ∷ []
three_before [] b l h = absurd (omega arith)
three_before (x ∷ []) b l h = absurd (omega arith)
three_before (x ∷ y ∷ []) b l h = absurd (omega arith)
three_before (x ∷ y ∷ z ∷ []) b l h = refl
three_before (x ∷ y ∷ z ∷ u ∷ []) b l h = absurd (let e : Breaks ≡ Ends = sym (too_long x y z u b []) ∙ h in cc e)
three_before (x ∷ y ∷ z ∷ u ∷ v ∷ xs) b l h = absurd (let e : Breaks ≡ Ends = sym (too_long x y z u v (xs ++ b ∷ [])) ∙ h in cc e)

pub ruleset of_three = (chars_of_three, code_of_three_fits, bytes_of_three)

pub ruleset of_four = (chars_of_four, code_of_four_fits, bytes_of_four)
