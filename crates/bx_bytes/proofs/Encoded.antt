-- The rows of UTF-8 match exactly the encodings of the scalar values.
use Rattle.std.proofs.Common.{◌≡◌, ℕ, ◌+◌, ◌-◌, ◌*◌, ◌/◌, ◌%◌, ◌<◌, ◌≤◌, ◌⊎◌, inl, inr, Bool, true, false, cond, nat_eq, nat_lt, List, [], ◌∷◌, refl, ap, sym}
use Rattle.std.proofs.Common.{◌∙◌, arith}
use Rattle.std.specs.Char.{IsScalar, InScalarRange, encode_utf8}
use Rattle.std.proofs.lemmas.Bool.{cases_lt, cond-true}
use Rattle.std.proofs.lemmas.Bool.Decides.{nat_tests}
use lib.Utf8.{encode, scalar_cases}
use Rattle.bx_bytes.specs.Pattern.{fate_in, begins_any}
use Rattle.bx_bytes.specs.Utf8.{characters}
use Rattle.bx_bytes.specs.Grammar.{is_character, AreEncodings}
use Rattle.bx_bytes.specs.declared.fate.Fate.TheVariants.{Waits, Ends, Breaks}
use Rattle.bx_bytes.proofs.Codes.{IsOfThree, IsOfFour, parts_of_three, parts_of_four, after_two, after_three, after_four, code_of_three, code_of_four}
use Rattle.bx_bytes.proofs.Codes.{code_of_three_fits, code_of_four_fits, too_long}

-- the first bytes of a character, or all of them
abbrev pub begins_character : List ℕ → Bool
begins_character bs = begins_any characters bs

-- ---- the rows, by fates

pub ends_by : (m b : Bool) → cond m Ends (cond b Waits Breaks) ≡ Ends → m ≡ true
ends_by true b h = refl
ends_by false true h = absurd (cc h)
ends_by false false h = absurd (cc h)

pub is_whole : (bs : List ℕ) → fate_in characters bs ≡ Ends → is_character bs ≡ true
is_whole bs h = ends_by (is_character bs) (begins_any characters bs) h

pub ends : (bs : List ℕ) → is_character bs ≡ true → fate_in characters bs ≡ Ends
ends bs h = cond-true (is_character bs) Ends _ h

two_end : (a b : ℕ) → 0xC2 ≤ a → a ≤ 0xDF → 0x80 ≤ b → b ≤ 0xBF → fate_in characters (a ∷ b ∷ []) ≡ Ends
two_end a b l h m n = after_two a (b ∷ []) l h ∙ grind (arith, nat_tests)

three_end : (a b c : ℕ) → IsOfThree a b c → fate_in characters (a ∷ b ∷ c ∷ []) ≡ Ends
three_end a b c p =
    let low : cond (nat_eq a 0xE0) 0xA0 (cond (nat_eq a 0xF0) 0x90 0x80) ≤ b = grind (arith, nat_tests, p.second_low, p.lead_high) in
    let high : b ≤ cond (nat_eq a 0xED) 0x9F (cond (nat_eq a 0xF4) 0x8F 0xBF) = grind (arith, nat_tests, p.second_high, p.lead_high) in
    after_three a (b ∷ c ∷ []) p.lead_low p.lead_high ∙ grind (arith, nat_tests, low, high, p.third_low, p.third_high)

four_end : (a b c d : ℕ) → IsOfFour a b c d → fate_in characters (a ∷ b ∷ c ∷ d ∷ []) ≡ Ends
four_end a b c d p =
    let low : cond (nat_eq a 0xE0) 0xA0 (cond (nat_eq a 0xF0) 0x90 0x80) ≤ b = grind (arith, nat_tests, p.second_low, p.lead_low) in
    let high : b ≤ cond (nat_eq a 0xED) 0x9F (cond (nat_eq a 0xF4) 0x8F 0xBF) = grind (arith, nat_tests, p.second_high, p.lead_low) in
    after_four a (b ∷ c ∷ d ∷ []) p.lead_low p.lead_high ∙ grind (arith, nat_tests, low, high, p.third_low, p.third_high, p.fourth_low, p.fourth_high)

-- ---- an encoding is of a row

encode_one : (c : ℕ) → c < 128 → encode_utf8 c ≡ c ∷ []
unfolding encode
encode_one c h = let t : nat_lt c 128 ≡ true = grind (arith, nat_tests) in rw t refl

encode_two : (c : ℕ) → 128 ≤ c → c < 2048 → encode_utf8 c ≡ (192 + c / 64) ∷ (128 + c % 64) ∷ []
unfolding encode
encode_two c l h =
    let s : nat_lt c 128 ≡ false = grind (arith, nat_tests) in
    let t : nat_lt c 2048 ≡ true = grind (arith, nat_tests) in
    rw (s, t) refl

encode_three : (c : ℕ) → 2048 ≤ c → c < 65536 → encode_utf8 c ≡ (224 + c / 4096) ∷ (128 + c / 64 % 64) ∷ (128 + c % 64) ∷ []
unfolding encode
encode_three c l h =
    let s : nat_lt c 128 ≡ false = grind (arith, nat_tests) in
    let t : nat_lt c 2048 ≡ false = grind (arith, nat_tests) in
    let u : nat_lt c 65536 ≡ true = grind (arith, nat_tests) in
    rw (s, t, u) refl

encode_four : (c : ℕ) → 65536 ≤ c → encode_utf8 c ≡ (240 + c / 262144) ∷ (128 + c / 4096 % 64) ∷ (128 + c / 64 % 64) ∷ (128 + c % 64) ∷ []
unfolding encode
encode_four c l =
    let s : nat_lt c 128 ≡ false = grind (arith, nat_tests) in
    let t : nat_lt c 2048 ≡ false = grind (arith, nat_tests) in
    let u : nat_lt c 65536 ≡ false = grind (arith, nat_tests) in
    rw (s, t, u) refl

one_fits : (c : ℕ) → c < 128 → is_character (c ∷ []) ≡ true
one_fits c h = grind (arith, nat_tests)

three_fit : (c : ℕ) → 2048 ≤ c → c < 65536 → (c < 0xD800) ⊎ (0xE000 ≤ c) → IsOfThree (224 + c / 4096) (128 + c / 64 % 64) (128 + c % 64)
three_fit c l h r =
    let q : c / 64 / 64 ≡ c / 4096 = omega arith in
    record {
      lead_low = omega arith;
      lead_high = omega arith;
      second_low = grind (arith, nat_tests);
      second_high = grind (arith, nat_tests, r);
      third_low = omega arith;
      third_high = omega arith;
    }

four_fit : (c : ℕ) → 65536 ≤ c → c < 0x110000 → IsOfFour (240 + c / 262144) (128 + c / 4096 % 64) (128 + c / 64 % 64) (128 + c % 64)
four_fit c l h =
    let q : c / 4096 / 64 ≡ c / 262144 = omega arith in
    record {
      lead_low = omega arith;
      lead_high = omega arith;
      second_low = grind (arith, nat_tests);
      second_high = grind (arith, nat_tests);
      third_low = omega arith;
      third_high = omega arith;
      fourth_low = omega arith;
      fourth_high = omega arith;
    }

encoded_by : (c : ℕ) → (c < 0xD800) ⊎ (0xE000 ≤ c) → c < 0x110000 → is_character (encode_utf8 c) ≡ true
encoded_by c r most = elim (cases_lt c 128) [
  | inl one ↦ ap is_character (encode_one c one) ∙ one_fits c one
  | inr more ↦ elim (cases_lt c 2048) [
    | inl two ↦ ap is_character (encode_two c more two)
        ∙ is_whole ((192 + c / 64) ∷ (128 + c % 64) ∷ []) (two_end (192 + c / 64) (128 + c % 64) (omega arith) (omega arith) (omega arith) (omega arith))
    | inr many ↦ elim (cases_lt c 65536) [
      | inl three ↦ ap is_character (encode_three c many three)
          ∙ is_whole ((224 + c / 4096) ∷ (128 + c / 64 % 64) ∷ (128 + c % 64) ∷ [])
          (three_end (224 + c / 4096) (128 + c / 64 % 64) (128 + c % 64) (three_fit c many three r))
      | inr four ↦ ap is_character (encode_four c four)
          ∙ is_whole ((240 + c / 262144) ∷ (128 + c / 4096 % 64) ∷ (128 + c / 64 % 64) ∷ (128 + c % 64) ∷ [])
          (four_end (240 + c / 262144) (128 + c / 4096 % 64) (128 + c / 64 % 64) (128 + c % 64) (four_fit c four most))
    ]
  ]
]

pub encoded : (c : ℕ) → IsScalar c → is_character (encode_utf8 c) ≡ true
encoded c h = elim (scalar_cases c h) [
  | inl low ↦ encoded_by c (inl low) (omega arith)
  | inr high ↦ encoded_by c (inr high.0) high.1
]

-- ---- a row is an encoding

scalar_from : (c : ℕ) → InScalarRange c → IsScalar c
scalar_from c (inl low) = grind (arith, nat_tests)
scalar_from c (inr high) = grind (arith, nat_tests, high.0, high.1)

abbrev Encodes : List ℕ → Type 0
Encodes bs = (c : ℕ) × IsScalar c × (encode_utf8 c ≡ bs)

of_one : (a : ℕ) → is_character (a ∷ []) ≡ true → Encodes (a ∷ [])
of_one a h =
    let small : a < 128 = grind (arith, nat_tests) in
    (a, scalar_from a (inl (omega arith)), encode_one a small)

two_low : (a b : ℕ) → fate_in characters (a ∷ b ∷ []) ≡ Ends → (0xC2 ≤ a) × (a ≤ 0xDF) × (0x80 ≤ b) × (b ≤ 0xBF)
two_low a b h = (grind (arith, nat_tests), grind (arith, nat_tests), grind (arith, nat_tests), grind (arith, nat_tests))

of_two : (a b : ℕ) → is_character (a ∷ b ∷ []) ≡ true → Encodes (a ∷ b ∷ [])
of_two a b h =
    let p = two_low a b (ends (a ∷ b ∷ []) h) in
    let c : ℕ = (a - 0xC0) * 64 + (b - 0x80) in
    let first : 192 + c / 64 ≡ a = omega (arith, p.0, p.2, p.3) in
    let last : 128 + c % 64 ≡ b = omega (arith, p.0, p.2, p.3) in (
      c,
      scalar_from c (inl (omega (arith, p.1, p.3))),
      encode_two c (omega (arith, p.0)) (omega (arith, p.1, p.3)) ∙ rw (first, last) refl,
    )

of_three : (a b c : ℕ) → is_character (a ∷ b ∷ c ∷ []) ≡ true → Encodes (a ∷ b ∷ c ∷ [])
of_three a b c h =
    let whole = ends (a ∷ b ∷ c ∷ []) h in
    let p = parts_of_three a b c whole in
    let low : 0x80 ≤ b = grind (arith, nat_tests, p.second_low) in
    let high : b ≤ 0xBF = grind (arith, nat_tests, p.second_high) in
    let n : ℕ = code_of_three a b c in
    let least : 2048 ≤ n = grind (arith, nat_tests, p.second_low, p.lead_low) in
    let first : 224 + n / 4096 ≡ a = omega (arith, p.lead_low, p.third_low, p.third_high) in
    let second : 128 + n / 64 % 64 ≡ b = omega (arith, p.lead_low, p.third_low, p.third_high) in
    let last : 128 + n % 64 ≡ c = omega (arith, p.lead_low, p.third_low, p.third_high) in (
      n,
      scalar_from n (code_of_three_fits a b c whole),
      encode_three n least (omega (arith, p.lead_high, p.third_high)) ∙ rw (first, second, last) refl,
    )

of_four : (a b c d : ℕ) → is_character (a ∷ b ∷ c ∷ d ∷ []) ≡ true → Encodes (a ∷ b ∷ c ∷ d ∷ [])
of_four a b c d h =
    let whole = ends (a ∷ b ∷ c ∷ d ∷ []) h in
    let p = parts_of_four a b c d whole in
    let low : 0x80 ≤ b = grind (arith, nat_tests, p.second_low) in
    let high : b ≤ 0xBF = grind (arith, nat_tests, p.second_high) in
    let n : ℕ = code_of_four a b c d in
    let least : 65536 ≤ n = grind (arith, nat_tests, p.second_low, p.lead_low) in
    let first : 240 + n / 262144 ≡ a = omega (arith, p.lead_low, p.third_low, p.third_high, p.fourth_low, p.fourth_high) in
    let second : 128 + n / 4096 % 64 ≡ b = omega (arith, p.lead_low, p.third_low, p.third_high, p.fourth_low, p.fourth_high) in
    let third : 128 + n / 64 % 64 ≡ c = omega (arith, p.lead_low, p.third_low, p.third_high, p.fourth_low, p.fourth_high) in
    let last : 128 + n % 64 ≡ d = omega (arith, p.lead_low, p.third_low, p.third_high, p.fourth_low, p.fourth_high) in
    (n, scalar_from n (code_of_four_fits a b c d whole), encode_four n least ∙ rw (first, second, third, last) refl)

row_encodes : (bs : List ℕ) → is_character bs ≡ true → Encodes bs
row_encodes [] h = absurd (cc h)
row_encodes (a ∷ []) h = of_one a h
row_encodes (a ∷ b ∷ []) h = of_two a b h
row_encodes (a ∷ b ∷ c ∷ []) h = of_three a b c h
row_encodes (a ∷ b ∷ c ∷ d ∷ []) h = of_four a b c d h
row_encodes (a ∷ b ∷ c ∷ d ∷ e ∷ bs) h =
    absurd (let no : Breaks ≡ Ends = sym (too_long a b c d e bs) ∙ ends (a ∷ b ∷ c ∷ d ∷ e ∷ bs) h in cc no)

pub are_encodings : AreEncodings
are_encodings bs = (row_encodes bs, λ found. ap is_character (sym found.2) ∙ encoded found.0 found.1)
