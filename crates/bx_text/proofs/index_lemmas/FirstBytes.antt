-- The first bytes of characters in UTF-8.
use Rattle.std.proofs.Common.{◌≡◌, ◌<◌, ◌≤◌, ◌+◌, ◌/◌, ◌∙◌, inl, inr, ℕ, Bool, true, false, cond, nat_lt, List, length, get_or, set, refl, arith}
use Rattle.std.proofs.lemmas.Bool.{cases_lt, cases_eq}
use Rattle.std.proofs.lemmas.Grind.{get_or-set_at}
use Rattle.std.proofs.lemmas.List.{get_or-set_other}
use lib.Utf8.{encode, scalar_cases}
use Rattle.std.specs.Char.{IsScalar}
use Rattle.std.proofs.lemmas.Bool.Decides.{nat_tests}
use Rattle.bx_text.specs.index.LeadBytes.{lead_of}

lead_at : (c : ℕ) (a b d : Bool) → nat_lt c 128 ≡ a → nat_lt c 2048 ≡ b → nat_lt c 65536 ≡ d
    → lead_of c ≡ cond a c (cond b (192 + c / 64) (cond d (224 + c / 4096) (240 + c / 262144)))
unfolding encode
lead_at c true b d e f g = rw e refl
lead_at c false true d e f g = rw (e, f) refl
lead_at c false false true e f g = rw (e, f, g) refl
lead_at c false false false e f g = rw (e, f, g) refl

lead_is : (c : ℕ) → lead_of c ≡ cond (nat_lt c 128) c (cond (nat_lt c 2048) (192 + c / 64) (cond (nat_lt c 65536) (224 + c / 4096) (240 + c / 262144)))
lead_is c = lead_at c (nat_lt c 128) (nat_lt c 2048) (nat_lt c 65536) refl refl refl

pub lead_one : (c : ℕ) → c < 128 → lead_of c ≡ c
lead_one c h = let e : nat_lt c 128 ≡ true = grind (arith, nat_tests) in lead_is c ∙ rw e refl

pub lead_two : (c : ℕ) → 128 ≤ c → c < 2048 → lead_of c ≡ 192 + c / 64
lead_two c h l =
    let e : nat_lt c 128 ≡ false = grind (arith, nat_tests) in
    let f : nat_lt c 2048 ≡ true = grind (arith, nat_tests) in
    lead_is c ∙ rw (e, f) refl

pub lead_three : (c : ℕ) → 2048 ≤ c → c < 65536 → lead_of c ≡ 224 + c / 4096
lead_three c h l =
    let e : nat_lt c 128 ≡ false = grind (arith, nat_tests) in
    let f : nat_lt c 2048 ≡ false = grind (arith, nat_tests) in
    let g : nat_lt c 65536 ≡ true = grind (arith, nat_tests) in
    lead_is c ∙ rw (e, f, g) refl

pub lead_four : (c : ℕ) → 65536 ≤ c → lead_of c ≡ 240 + c / 262144
lead_four c h =
    let e : nat_lt c 128 ≡ false = grind (arith, nat_tests) in
    let f : nat_lt c 2048 ≡ false = grind (arith, nat_tests) in
    let g : nat_lt c 65536 ≡ false = grind (arith, nat_tests) in
    lead_is c ∙ rw (e, f, g) refl

lead_past_two : (c : ℕ) → 2048 ≤ c → c < 0x110000 → 224 ≤ lead_of c
lead_past_two c h l = elim (cases_lt c 65536) [
  | inl i ↦ omega (arith, lead_three c h i)
  | inr i ↦ omega (arith, lead_four c i)
]

lead_past_one : (c : ℕ) → 128 ≤ c → c < 0x110000 → 192 ≤ lead_of c
lead_past_one c h l = elim (cases_lt c 2048) [
  | inl i ↦ omega (arith, lead_two c h i)
  | inr i ↦ omega (arith, lead_past_two c i l)
]

-- later characters begin with later bytes
pub lead_rises : (c d : ℕ) → c ≤ d → d < 0x110000 → lead_of c ≤ lead_of d
lead_rises c d h l = elim (cases_lt c 128) [
  | inl a ↦ elim (cases_lt d 128) [
    | inl b ↦ omega (arith, lead_one c a, lead_one d b)
    | inr b ↦ omega (arith, lead_one c a, lead_past_one d b l)
  ]
  | inr a ↦ elim (cases_lt c 2048) [
    | inl e ↦ elim (cases_lt d 2048) [
      | inl f ↦ omega (arith, lead_two c a e, lead_two d (omega arith) f)
      | inr f ↦ omega (arith, lead_two c a e, lead_past_two d f l)
    ]
    | inr e ↦ elim (cases_lt c 65536) [
      | inl i ↦ elim (cases_lt d 65536) [
        | inl j ↦ omega (arith, lead_three c e i, lead_three d (omega arith) j)
        | inr j ↦ omega (arith, lead_three c e i, lead_four d j)
      ]
      | inr i ↦ omega (arith, lead_four c i, lead_four d (omega arith))
    ]
  ]
]

pub lead_is_byte : (c : ℕ) → c < 0x110000 → lead_of c < 256
lead_is_byte c l = elim (cases_lt c 128) [
  | inl a ↦ omega (arith, lead_one c a)
  | inr a ↦ elim (cases_lt c 2048) [
    | inl e ↦ omega (arith, lead_two c a e)
    | inr e ↦ elim (cases_lt c 65536) [
      | inl i ↦ omega (arith, lead_three c e i)
      | inr i ↦ omega (arith, lead_four c i)
    ]
  ]
]

-- ---- flags that are set

pub still_set : (flags : List Bool) (k b : ℕ) → k < length flags → get_or flags b false ≡ true → get_or (set flags k true) b false ≡ true
still_set flags k b l e = elim (cases_eq b k) [
  | inl same ↦ get_or-set_at flags k b true false same l
  | inr other ↦ get_or-set_other flags k b true false other ∙ e
]

pub set_more : (flags : List Bool) (k from : ℕ) → k < length flags → ((b : ℕ) → from ≤ b → b < k → get_or flags b false ≡ true)
    → (b : ℕ) → from ≤ b → b < k + 1 → get_or (set flags k true) b false ≡ true
set_more flags k from l h b m n = elim (cases_eq b k) [
  | inl same ↦ get_or-set_at flags k b true false same l
  | inr other ↦ get_or-set_other flags k b true false other ∙ h b m (omega arith)
]

pub scalar_below : (c : ℕ) → IsScalar c → c < 0x110000
scalar_below c s = elim (scalar_cases c s) [
  | inl a ↦ omega arith
  | inr b ↦ omega (arith, b.1)
]
