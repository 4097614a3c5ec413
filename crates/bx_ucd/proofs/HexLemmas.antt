-- Lemmas on hexadecimal digits.
use Rattle.std.proofs.Common.{◌≡◌, ◌<◌, ◌≤◌, ◌+◌, ◌*◌, ℕ, zero, suc, List, length, drop, get_or, true, refl, ◌∙◌, add-one, arith}
use Rattle.std.specs.List.{list_all}
use Rattle.std.specs.Char.{is_digit, digit_value}
use Rattle.std.specs.Str.Parse.{digits_value_after}
use Rattle.std.proofs.lemmas.Bool.{lt-ltb}
use Rattle.std.proofs.lemmas.List.{at_drop_more}

-- the number of values of `n` hexadecimal digits
abbrev pub values : ℕ → ℕ
values zero = 1
values (suc i) = 16 * values i

pub values_small : (i : ℕ) → i < 6 → values i ≤ 1048576
values_small zero lt = omega arith
values_small (suc zero) lt = omega arith
values_small (suc (suc zero)) lt = omega arith
values_small (suc (suc (suc zero))) lt = omega arith
values_small (suc (suc (suc (suc zero)))) lt = omega arith
values_small (suc (suc (suc (suc (suc zero))))) lt = omega arith
values_small (suc (suc (suc (suc (suc (suc i)))))) lt = absurd (omega arith)

pub values_more : (value digit i : ℕ) → value < values i → digit < 16 → value * 16 + digit < values (i + 1)
values_more value digit i small one = rw add-one (omega arith)

-- one more digit is tested
pub tested_more : (ds : List ℕ) (i c digit : ℕ) → i < length ds → c ≡ get_or ds i 0 → digit_value c < 16
    → list_all (λ b. is_digit b 16) (drop i ds) ≡ list_all (λ b. is_digit b 16) (drop (i + 1) ds)
tested_more ds i c digit lt at small =
    let e : is_digit (get_or ds i 0) 16 ≡ true = lt-ltb _ _ (rw (← at) small) in
    at_drop_more (λ xs. list_all (λ b. is_digit b 16) xs) ds i 0 lt ∙ rw e refl

-- one more digit is counted
pub value_more : (ds : List ℕ) (i c value digit : ℕ) → i < length ds → c ≡ get_or ds i 0 → digit ≡ digit_value c
    → digits_value_after 16 value (drop i ds) ≡ digits_value_after 16 (value * 16 + digit) (drop (i + 1) ds)
value_more ds i c value digit lt at is =
    at_drop_more (λ xs. digits_value_after 16 value xs) ds i 0 lt ∙ rw (is, at) refl
