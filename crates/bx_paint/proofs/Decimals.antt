-- Numbers of one, two and three digits.
use Rattle.std.proofs.Common.{◌≡◌, ℕ, ◌+◌, ◌/◌, ◌%◌, ◌<◌, ◌≤◌, [], ◌∷◌, ◌++◌, ap, sym, ◌∙◌, arith}
use Rattle.std.specs.Prelude.{decimal}
use Rattle.std.proofs.lemmas.Fmt.{decimal_digit, decimal_step}

two : (n : ℕ) → 10 ≤ n → n < 100 → decimal n ≡ (48 + n / 10) ∷ (48 + n % 10) ∷ []
two n some few =
    decimal_step n some (omega arith) ∙ ap (λ ds. ds ++ (48 + n % 10) ∷ []) (decimal_digit (n / 10) (omega arith))

three : (n : ℕ) → 100 ≤ n → n < 1000 → decimal n ≡ (48 + n / 100) ∷ (48 + (n / 10) % 10) ∷ (48 + n % 10) ∷ []
three n some few =
    let hundreds : n / 10 / 10 ≡ n / 100 = omega arith in
    decimal_step n (omega arith) (omega arith)
    ∙ ap (λ ds. ds ++ (48 + n % 10) ∷ []) (two (n / 10) (omega arith) (omega arith))
    ∙ ap (λ h. (48 + h) ∷ (48 + (n / 10) % 10) ∷ (48 + n % 10) ∷ []) hundreds

pub one_digit : (n a : ℕ) → n < 10 → a ≡ 48 + n → a ∷ [] ≡ decimal n
one_digit n a few e = ap (λ d. d ∷ []) e ∙ sym (decimal_digit n few)

pub two_digits : (n a b : ℕ) → 10 ≤ n → n < 100 → a ≡ 48 + n / 10 → b ≡ 48 + n % 10 → a ∷ b ∷ [] ≡ decimal n
two_digits n a b some few e f = ap (λ d. d ∷ b ∷ []) e ∙ ap (λ d. (48 + n / 10) ∷ d ∷ []) f ∙ sym (two n some few)

pub three_digits : (n a b d : ℕ) → 100 ≤ n → n < 1000 → a ≡ 48 + n / 100 → b ≡ 48 + (n / 10) % 10 → d ≡ 48 + n % 10 → a ∷ b ∷ d ∷ [] ≡ decimal n
three_digits n a b d some few e f g =
    ap (λ x. x ∷ b ∷ d ∷ []) e ∙ ap (λ x. (48 + n / 100) ∷ x ∷ d ∷ []) f ∙ ap (λ x. (48 + n / 100) ∷ (48 + (n / 10) % 10) ∷ x ∷ []) g ∙ sym (three n some few)
