-- Numbers digit by digit.
use Rattle.std.proofs.Common.{◌≡◌, ℕ, zero, suc, ◌+◌, ◌-◌, ◌*◌, ◌<◌, ◌≤◌, Bool, true, false, List, [], ◌∷◌, length, Option, Some, None, refl, subst, arith}
use Rattle.std.specs.Prelude.{IfSome, unwrap_or}
use Rattle.std.specs.List.{after_first, before_first, position_or_len}
use Rattle.std.proofs.lemmas.Bool.Decides.{nat_tests}
use Rattle.bx_editor.specs.questions.Answers.{digit_of, is_divider, with_digit}

-- ---- how large a number of i digits is

abbrev pub values : ℕ → ℕ
values zero = 1
values (suc i) = 10 * values i

pub some-values : (i : ℕ) → 0 < values i
some-values zero = omega arith
some-values (suc i) = omega (arith, some-values i)

more-values : (i k : ℕ) → values i ≤ values (k + i)
more-values i zero = let e : 0 + i ≡ i = omega arith in rw e (omega arith)
more-values i (suc k) = let e : suc k + i ≡ suc (k + i) = omega arith in rw e (omega (arith, more-values i k))

pub few-values : (i : ℕ) → i ≤ 16 → values i ≤ 10000000000000000
few-values i few = let e : 16 - i + i ≡ 16 = omega arith in subst (λ m. values i ≤ values m) e (more-values i (16 - i))

pub digit-small : (c : ℕ) → IfSome (digit_of c) (λ d. d < 10)
digit-small c = grind (arith, nat_tests)

one-more : (number : Option ℕ) (i : ℕ) (d : Option ℕ) → IfSome d (λ x. x < 10) → unwrap_or number 0 < values i
    → unwrap_or (elim d [ None ↦ number | Some x ↦ Some (unwrap_or number 0 * 10 + x) ]) 0 < values (suc i)
one-more number i None digit small = omega (arith, small)
one-more number i (Some x) digit small = omega (arith, small, digit)

pub with-digit-small : (number : Option ℕ) (c i : ℕ) → unwrap_or number 0 < values i → unwrap_or (with_digit number c) 0 < values (suc i)
with-digit-small number c i small = one-more number i (digit_of c) (digit-small c) small

-- ---- the first divider

pub before-here : (c : ℕ) (cs : List ℕ) → is_divider c ≡ true → before_first is_divider (c ∷ cs) ≡ []
before-here c cs h = rw h refl

pub after-here : (c : ℕ) (cs : List ℕ) → is_divider c ≡ true → after_first is_divider (c ∷ cs) ≡ cs
after-here c cs h = rw h refl

pub before-more : (c : ℕ) (cs : List ℕ) → is_divider c ≡ false → before_first is_divider (c ∷ cs) ≡ c ∷ before_first is_divider cs
before-more c cs h =
    let n = position_or_len is_divider cs in
    let e : 1 + n ≡ suc n = omega arith in
    rw (h, e) refl

pub after-more : (c : ℕ) (cs : List ℕ) → is_divider c ≡ false → after_first is_divider (c ∷ cs) ≡ after_first is_divider cs
after-more c cs h =
    let n = position_or_len is_divider cs in
    let e : 1 + n + 1 ≡ suc (n + 1) = omega arith in
    rw (h, e) refl
