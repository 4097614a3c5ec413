-- Blanks at the end of bytes.
use Rattle.std.proofs.Common.{◌≡◌, ℕ, suc, ◌+◌, ◌-◌, ◌<◌, ◌≤◌, ◌==◌, false, List, [], ◌∷◌, ◌++◌, length, take, drop, get_or, if◌then◌else◌, refl, sym, ap, subst, ◌∙◌, arith}
use Rattle.std.proofs.lemmas.List.{drop_at, take_more, take_rest}
use Rattle.std.proofs.lemmas.Bool.Decides.{nat_tests}
use Rattle.bx_print.specs.Page.{before, trimmed}

-- one more blank changes nothing
pub trimmed-blank : (xs : List ℕ) → trimmed (xs ++ 32 ∷ []) ≡ trimmed xs
trimmed-blank [] = refl
trimmed-blank (x ∷ xs) = ap (before x) (trimmed-blank xs)

before-some : (x : ℕ) (ys : List ℕ) (b : ℕ) → before x (ys ++ b ∷ []) ≡ x ∷ (ys ++ b ∷ [])
before-some x [] b = refl
before-some x (y ∷ ys) b = refl

-- if the last byte is not a blank, there are none
pub trimmed-kept : (xs : List ℕ) (b : ℕ) → (b ≡ 32 → ⊥) → trimmed (xs ++ b ∷ []) ≡ xs ++ b ∷ []
trimmed-kept [] b other =
    let no : (b == 32) ≡ false = grind (arith, nat_tests) in
    ap (λ t. if t then [] else b ∷ []) no
trimmed-kept (x ∷ xs) b other = ap (before x) (trimmed-kept xs b other) ∙ before-some x xs b

module _ (bytes : List ℕ) (len : ℕ) (some : 0 < len) (within : len ≤ length bytes) where
  front-is : take len bytes ≡ take (len - 1) bytes ++ get_or bytes (len - 1) 0 ∷ []
  front-is = let e : len ≡ len - 1 + 1 = omega (arith, some) in
      ap (λ n. take n bytes) e ∙ take_more bytes (len - 1) 0 (omega (arith, some, within))

  -- one blank less
  pub less-trimmed : get_or bytes (len - 1) 0 ≡ 32 → trimmed (take (len - 1) bytes) ≡ trimmed (take len bytes)
  less-trimmed blank =
      sym (ap trimmed (front-is ∙ ap (λ b. take (len - 1) bytes ++ b ∷ []) blank) ∙ trimmed-blank (take (len - 1) bytes))

  -- no more blanks
  pub all-trimmed : (get_or bytes (len - 1) 0 ≡ 32 → ⊥) → take len bytes ≡ trimmed (take len bytes)
  all-trimmed other = sym (ap trimmed front-is ∙ trimmed-kept (take (len - 1) bytes) (get_or bytes (len - 1) 0) other ∙ sym front-is)

take-behind : (old xs : List ℕ) (len : ℕ) → take (length old + len) (old ++ xs) ≡ old ++ take len xs
take-behind [] xs len = let e : 0 + len ≡ len = omega arith in ap (λ n. take n xs) e
take-behind (o ∷ old) xs len =
    let e : length (o ∷ old) + len ≡ suc (length old + len) = omega arith in
    ap (λ n. take n (o ∷ old ++ xs)) e ∙ ap (λ zs. o ∷ zs) (take-behind old xs len)

-- the bytes appended are trimmed
pub trimmed-behind : (new seen old xs : List ℕ) (start len : ℕ) → new ≡ old ++ xs → seen ≡ new → start ≡ length old
    → take len (take (length seen - start) (drop start seen)) ≡ trimmed (take (length seen - start) (drop start seen))
    → take (start + len) new ≡ old ++ trimmed xs
trimmed-behind new seen old xs start len grown same at cut =
    let rest : take (length seen - start) (drop start seen) ≡ xs =
    take_rest seen start ∙ ap (drop start) (same ∙ grown) ∙ drop_at old xs start (sym at) in
    let kept : take len xs ≡ trimmed xs = subst (λ zs. take len zs ≡ trimmed zs) rest cut in
    ap (take (start + len)) grown ∙ ap (λ n. take (n + len) (old ++ xs)) at ∙ take-behind old xs len ∙ ap (λ zs. old ++ zs) kept
