-- What is no code of a character.
use Rattle.std.proofs.Common.{◌≡◌, ℕ, zero, suc, ◌+◌, ◌<◌, ◌≤◌, ◌^◌, ◌&&◌, Bool, true, false, List, [], ◌∷◌, length, Option, Some, None, refl, sym, subst, arith, inl, inr, nat_le}
use Rattle.std.specs.Prelude.{if◌then◌else◌}
use Rattle.std.specs.List.{list_all}
use Rattle.std.specs.Str.Parse.{AllDigits, IsNumeral, digits_value, without_leading_plus}
use Rattle.std.proofs.lemmas.Bool.{and_parts, ltb-true, lt-leb}
use Rattle.std.proofs.lemmas.Bool.Decides.{leb_tells, eqb_tells}
use Rattle.bx_editor.specs.questions.Names.{is_code_letter, is_code, is_scalar, coded}

all-digits : (ds : List ℕ) → list_all is_code_letter ds ≡ true → AllDigits 16 ds
all-digits [] h = tt
all-digits (d ∷ ds) h = let p = and_parts (is_code_letter d) (list_all is_code_letter ds) h in (ltb-true _ _ p.0, all-digits ds p.1)

no-plus : (d : ℕ) (ds : List ℕ) → list_all is_code_letter (d ∷ ds) ≡ true → without_leading_plus (d ∷ ds) ≡ d ∷ ds
no-plus d ds h = elim (eqb_tells d 43) as (λ _. without_leading_plus (d ∷ ds) ≡ d ∷ ds) [
  | inl plus ↦ let never : false ≡ true = subst (λ x. is_code_letter x ≡ true) plus.1 (and_parts (is_code_letter d) (list_all is_code_letter ds) h).0 in absurd (cc)
  | inr other ↦ rw other.0 refl
]

past-the-last : (a : Bool) (code : ℕ) → 1114112 ≤ code → (if a && is_scalar code then Some code else None) ≡ None
past-the-last true code past = rw (lt-leb code 1114111 (omega (arith, past))) refl
past-the-last false code past = refl

-- hexadecimal digits that are no numeral of 32 bits are no code of a character
pub no-code : (text : List ℕ) → list_all is_code_letter text ≡ true
    → ¬ (IsNumeral 16 (without_leading_plus text) × (digits_value 16 (without_leading_plus text) < 2 ^ 32)) → None ≡ coded text
no-code [] h none = refl
no-code (d ∷ ds) h none = elim (leb_tells 4294967296 (digits_value 16 (d ∷ ds))) as (λ _. None ≡ coded (d ∷ ds)) [
  | inl large ↦ sym (past-the-last (is_code (d ∷ ds)) (digits_value 16 (d ∷ ds)) (omega (arith, large.1)))
  | inr small ↦ absurd (none (subst (λ t. IsNumeral 16 t × (digits_value 16 t < 2 ^ 32)) (sym (no-plus d ds h))
      ((omega arith, all-digits (d ∷ ds) h), small.1)))
]
