-- What is told is printable, part by part.
use Rattle.std.proofs.Common.{◌≡◌, ◌∙◌, ◌++◌, ◌&&◌, ℕ, zero, suc, ◌+◌, ◌/◌, ◌%◌, ◌<◌, ◌≤◌, ◌^◌, Bool, true, false}
use Rattle.std.proofs.Common.{nat_lt, nat_le, List, [], ◌∷◌, length, take, Option, Some, None, ap, ap₂, sym, refl, arith, inl, inr}
use Rattle.std.specs.Prelude.{IfSome, decimal, codes, if◌then◌else◌}
use Rattle.std.specs.List.{list_all, flat_map}
use Rattle.std.specs.Char.{digit_value}
use Rattle.std.specs.Str.Parse.{AllDigits}
use Rattle.std.proofs.lemmas.Bool.{lt-ltb, le-ltb, and_from}
use Rattle.std.proofs.lemmas.Bool.Decides.{nat_tests, leb_tells}
use Rattle.std.proofs.lemmas.Fmt.{decimal_is_IsNumeral}
use Rattle.std.proofs.lemmas.List.Folds.{list_all-append}
use Rattle.std.proofs.lemmas.Str.Parse.{digit_from_value}
use Rattle.bx_common.specs.Characters.{is_ascii_printable, are_ascii_printable}
use Rattle.bx_ucd.specs.Data.{Data}
use Rattle.bx_ucd.specs.declared.class.Class.{Class}
use Rattle.bx_ucd.specs.declared.class.Class.TheVariants.{L, R, AL, EN, ES, ET, AN, CS, NSM, BN, B, S, WS, ON, LRE, LRO, RLE, RLO, PDF, LRI, RLI, FSI, PDI}
use Rattle.bx_ucd.specs.Class.{class_name}
use Rattle.bx_editor.specs.questions.Told.{hex_digit, digit_at, last_four, code_text, character_text, behind, others_text, level_text, told_text}
use Rattle.bx_editor.specs.questions.Laws.{ToldIsPrintable}

both : (xs ys : List ℕ) → are_ascii_printable xs ≡ true → are_ascii_printable ys ≡ true → are_ascii_printable (xs ++ ys) ≡ true
both xs ys h k = list_all-append is_ascii_printable xs ys ∙ and_from (are_ascii_printable xs) (are_ascii_printable ys) h k

within : (c : ℕ) → 32 ≤ c → c ≤ 126 → is_ascii_printable c ≡ true
within c low high = grind (arith, nat_tests)

hex : (d : ℕ) → d < 16 → is_ascii_printable (hex_digit d) ≡ true
hex d small = elim (leb_tells 10 d) as (λ _. is_ascii_printable (hex_digit d) ≡ true) [
  | inl h ↦ rw (le-ltb d 10 h.1) (within (55 + d) (omega arith) (omega arith))
  | inr h ↦ rw (lt-ltb d 10 h.1) (within (48 + d) (omega arith) (omega (arith, h.1)))
]

one-digit : (code power : ℕ) → is_ascii_printable (digit_at code power) ≡ true
one-digit code power = hex (code / power % 16) (omega arith)

more : (d : ℕ) (xs : List ℕ) → is_ascii_printable d ≡ true → are_ascii_printable xs ≡ true → are_ascii_printable (d ∷ xs) ≡ true
more d xs h k = and_from (is_ascii_printable d) (are_ascii_printable xs) h k

-- one more digit in front
digit-more : (code power : ℕ) (xs : List ℕ) → are_ascii_printable xs ≡ true → are_ascii_printable (digit_at code power ∷ xs) ≡ true
digit-more code power xs h = more (digit_at code power) xs (one-digit code power) h

four : (code : ℕ) → are_ascii_printable (last_four code) ≡ true
four code =
    let last = digit_at code 1 ∷ [] in
    let two = digit_at code 0x10 ∷ last in
    let three = digit_at code 0x100 ∷ two in
    digit-more code 0x1000 three (digit-more code 0x100 two (digit-more code 0x10 last (digit-more code 1 [] refl)))

code-printable : (code : ℕ) → are_ascii_printable (code_text code) ≡ true
code-printable code =
    let five = digit_at code 0x10000 ∷ last_four code in
    let six = digit_at code 0x100000 ∷ five in
    let all-five : are_ascii_printable five ≡ true = digit-more code 0x10000 (last_four code) (four code) in
    elim (leb_tells 0x10000 code) as (λ _. are_ascii_printable (code_text code) ≡ true) [
      | inr h ↦ rw (lt-ltb code 0x10000 h.1) (four code)
      | inl h ↦ rw (le-ltb code 0x10000 h.1) (elim (leb_tells 0x100000 code) as (λ _. are_ascii_printable (if nat_lt code 0x100000 then five else six) ≡ true) [
        | inr k ↦ rw (lt-ltb code 0x100000 k.1) all-five
        | inl k ↦ rw (le-ltb code 0x100000 k.1) (digit-more code 0x100000 five all-five)
      ])
    ]

name-printable : (class : Class) → are_ascii_printable (class_name class) ≡ true
name-printable class = elim class as (λ k. are_ascii_printable (class_name k) ≡ true) [
  | L ↦ refl
  | R ↦ refl
  | AL ↦ refl
  | EN ↦ refl
  | ES ↦ refl
  | ET ↦ refl
  | AN ↦ refl
  | CS ↦ refl
  | NSM ↦ refl
  | BN ↦ refl
  | B ↦ refl
  | S ↦ refl
  | WS ↦ refl
  | ON ↦ refl
  | LRE ↦ refl
  | LRO ↦ refl
  | RLE ↦ refl
  | RLO ↦ refl
  | PDF ↦ refl
  | LRI ↦ refl
  | RLI ↦ refl
  | FSI ↦ refl
  | PDI ↦ refl
]

with-name : (code name : List ℕ) → are_ascii_printable code ≡ true → are_ascii_printable name ≡ true
    → are_ascii_printable (codes "U+" ++ code ++ codes " " ++ name) ≡ true
with-name code name h k =
    both (codes "U+" ++ code ++ codes " ") name (both (codes "U+" ++ code) (codes " ") (both (codes "U+") code refl h) refl) k

character-printable : (ucd : Data) (c : ℕ) → are_ascii_printable (character_text ucd c) ≡ true
character-printable ucd c = with-name (code_text c) (class_name (ucd.class c)) (code-printable c) (name-printable (ucd.class c))

behind-printable : (ucd : Data) (c : ℕ) → are_ascii_printable (behind ucd (Some c)) ≡ true
behind-printable ucd c = both (codes " ") (character_text ucd c) refl (character-printable ucd c)

all-behind : (ucd : Data) (cs : List ℕ) → are_ascii_printable (flat_map (λ c. behind ucd (Some c)) cs) ≡ true
all-behind ucd [] = refl
all-behind ucd (c ∷ cs) = both (behind ucd (Some c)) (flat_map (λ d. behind ucd (Some d)) cs) (behind-printable ucd c) (all-behind ucd cs)

sign-printable : (b : Bool) → are_ascii_printable (if b then codes " ..." else []) ≡ true
sign-printable true = refl
sign-printable false = refl

others-printable : (ucd : Data) (cs : List ℕ) → are_ascii_printable (others_text ucd cs) ≡ true
others-printable ucd cs = both (flat_map (λ c. behind ucd (Some c)) (take 3 cs)) _ (all-behind ucd (take 3 cs)) (sign-printable (nat_lt 3 (length cs)))

digits-printable : (ds : List ℕ) → AllDigits 10 ds → are_ascii_printable ds ≡ true
digits-printable [] h = refl
digits-printable (d ∷ ds) h =
    let range = digit_from_value d h.0 in
    more d ds (within d (omega (arith, range.0)) (omega (arith, range.1))) (digits-printable ds h.1)

pub level-printable : (level : Option ℕ) → IfSome level (λ n. n < 256) → are_ascii_printable (level_text level) ≡ true
level-printable None h = refl
level-printable (Some n) h = both (codes " level ") (decimal n) refl (digits-printable (decimal n) (decimal_is_IsNumeral n (omega (arith, h))).0.1)

pub told-by-level : (ucd : Data) (cs : List ℕ) (level : Option ℕ) → are_ascii_printable (level_text level) ≡ true
    → are_ascii_printable (told_text ucd cs level) ≡ true
told-by-level ucd [] level h = h
told-by-level ucd (c ∷ cs) level h =
    both (character_text ucd c ++ others_text ucd cs) (level_text level)
    (both (character_text ucd c) (others_text ucd cs) (character-printable ucd c) (others-printable ucd cs)) h

pub told-printable : ToldIsPrintable
told-printable ucd cs level h = told-by-level ucd cs level (level-printable level h)
