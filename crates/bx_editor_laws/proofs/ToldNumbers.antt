-- An answer of two numbers, digit by digit.
use Rattle.std.proofs.Common.{◌≡◌, ℕ, zero, suc, ◌+◌, ◌-◌, ◌*◌, ◌/◌, ◌%◌, ◌^◌, ◌<◌, ◌≤◌, ◌∙◌, true, false, List, [], ◌∷◌, ◌++◌, length, length-append, Option, Some, None, refl, ap, arith, ⊎_elim}
use Rattle.std.specs.Prelude.{codes, chars, decimal, fold, max, unwrap_or, IsAscii, ◌||◌, nat_le, if◌then◌else◌}
use Rattle.std.specs.List.{after_first, before_first, list_any}
use Rattle.std.specs.Option.{option_map}
use Rattle.std.proofs.lemmas.Bool.{cases_lt}
use Rattle.std.proofs.lemmas.Bool.Decides.{nat_tests}
use Rattle.std.proofs.lemmas.Fmt.{decimal_by_steps, length-decimal-le}
use Rattle.std.proofs.lemmas.List.Sums.{fold_push}
use Rattle.std.proofs.lemmas.Str.{chars-IsAscii}
use Rattle.bx_editor.specs.declared.questions.line.Target.{Target}
use Rattle.bx_editor.specs.questions.Answers.{asked, digit_of, is_digit, is_divider, is_line_letter, number, with_digit}
use Rattle.bx_editor.proofs.questions_lemmas.Numbers.{after-here, after-more, before-here, before-more}

-- ---- digits

digit-is : (k : ℕ) → k < 10 → digit_of (48 + k) ≡ Some k
digit-is k small =
    let low : nat_le 48 (48 + k) ≡ true = grind (arith, nat_tests, small) in
    let high : nat_le (48 + k) 57 ≡ true = grind (arith, nat_tests, small) in
    let back : 48 + k - 48 ≡ k = omega arith in
    rw (low, high, back) refl

-- a digit of ASCII
pub record IsAsciiDigit (c : ℕ) : Type 0 where
  pub digit : is_digit c ≡ true
  pub plain : is_divider c ≡ false
  pub low : c < 128

ascii-digit : (k : ℕ) → k < 10 → IsAsciiDigit (48 + k)
ascii-digit k small =
    record { digit = ap (λ (d : Option ℕ). elim d [ None ↦ false | Some n ↦ true ]) (digit-is k small); plain = grind (arith, nat_tests, small); low = omega (arith, small) }

abbrev pub AreDigits : List ℕ → Type 0
AreDigits [] = Unit {0}
AreDigits (c ∷ cs) = IsAsciiDigit c × AreDigits cs

digits-more : (cs : List ℕ) (c : ℕ) → AreDigits cs → IsAsciiDigit c → AreDigits (cs ++ c ∷ [])
digits-more [] c h one = (one, tt)
digits-more (x ∷ cs) c h one = (h.0, digits-more cs c h.1 one)

-- the digits of a number write it
pub record Writes (n : ℕ) (ds : List ℕ) : Type 0 where
  pub digits : AreDigits ds
  pub number_is : fold with_digit None ds ≡ Some n
  pub some : 0 < length ds

with-is : (m k : ℕ) → k < 10 → with_digit (Some m) (48 + k) ≡ Some (m * 10 + k)
with-is m k small = ap (λ (d : Option ℕ). elim d [ None ↦ Some m | Some digit ↦ Some (unwrap_or (Some m) 0 * 10 + digit) ]) (digit-is k small)

with-first : (k : ℕ) → k < 10 → with_digit None (48 + k) ≡ Some k
with-first k small =
    ap (λ (d : Option ℕ). elim d [ None ↦ None | Some digit ↦ Some (0 * 10 + digit) ]) (digit-is k small) ∙ ap Some (omega arith)

pub decimal-writes : (n : ℕ) → n < 2 ^ 64 → Writes n (decimal n)
decimal-writes = decimal_by_steps Writes
    (λ n small. record { digits = (ascii-digit n small, tt); number_is = with-first n small; some = omega arith })
    (λ n ds more h.
    let last = n % 10 in
    let small : last < 10 = omega arith in
    let whole : n / 10 * 10 + last ≡ n = omega arith in
    record {
      digits = digits-more ds (48 + last) h.digits (ascii-digit last small);
      number_is = fold_push with_digit None ds (48 + last) ∙ ap (λ m. with_digit m (48 + last)) h.number_is ∙ with-is (n / 10) last small ∙ ap Some whole;
      some = omega (arith, length-append ds ((48 + last) ∷ []));
    })

-- ---- two numbers and a colon

module _ (ds rest : List ℕ) where
  before-colon : (cs : List ℕ) → AreDigits cs → before_first is_divider (cs ++ 0x3A ∷ rest) ≡ cs
  before-colon [] h = before-here 0x3A rest refl
  before-colon (c ∷ cs) h = before-more c (cs ++ 0x3A ∷ rest) h.0.plain ∙ ap (λ xs. c ∷ xs) (before-colon cs h.1)

  after-colon : (cs : List ℕ) → AreDigits cs → after_first is_divider (cs ++ 0x3A ∷ rest) ≡ rest
  after-colon [] h = after-here 0x3A rest refl
  after-colon (c ∷ cs) h = after-more c (cs ++ 0x3A ∷ rest) h.0.plain ∙ after-colon cs h.1

before-end : (cs : List ℕ) → AreDigits cs → before_first is_divider cs ≡ cs
before-end [] h = refl
before-end (c ∷ cs) h = before-more c cs h.0.plain ∙ ap (λ xs. c ∷ xs) (before-end cs h.1)

some-digit : (cs rest : List ℕ) → AreDigits cs → 0 < length cs → list_any is_digit (cs ++ rest) ≡ true
some-digit [] rest h some = absurd (omega (arith, some))
some-digit (c ∷ cs) rest h some = ap (λ b. b || list_any is_digit (cs ++ rest)) h.0.digit

number-is : (n : ℕ) (ds : List ℕ) → 0 < n → Writes n ds → number ds ≡ Some n
number-is n ds some h = ap (option_map (max 1)) h.number_is ∙ ap Some (omega (arith, some))

-- the numbers as they are told
abbrev pub two_numbers : ℕ → ℕ → List ℕ
two_numbers paragraph unit = decimal paragraph ++ (codes ":" ++ decimal unit)

target : ℕ → ℕ → Option Target
target p u = Some (record { paragraph = Some p; unit = u })

pub told-asked : (p u : ℕ) → 0 < p → 0 < u → p < 2 ^ 64 → u < 2 ^ 64
    → asked (two_numbers p u) ≡ Some (record { paragraph = Some p; unit = u })
told-asked p u some-p some-u small-p small-u =
    let first = decimal-writes p small-p in
    let second = decimal-writes u small-u in
    let rest = decimal u in
    let answer = two_numbers p u in
    let paragraph : number (before_first is_divider answer) ≡ Some p =
    ap number (before-colon rest rest (decimal p) first.digits) ∙ number-is p (decimal p) some-p first in
    let unit : number (before_first is_divider (after_first is_divider answer)) ≡ Some u =
    ap (λ xs. number (before_first is_divider xs)) (after-colon rest rest (decimal p) first.digits)
    ∙ ap number (before-end rest second.digits) ∙ number-is u rest some-u second in
    ap (λ b. if b
    then Some (record {
      paragraph = number (before_first is_divider answer);
      unit = unwrap_or (number (before_first is_divider (after_first is_divider answer))) 1;
    })
    else None) (some-digit (decimal p) (codes ":" ++ rest) first.digits first.some)
    ∙ ap (λ (n : Option ℕ). Some (record { paragraph = n; unit = unwrap_or (number (before_first is_divider (after_first is_divider answer))) 1 })) paragraph
    ∙ ap (λ (n : Option ℕ). Some (record { paragraph = Some p; unit = unwrap_or n 1 })) unit

-- ---- how long it is

pub told-short : (p u : ℕ) → 0 < p → 0 < u → p + u ≤ 16777218 → length (two_numbers p u) ≤ 16
told-short p u some-p some-u few =
    let whole : length (two_numbers p u) ≡ length (decimal p) + 1 + length (decimal u) =
    omega (arith, length-append (decimal p) (codes ":" ++ decimal u), length-append (codes ":") (decimal u)) in
    let eight-p : length (decimal p) ≤ 8 = length-decimal-le 8 p (omega arith) (omega (arith, few)) (omega (arith, few)) in
    let eight-u : length (decimal u) ≤ 8 = length-decimal-le 8 u (omega arith) (omega (arith, few)) (omega (arith, few)) in
    ⊎_elim
    (λ (small : p < 10000000). let seven : length (decimal p) ≤ 7 = length-decimal-le 7 p (omega arith) (omega (arith, small)) (omega (arith, few)) in
    omega (arith, whole, seven, eight-u))
    (λ (large : 10000000 ≤ p). let seven : length (decimal u) ≤ 7 = length-decimal-le 7 u (omega arith) (omega (arith, large, few)) (omega (arith, few)) in
    omega (arith, whole, seven, eight-p))
    (cases_lt p 10000000)

-- ---- each of its characters

-- a character of ASCII that may stand in the answer
pub record IsLetter (c : ℕ) : Type 0 where
  pub line : is_line_letter c ≡ true
  pub low : c < 128

abbrev pub AreLetters : List ℕ → Type 0
AreLetters [] = Unit {0}
AreLetters (c ∷ cs) = IsLetter c × AreLetters cs

pub letters-append : (cs rest : List ℕ) → AreLetters cs → AreLetters rest → AreLetters (cs ++ rest)
letters-append [] rest h more = more
letters-append (c ∷ cs) rest h more = (h.0, letters-append cs rest h.1 more)

all-digits : (cs : List ℕ) → AreDigits cs → AreLetters cs
all-digits [] h = tt
all-digits (c ∷ cs) h = (record { line = ap (λ b. b || is_divider c) h.0.digit; low = h.0.low }, all-digits cs h.1)

pub told-letters : (p u : ℕ) → p < 2 ^ 64 → u < 2 ^ 64 → AreLetters (two_numbers p u)
told-letters p u small-p small-u =
    let rest : AreLetters (codes ":" ++ decimal u) = (record { line = refl; low = omega arith }, all-digits (decimal u) (decimal-writes u small-u).digits) in
    letters-append (decimal p) (codes ":" ++ decimal u) (all-digits (decimal p) (decimal-writes p small-p).digits) rest

pub letters-ascii : (cs : List ℕ) → AreLetters cs → IsAscii cs
letters-ascii [] h i = omega arith
letters-ascii (c ∷ cs) h zero = h.0.low
letters-ascii (c ∷ cs) h (suc i) = letters-ascii cs h.1 i

pub letters-chars : (cs : List ℕ) → AreLetters cs → chars cs ≡ cs
letters-chars cs h = chars-IsAscii cs (letters-ascii cs h)
