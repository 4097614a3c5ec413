-- Reading in parts: characters from SPACE to TILDE, sequences and their numbers.
use Rattle.std.proofs.Common.{◌≡◌, ℕ, ◌<◌, Bool, true, false, ◌&&◌, nat_eq, List, [], ◌∷◌, ◌++◌, length, Some, refl, ap, ◌∙◌, arith, ◌^◌}
use Rattle.std.specs.List.{list_all}
use Rattle.std.specs.Fmt.{decimal}
use Rattle.std.specs.Str.{all_ascii_digits}
use Rattle.std.specs.Char.{is_ascii_digit}
use Rattle.std.specs.Str.Parse.{digits_value}
use Rattle.std.proofs.lemmas.Bool.Decides.{nat_tests}
use Rattle.std.proofs.lemmas.Str.Parse.{IsNumeralModel, numerals_by_value, tells_all_ascii_digits}
use Rattle.std.proofs.lemmas.Fmt.{digits_decimal, digits_value-decimal, decimal_nonempty}
use Rattle.bx_bytes.specs.declared.fate.Fate.TheVariants.{Ends}
use Rattle.bx_bytes.specs.Pattern.{fate_in}
use Rattle.bx_bytes.specs.Utf8.{characters, is_control, are_printable}
use Rattle.bx_bytes.proofs.Codes.{chars_of_one}
use Rattle.bx_grid.specs.declared.command.Command.TheVariants.{Move}
use Rattle.bx_grid.specs.Columns.{is_ascii_printable}
use Rattle.bx_grid.specs.Tokens.{is_param, is_intermediate, is_final, params, after_params, command_of, number, before_semicolon, after_semicolon}
use Rattle.bx_grid.specs.Terminal.{Terminal, reads, byte_read}

pub reads-append : (t : Terminal) (xs ys : List ℕ) → reads t (xs ++ ys) ≡ reads (reads t xs) ys
reads-append t [] ys = refl
reads-append t (x ∷ xs) ys = reads-append (byte_read t x) xs ys

-- the terminal with these bytes half read
abbrev pub at : Terminal → List ℕ → Terminal
at t half_read = record t { half_read = half_read }

pub and_left : (a b : Bool) → a && b ≡ true → a ≡ true
and_left true b h = refl
and_left false b h = h

pub and_right : (a b : Bool) → a && b ≡ true → b ≡ true
and_right true b h = h
and_right false b h = absurd (cc h)

-- ---- a character from SPACE to TILDE

pub ends_alone : (b : ℕ) → is_ascii_printable b ≡ true → fate_in characters (b ∷ []) ≡ Ends
ends_alone b h = grind (arith, nat_tests)

no_control : (b : ℕ) → is_ascii_printable b ≡ true → is_control b ≡ false
no_control b h = grind (arith, nat_tests)

pub prints : (b : ℕ) → is_ascii_printable b ≡ true → are_printable (b ∷ []) ≡ true
prints b h = rw (chars_of_one b (ends_alone b h), no_control b h) refl

-- ---- a sequence

pub params_all : (qs : List ℕ) → list_all is_param qs ≡ true → after_params qs ≡ []
params_all [] h = refl
params_all (q ∷ qs) h =
    rw (and_left (is_param q) (list_all is_param qs) h) (params_all qs (and_right (is_param q) (list_all is_param qs) h))

pub params_then : (qs : List ℕ) (f : ℕ) → list_all is_param qs ≡ true → is_param f ≡ false
    → (params (qs ++ f ∷ []) ≡ qs) × (after_params (qs ++ f ∷ []) ≡ f ∷ [])
params_then [] f h n = (rw n refl, rw n refl)
params_then (q ∷ qs) f h n =
    let rest = params_then qs f (and_right (is_param q) (list_all is_param qs) h) n in
    let here : is_param q ≡ true = and_left (is_param q) (list_all is_param qs) h in
    (rw here (ap (λ r. q ∷ r) rest.0), rw here rest.1)

pub all-push : (p : ℕ → Bool) (qs : List ℕ) (q : ℕ) → list_all p qs ≡ true → p q ≡ true → list_all p (qs ++ q ∷ []) ≡ true
all-push p [] q h g = rw g refl
all-push p (x ∷ qs) q h g =
    rw (and_left (p x) (list_all p qs) h) (all-push p qs q (and_right (p x) (list_all p qs) h) g)

-- a final byte, which is neither a parameter nor an intermediate byte
pub record IsFinal (f : ℕ) : Type 0 where
  pub ends : is_final f ≡ true
  pub no_param : is_param f ≡ false
  pub no_intermediate : is_intermediate f ≡ false

-- ---- numbers

own : IsNumeralModel (λ ds. all_ascii_digits ds ≡ true) (digits_value 10)
own = numerals_by_value (λ ds. all_ascii_digits ds ≡ true) tells_all_ascii_digits

pub number_of_digits : (ds : List ℕ) → 0 < length ds → all_ascii_digits ds ≡ true → number ds ≡ Some (digits_value 10 ds)
number_of_digits [] pos h = absurd (omega arith)
number_of_digits (d ∷ ds) pos h = rw h refl

pub number-decimal : (n : ℕ) → n < 2 ^ 64 → number (decimal n) ≡ Some n
number-decimal n h =
    number_of_digits (decimal n) (decimal_nonempty n h) (digits_decimal own n h)
    ∙ ap Some (digits_value-decimal own n h)

-- ---- the bytes that the painter sends

pub no_semicolon : (ds : List ℕ) → all_ascii_digits ds ≡ true → (rest : List ℕ)
    → (before_semicolon (ds ++ 0x3B ∷ rest) ≡ ds) × (after_semicolon (ds ++ 0x3B ∷ rest) ≡ rest)
no_semicolon [] h rest = (refl, refl)
no_semicolon (d ∷ ds) h rest =
    let other : nat_eq d 0x3B ≡ false = grind (arith, nat_tests) in
    let more = no_semicolon ds (and_right (is_ascii_digit d) (all_ascii_digits ds) h) rest in
    (rw other (ap (λ r. d ∷ r) more.0), rw other more.1)

pub digits_are_params : (ds : List ℕ) → all_ascii_digits ds ≡ true → list_all is_param ds ≡ true
digits_are_params [] h = refl
digits_are_params (d ∷ ds) h =
    let here : is_param d ≡ true = grind (arith, nat_tests) in
    rw here (digits_are_params ds (and_right (is_ascii_digit d) (all_ascii_digits ds) h))

pub all-append : (p : ℕ → Bool) (xs ys : List ℕ) → list_all p xs ≡ true → list_all p ys ≡ true → list_all p (xs ++ ys) ≡ true
all-append p [] ys h g = g
all-append p (x ∷ xs) ys h g =
    rw (and_left (p x) (list_all p xs) h) (all-append p xs ys (and_right (p x) (list_all p xs) h) g)

-- the parts of `CSI line ; column H`
abbrev pub move_params : ℕ → ℕ → List ℕ
move_params line column = decimal line ++ 0x3B ∷ decimal column

pub move_params_fit : (line column : ℕ) → line < 2 ^ 64 → column < 2 ^ 64 → list_all is_param (move_params line column) ≡ true
move_params_fit line column l c =
    all-append is_param (decimal line) (0x3B ∷ decimal column)
    (digits_are_params (decimal line) (digits_decimal own line l))
    (digits_are_params (decimal column) (digits_decimal own column c))

pub command_of-index : (line column : ℕ) → line < 2 ^ 64 → column < 2 ^ 64 → command_of (move_params line column) 0x48 ≡ Move line column
command_of-index line column l c =
    let parts = no_semicolon (decimal line) (digits_decimal own line l) (decimal column) in
    rw (parts.0, parts.1, number-decimal line l, number-decimal column c) refl
