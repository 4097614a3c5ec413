-- The numbers of a mouse report, and fields of digits.
use Rattle.std.proofs.Common.{◌≡◌, ℕ, ◌+◌, ◌-◌, ◌≤◌, Bool, true, false, ◌&&◌, ◌||◌, cond, nat_eq, nat_le, List, [], ◌∷◌, ◌++◌, length}
use Rattle.std.proofs.Common.{Option, Some, None, refl, ap, sym, ◌∙◌, arith, length-append}
use Rattle.std.specs.Char.{is_ascii_digit}
use Rattle.std.specs.List.{list_all, slice_split, join_with_byte}
use Rattle.std.specs.Str.{all_ascii_digits}
use Rattle.std.specs.Str.Parse.{digits_value}
use Rattle.std.proofs.lemmas.Bool.{and_from, and_parts}
use Rattle.std.proofs.lemmas.Bool.Decides.{nat_tests}
use Rattle.std.proofs.lemmas.List.{length-take-le, take_all, take_more}
use Rattle.std.proofs.lemmas.List.Folds.{list_all-append}
use Rattle.std.proofs.lemmas.List.Splits.{join_with_byte-slice_split}
use Rattle.std.proofs.lemmas.Option.{cond_some}
use Rattle.bx_keys.specs.Keys.{is_number, is_side_in_digits, final_byte, before_final}
use Rattle.bx_input.specs.Mouse.{Report, is_number_byte, begins_report, report_of_numbers, report_of}
use Rattle.bx_input.proofs.Reports.{semicolon, number_is, side_is}

pub record HasNumbers (ns : List ℕ) : Type 0 where
  pub button : List ℕ
  pub column : List ℕ
  pub row : List ℕ
  pub joined : button ++ 0x3B ∷ (column ++ 0x3B ∷ row) ≡ ns
  pub is_button : is_number button ≡ true
  pub is_column : is_side_in_digits column ≡ true
  pub is_row : is_side_in_digits row ≡ true

three_numbers : (is_release : Bool) (b x y ns : List ℕ) (r : Report) → b ++ 0x3B ∷ (x ++ 0x3B ∷ y) ≡ ns → report_of_numbers is_release (b ∷ x ∷ y ∷ []) ≡ Some r
    → HasNumbers ns
three_numbers is_release b x y ns r joined h =
    let test : Bool = is_number b && (is_side_in_digits x && is_side_in_digits y) in
    let made : Report = record { button = digits_value 10 b; column = digits_value 10 x; row = digits_value 10 y; is_release = is_release } in
    let is = cond_some test made r h in
    let sides = and_parts (is_number b) (is_side_in_digits x && is_side_in_digits y) is.0 in
    let cell = and_parts (is_side_in_digits x) (is_side_in_digits y) sides.1 in
    record { button = b; column = x; row = y; joined = joined; is_button = sides.0; is_column = cell.0; is_row = cell.1 }

by_fields : (is_release : Bool) (fields : List (List ℕ)) (ns : List ℕ) (r : Report) → join_with_byte 0x3B fields ≡ ns
    → report_of_numbers is_release fields ≡ Some r → HasNumbers ns
by_fields is_release [] ns r joined h = absurd (cc h)
by_fields is_release (b ∷ []) ns r joined h = absurd (cc h)
by_fields is_release (b ∷ x ∷ []) ns r joined h = absurd (cc h)
by_fields is_release (b ∷ x ∷ y ∷ []) ns r joined h = three_numbers is_release b x y ns r joined h
by_fields is_release (b ∷ x ∷ y ∷ z ∷ fields) ns r joined h = absurd (cc h)

given_by : (t : Bool) (o : Option Report) (r : Report) → cond t o None ≡ Some r → o ≡ Some r
given_by true o r h = h
given_by false o r h = absurd (cc h)

has_numbers : (ps : List ℕ) (r : Report) → report_of ps ≡ Some r → HasNumbers (before_final ps)
has_numbers ps r h =
    let ns : List ℕ = before_final ps in
    by_fields (nat_eq (final_byte ps) 0x6D) (slice_split semicolon ns) ns r (join_with_byte-slice_split 0x3B ns)
    (given_by (nat_eq (final_byte ps) 0x4D || nat_eq (final_byte ps) 0x6D) (report_of_numbers (nat_eq (final_byte ps) 0x6D) (slice_split semicolon ns)) r h)

numbers_len : (ns : List ℕ) (is : HasNumbers ns) → length is.button + length is.column + length is.row + 2 ≡ length ns
numbers_len ns is =
    let joined = ap length is.joined in
    omega (arith, joined, length-append is.button (0x3B ∷ (is.column ++ 0x3B ∷ is.row)), length-append is.column (0x3B ∷ is.row))

pub both_all : (xs ys : List ℕ) → list_all is_number_byte xs ≡ true → list_all is_number_byte ys ≡ true → list_all is_number_byte (xs ++ 0x3B ∷ ys) ≡ true
both_all xs ys h g =
    list_all-append is_number_byte xs (0x3B ∷ ys) ∙ and_from (list_all is_number_byte xs) (list_all is_number_byte (0x3B ∷ ys)) h g

-- the report has a byte at least
pub has_last : (ps : List ℕ) (r : Report) → report_of ps ≡ Some r → 1 ≤ length ps
has_last ps r h =
    let is = has_numbers ps r h in
    let sum = numbers_len (before_final ps) is in
    let front : length (before_final ps) ≡ length ps - 1 = length-take-le (length ps - 1) ps (omega arith) in
    omega (arith, sum, front)

-- a report may go on from its numbers
pub numbers_begin : (ps : List ℕ) (r : Report) → report_of ps ≡ Some r → begins_report (before_final ps) ≡ true
numbers_begin ps r h =
    let is = has_numbers ps r h in
    let button = number_is is.button is.is_button in
    let column = side_is is.column is.is_column in
    let row = side_is is.row is.is_row in
    let sum = numbers_len (before_final ps) is in
    let few : length (before_final ps) ≤ 11 = omega (arith, sum, button.few, column.few, row.few) in
    let all : list_all is_number_byte (before_final ps) ≡ true =
    ap (list_all is_number_byte) (sym is.joined)
    ∙ both_all is.button (is.column ++ 0x3B ∷ is.row) button.bytes (both_all is.column is.row column.bytes row.bytes) in
    let short : nat_le (length (before_final ps)) 11 ≡ true = grind (arith, nat_tests, few) in
    and_from (nat_le (length (before_final ps)) 11) (list_all is_number_byte (before_final ps)) short all

-- the last byte stands behind the numbers
pub last_apart : (ps : List ℕ) → 1 ≤ length ps → before_final ps ++ final_byte ps ∷ [] ≡ ps
last_apart ps l =
    sym (take_more ps (length ps - 1) 0 (omega (arith, l))) ∙ take_all (length ps - 1 + 1) ps (omega (arith, l))

-- ---- digits and semicolons

no_semicolon : (b : ℕ) → is_ascii_digit b ≡ true → nat_eq b 0x3B ≡ false
no_semicolon b h = grind (arith, nat_tests)

pub first_field : (ds rest : List ℕ) → all_ascii_digits ds ≡ true → slice_split semicolon (ds ++ 0x3B ∷ rest) ≡ ds ∷ slice_split semicolon rest
first_field [] rest h = refl
first_field (d ∷ ds) rest h =
    let parts = and_parts (is_ascii_digit d) (all_ascii_digits ds) h in
    let other : semicolon d ≡ false = no_semicolon d parts.0 in
    rw (other, first_field ds rest parts.1) refl

pub last_field : (ds : List ℕ) → all_ascii_digits ds ≡ true → slice_split semicolon ds ≡ ds ∷ []
last_field [] h = refl
last_field (d ∷ ds) h =
    let parts = and_parts (is_ascii_digit d) (all_ascii_digits ds) h in
    let other : semicolon d ≡ false = no_semicolon d parts.0 in
    rw (other, last_field ds parts.1) refl
