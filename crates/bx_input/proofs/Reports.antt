-- Mouse reports, by their last byte and by their semicolons.
use Rattle.std.proofs.Common.{◌≡◌, ℕ, ◌+◌, ◌-◌, ◌≤◌, inl, inr, Bool, true, false, ◌&&◌, ◌||◌, cond, nat_eq, nat_le, nat_lt, List, [], ◌∷◌, ◌++◌, length, take, drop}
use Rattle.std.proofs.Common.{Option, Some, None, refl, ap, sym, ◌∙◌, arith}
use Rattle.std.specs.Prelude.{is_some}
use Rattle.std.specs.Char.{is_ascii_digit}
use Rattle.std.specs.List.{list_all, slice_split, position, position_or_len}
use Rattle.std.specs.Str.{all_ascii_digits}
use Rattle.std.specs.Str.Parse.{digits_value}
use Rattle.std.proofs.lemmas.Bool.{and_left, and_right, and_parts, and_from, cond-true, cond-false, leb-true, ltb-true, ltb-false}
use Rattle.std.proofs.lemmas.Bool.Decides.{nat_tests}
use Rattle.std.proofs.lemmas.List.{get_or_push, length_push, take_at, take_rest}
use Rattle.std.proofs.lemmas.List.Elements.{All-from_get_or}
use Rattle.std.proofs.lemmas.List.Folds.{list_all-append}
use Rattle.std.proofs.lemmas.List.Sums.{fails_before_first}
use Rattle.std.proofs.lemmas.List.Splits.{slice_split_first, slice_split_none}
use Rattle.std.proofs.lemmas.Option.{cond_some}
use Rattle.bx_bytes.specs.declared.fate.Fate.TheVariants.{Waits, Ends, Breaks}
use Rattle.bx_keys.specs.Keys.{is_number, is_side_in_digits, before_final}
use Rattle.bx_keys.proofs.Sides.{one_or_more}
use Rattle.bx_input.specs.Mouse.{Report, is_number_byte, begins_report, report_of_numbers, report_of, report_fate}

abbrev pub semicolon : ℕ → Bool
semicolon b = nat_eq b 0x3B

-- ---- digits

digit_byte : (b : ℕ) → is_ascii_digit b ≡ true → is_number_byte b ≡ true
digit_byte b h = grind (arith, nat_tests)

pub digit_bytes : (ds : List ℕ) → all_ascii_digits ds ≡ true → list_all is_number_byte ds ≡ true
digit_bytes [] h = refl
digit_bytes (d ∷ ds) h =
    let parts = and_parts (is_ascii_digit d) (all_ascii_digits ds) h in
    and_from (is_number_byte d) (list_all is_number_byte ds) (digit_byte d parts.0) (digit_bytes ds parts.1)

-- one to three digits
pub record IsShort (ds : List ℕ) : Type 0 where
  pub some : 1 ≤ length ds
  pub few : length ds ≤ 3
  pub digits : all_ascii_digits ds ≡ true
  pub bytes : list_all is_number_byte ds ≡ true

pub number_is : (ds : List ℕ) → is_number ds ≡ true → IsShort ds
number_is ds h =
    let parts = and_parts (nat_le 1 (length ds) && nat_le (length ds) 3) (all_ascii_digits ds) h in
    let lens = and_parts (nat_le 1 (length ds)) (nat_le (length ds) 3) parts.0 in
    record {
      some = leb-true 1 (length ds) lens.0;
      few = leb-true (length ds) 3 lens.1;
      digits = parts.1;
      bytes = digit_bytes ds parts.1;
    }

pub side_is : (ds : List ℕ) → is_side_in_digits ds ≡ true → IsShort ds
side_is ds h = number_is ds (and_parts (is_number ds) _ h).0

-- ---- the last byte

abbrev pub by_last : ℕ → List ℕ → Option Report
by_last last ns = cond (nat_eq last 0x4D || nat_eq last 0x6D) (report_of_numbers (nat_eq last 0x6D) (slice_split semicolon ns)) None

pub of_last : (ns : List ℕ) (b : ℕ) → report_of (ns ++ b ∷ []) ≡ by_last b ns
of_last ns b =
    let read : List ℕ = ns ++ b ∷ [] in
    ap (λ last. by_last last (before_final read)) (get_or_push ns b 0 (length read - 1) (omega (arith, length_push ns b)))
    ∙ ap (by_last b) (take_at ns (b ∷ []) (length read - 1) (omega (arith, length_push ns b)))

number_no_final : (b : ℕ) → is_number_byte b ≡ true → nat_eq b 0x4D || nat_eq b 0x6D ≡ false
number_no_final b h = grind (arith, nat_tests)

pub last_all : (ns : List ℕ) (b : ℕ) → list_all is_number_byte (ns ++ b ∷ []) ≡ true → is_number_byte b ≡ true
last_all ns b h =
    let parts = and_parts (list_all is_number_byte ns) (list_all is_number_byte (b ∷ [])) (sym (list_all-append is_number_byte ns (b ∷ [])) ∙ h) in
    (and_parts (is_number_byte b) true parts.1).0

by_report : (ps : List ℕ) (o : Option Report) → report_of ps ≡ o → report_fate ps ≡ cond (is_some o) Ends (cond (begins_report ps) Waits Breaks)
by_report ps o h = ap (λ o. cond (is_some o) Ends (cond (begins_report ps) Waits Breaks)) h

pub waits_more : (ns : List ℕ) (b : ℕ) → begins_report (ns ++ b ∷ []) ≡ true → report_fate (ns ++ b ∷ []) ≡ Waits
waits_more ns b h =
    let read : List ℕ = ns ++ b ∷ [] in
    let last : is_number_byte b ≡ true = last_all ns b (and_parts (nat_le (length read) 11) (list_all is_number_byte read) h).1 in
    let none : report_of read ≡ None = of_last ns b ∙ cond-false (nat_eq b 0x4D || nat_eq b 0x6D) _ _ (number_no_final b last) in
    by_report read None none ∙ cond-true (begins_report read) Waits Breaks h

pub ends_so : (ps : List ℕ) (r : Report) → report_of ps ≡ Some r → report_fate ps ≡ Ends
ends_so ps r h = by_report ps (Some r) h

pub breaks_so : (ps : List ℕ) → report_of ps ≡ None → begins_report ps ≡ false → report_fate ps ≡ Breaks
breaks_so ps h n = by_report ps None h ∙ cond-false (begins_report ps) Waits Breaks n

-- a byte that is in no report breaks what has begun
pub other_all : (ns : List ℕ) (b : ℕ) → is_number_byte b ≡ false → list_all is_number_byte (ns ++ b ∷ []) ≡ false
other_all ns b h =
    list_all-append is_number_byte ns (b ∷ []) ∙ and_right (list_all is_number_byte ns) (list_all is_number_byte (b ∷ [])) (and_left (is_number_byte b) true h)

pub breaks_other : (ns : List ℕ) (b : ℕ) → is_number_byte b ≡ false → nat_eq b 0x4D || nat_eq b 0x6D ≡ false → report_fate (ns ++ b ∷ []) ≡ Breaks
breaks_other ns b h n =
    let read : List ℕ = ns ++ b ∷ [] in
    breaks_so read (of_last ns b ∙ cond-false (nat_eq b 0x4D || nat_eq b 0x6D) _ _ n)
    (and_right (nat_le (length read) 11) (list_all is_number_byte read) (other_all ns b h))

-- ---- three numbers

abbrev with_numbers : Bool → List ℕ → List ℕ → List ℕ → Option Report
with_numbers is_release b x y =
    cond (is_number b && (is_side_in_digits x && is_side_in_digits y))
    (Some (record { button = digits_value 10 b; column = digits_value 10 x; row = digits_value 10 y; is_release = is_release })) None

pub no_number : (ds : List ℕ) → all_ascii_digits ds ≡ false → is_side_in_digits ds ≡ false
no_number ds e = and_left (is_number ds) _ (and_right _ (all_ascii_digits ds) e)

without : (is_release : Bool) (b x y : List ℕ) → is_number b && (is_side_in_digits x && is_side_in_digits y) ≡ false → with_numbers is_release b x y ≡ None
without is_release b x y n = cond-false (is_number b && (is_side_in_digits x && is_side_in_digits y)) _ _ n

last_number : (is_release : Bool) (b x y : List ℕ) → report_of_numbers is_release (b ∷ x ∷ slice_split semicolon y) ≡ with_numbers is_release b x y
last_number is_release b x y = elim (one_or_more y) [
  | inl one ↦ ap (λ fields. report_of_numbers is_release (b ∷ x ∷ fields)) one
  | inr more ↦ (
      let no = and_right (is_side_in_digits x) (is_side_in_digits y) (no_number y more.no_digits) in
      ap (λ fields. report_of_numbers is_release (b ∷ x ∷ fields)) more.fields
      ∙ sym (without is_release b x y (and_right (is_number b) (is_side_in_digits x && is_side_in_digits y) no)))
]

not_found : (t : Bool) (n : ℕ) → cond t (Some n) None ≡ None → t ≡ false
not_found true n h = absurd (cc h)
not_found false n h = refl

pub one_field : (ns : List ℕ) → position semicolon ns ≡ None → slice_split semicolon ns ≡ ns ∷ []
one_field ns h =
    let none = not_found (nat_lt (position_or_len semicolon ns) (length ns)) (position_or_len semicolon ns) h in
    let past : length ns ≤ position_or_len semicolon ns = ltb-false (position_or_len semicolon ns) (length ns) none in
    slice_split_none semicolon ns (All-from_get_or (λ b. semicolon b ≡ false) ns 0 (λ i l. fails_before_first semicolon ns i 0 (omega arith)))

pub first_field : (ns : List ℕ) (i : ℕ) → position semicolon ns ≡ Some i → slice_split semicolon ns ≡ take i ns ∷ slice_split semicolon (drop (i + 1) ns)
first_field ns i h =
    let at = cond_some (nat_lt (position_or_len semicolon ns) (length ns)) (position_or_len semicolon ns) i h in
    slice_split_first semicolon ns 0 (ltb-true (position_or_len semicolon ns) (length ns) at.0)
    ∙ ap (λ n. take n ns ∷ slice_split semicolon (drop (n + 1) ns)) at.1

pub no_semicolon : (is_release : Bool) (ns : List ℕ) → position semicolon ns ≡ None → report_of_numbers is_release (slice_split semicolon ns) ≡ None
no_semicolon is_release ns h = ap (report_of_numbers is_release) (one_field ns h)

pub no_more : (is_release : Bool) (b cell : List ℕ) → position semicolon cell ≡ None → report_of_numbers is_release (b ∷ slice_split semicolon cell) ≡ None
no_more is_release b cell h = ap (λ fields. report_of_numbers is_release (b ∷ fields)) (one_field cell h)

-- the fields from the second on, as a slice has them
pub after_first : (is_release : Bool) (ns : List ℕ) (i : ℕ) → position semicolon ns ≡ Some i
    → report_of_numbers is_release (slice_split semicolon ns)
    ≡ report_of_numbers is_release (take i ns ∷ slice_split semicolon (take (length ns - (i + 1)) (drop (i + 1) ns)))
after_first is_release ns i h =
    ap (report_of_numbers is_release) (first_field ns i h ∙ ap (λ cell. take i ns ∷ slice_split semicolon cell) (sym (take_rest ns (i + 1))))

pub of_three : (is_release : Bool) (b cell : List ℕ) (j : ℕ) → position semicolon cell ≡ Some j
    → report_of_numbers is_release (b ∷ slice_split semicolon cell)
    ≡ report_of_numbers is_release (b ∷ take j cell ∷ take (length cell - (j + 1)) (drop (j + 1) cell) ∷ [])
of_three is_release b cell j h =
    ap (λ fields. report_of_numbers is_release (b ∷ fields)) (first_field cell j h)
    ∙ last_number is_release b (take j cell) (drop (j + 1) cell)
    ∙ ap (with_numbers is_release b (take j cell)) (sym (take_rest cell (j + 1)))
