-- What the bytes of a size are, by their last byte.
use Rattle.std.proofs.Common.{◌≡◌, ℕ, true, false, cond, nat_eq, nat_le, List, [], ◌∷◌, ◌++◌, length, Option, Some, None, ap, ◌∙◌, arith}
use Rattle.std.specs.Prelude.{is_some}
use Rattle.std.specs.List.{list_all, slice_split}
use Rattle.std.proofs.lemmas.Bool.{and_parts, and_right, cond-true, cond-false}
use Rattle.std.proofs.lemmas.Bool.Decides.{nat_tests}
use Rattle.bx_bytes.specs.declared.fate.Fate.TheVariants.{Waits, Ends, Breaks}
use Rattle.bx_keys.specs.declared.key.Key.{Key}
use Rattle.bx_input.specs.Mouse.{is_number_byte, begins_report}
use Rattle.bx_input.specs.Sizes.{size_of_numbers, size_of, size_fate}
use Rattle.bx_input.proofs.Reports.{semicolon, last_all, other_all}
use Rattle.bx_input.proofs.SizeFields.{of_last}

by_size : (ps : List ℕ) (o : Option Key) → size_of ps ≡ o → size_fate ps ≡ cond (is_some o) Ends (cond (begins_report ps) Waits Breaks)
by_size ps o h = ap (λ o. cond (is_some o) Ends (cond (begins_report ps) Waits Breaks)) h

number_no_final : (b : ℕ) → is_number_byte b ≡ true → nat_eq b 0x74 ≡ false
number_no_final b h = grind (arith, nat_tests)

no_final : (ns : List ℕ) (b : ℕ) → nat_eq b 0x74 ≡ false → size_of (ns ++ b ∷ []) ≡ None
no_final ns b n = of_last ns b ∙ cond-false (nat_eq b 0x74) (size_of_numbers (slice_split semicolon ns)) None n

pub size_waits : (ns : List ℕ) (b : ℕ) → begins_report (ns ++ b ∷ []) ≡ true → size_fate (ns ++ b ∷ []) ≡ Waits
size_waits ns b h =
    let read : List ℕ = ns ++ b ∷ [] in
    let last : is_number_byte b ≡ true = last_all ns b (and_parts (nat_le (length read) 11) (list_all is_number_byte read) h).1 in
    by_size read None (no_final ns b (number_no_final b last)) ∙ cond-true (begins_report read) Waits Breaks h

pub size_ends : (ps : List ℕ) (key : Key) → size_of ps ≡ Some key → size_fate ps ≡ Ends
size_ends ps key h = by_size ps (Some key) h

-- a byte that is in no size breaks what has begun
pub size_breaks_other : (ns : List ℕ) (b : ℕ) → is_number_byte b ≡ false → nat_eq b 0x74 ≡ false → size_fate (ns ++ b ∷ []) ≡ Breaks
size_breaks_other ns b h n =
    let read : List ℕ = ns ++ b ∷ [] in
    by_size read None (no_final ns b n)
    ∙ cond-false (begins_report read) Waits Breaks (and_right (nat_le (length read) 11) (list_all is_number_byte read) (other_all ns b h))
