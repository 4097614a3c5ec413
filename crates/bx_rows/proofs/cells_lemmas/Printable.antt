-- A text of printable ASCII is simple, with a column a byte. A printable byte is a character.
use Rattle.std.proofs.Common.{◌≡◌, ℕ, zero, suc, ◌+◌, ◌<◌, true, cond, List, [], ◌∷◌, ◌++◌, length, drop, get_or, chars, encode_utf8, sum_by, IsAscii, refl, sym, ap, subst}
use Rattle.std.proofs.Common.{◌∙◌, arith}
use Rattle.bx_common.specs.Characters.{are_ascii_printable, is_ascii_printable}
use Rattle.std.specs.List.{list_all}
use Rattle.std.proofs.lemmas.Bool.{and_parts, and_from, or_left}
use Rattle.std.proofs.lemmas.Bool.Decides.{nat_tests}
use Rattle.std.proofs.lemmas.List.{drop_more}
use Rattle.std.proofs.lemmas.List.Sums.{sum_by-cons}
use Rattle.std.proofs.lemmas.Str.{chars-IsAscii, encode_ascii}
use Rattle.ucd_table.specs.Rows.{in_ranges}
use Rattle.bx_rows.specs.cells.Simple.{begins, is_mark, is_simple, own_columns, simple_columns, starts, is_simple_text}
use Rattle.bx_rows.specs.cells.SimpleRanges.{common_ranges}
use Rattle.bx_rows.proofs.cells_lemmas.RangeFacts.{of_common}

pub printable_common : (c : ℕ) → is_ascii_printable c ≡ true → in_ranges common_ranges c ≡ true
unfolding in_ranges
printable_common c h = or_left (is_ascii_printable c) _ h

pub begins_ascii : (c : ℕ) → is_ascii_printable c ≡ true → (begins c ≡ true) × (own_columns c ≡ 1)
begins_ascii c h = of_common c (printable_common c h)

one_column : (c : ℕ) → is_ascii_printable c ≡ true → (begins c ≡ true) × (simple_columns c ≡ 1)
one_column c h =
    let p = begins_ascii c h in
    (p.0, ap (λ b. cond b (own_columns c) 0) p.0 ∙ p.1)

simple_bytes : (bs : List ℕ) → are_ascii_printable bs ≡ true → list_all is_simple bs ≡ true
simple_bytes [] h = refl
simple_bytes (b ∷ bs) h =
    let p = and_parts (is_ascii_printable b) (are_ascii_printable bs) h in
    and_from (is_simple b) (list_all is_simple bs) (or_left (begins b) (is_mark b) (one_column b p.0).0) (simple_bytes bs p.1)

starts_bytes : (bs : List ℕ) → are_ascii_printable bs ≡ true → starts bs ≡ true
starts_bytes [] h = refl
starts_bytes (b ∷ bs) h = (one_column b (and_parts (is_ascii_printable b) (are_ascii_printable bs) h).0).0

columns_bytes : (bs : List ℕ) → are_ascii_printable bs ≡ true → sum_by simple_columns bs ≡ length bs
columns_bytes [] h = refl
columns_bytes (b ∷ bs) h =
    let p = and_parts (is_ascii_printable b) (are_ascii_printable bs) h in
    sum_by-cons simple_columns b bs ∙ omega (arith, (one_column b p.0).1, columns_bytes bs p.1)

pub ascii_byte : (b : ℕ) → is_ascii_printable b ≡ true → b < 128
ascii_byte b h = grind (arith, nat_tests)

-- the byte, and the bytes after it
pub left_at : (body : List ℕ) (at : ℕ) → at < length body → is_ascii_printable (get_or body at 0) ≡ true
    → drop at body ≡ encode_utf8 (get_or body at 0) ++ drop (at + 1) body
left_at body at less h =
    drop_more body at 0 less ∙ ap (λ x. x ++ drop (at + 1) body) (sym (encode_ascii (get_or body at 0) (ascii_byte (get_or body at 0) h)))

pub ascii_bytes : (bs : List ℕ) → are_ascii_printable bs ≡ true → IsAscii bs
ascii_bytes [] h i = omega arith
ascii_bytes (b ∷ bs) h zero = ascii_byte b (and_parts (is_ascii_printable b) (are_ascii_printable bs) h).0
ascii_bytes (b ∷ bs) h (suc i) = ascii_bytes bs (and_parts (is_ascii_printable b) (are_ascii_printable bs) h).1 i

pub printable-simple : (body : List ℕ) → are_ascii_printable body ≡ true
    → (is_simple_text (chars body) ≡ true) × (sum_by simple_columns (chars body) ≡ length body)
printable-simple body h =
    let e = sym (chars-IsAscii body (ascii_bytes body h)) in (
      subst (λ cs. is_simple_text cs ≡ true) e (and_from (starts body) (list_all is_simple body) (starts_bytes body h) (simple_bytes body h)),
      subst (λ cs. sum_by simple_columns cs ≡ length body) e (columns_bytes body h),
    )
