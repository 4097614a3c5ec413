-- The sequences of the code's table, and the patterns of the definition.
use Rattle.std.proofs.Common.{◌≡◌, ℕ, Bool, true, false, ◌&&◌, ◌||◌, nat_eq, ◌-◌, List, [], ◌∷◌, drop, length, take, map, refl, ap, sym, ◌∙◌, arith}
use Rattle.std.proofs.Common.{Option, Some, option_map, find, cond}
use Rattle.std.specs.List.{list_any, starts_with}
use Rattle.std.specs.Str.{bytes_eq}
use Rattle.std.proofs.lemmas.Bool.{cond-false}
use Rattle.std.proofs.lemmas.Bool.Decides.{nat_tests}
use Rattle.std.proofs.lemmas.List.{take_rest}
use Rattle.bx_bytes.specs.Pattern.{is_within, matches, begins, matches_any, begins_any, fate_in}
use Rattle.bx_input.specs.Known.{fate}
use Rattle.bx_input.specs.Models.{row_in}
use Rattle.bx_input.specs.Mouse.{opens_report, report_fate}
use Rattle.bx_input.specs.Sizes.{opens_size, size_fate}
use Rattle.bx_input.specs.Table.{Row, exact, known_rows, sequences}
use Rattle.bx_input.specs.declared.table.Row as code

same_byte : (a b : ℕ) → is_within a a b ≡ nat_eq a b
same_byte a b = grind (arith, nat_tests)

other_way : (a b : ℕ) → is_within a a b ≡ nat_eq b a
other_way a b = grind (arith, nat_tests)

matches_exact : (s bs : List ℕ) → matches (exact s) bs ≡ bytes_eq s bs
matches_exact [] [] = refl
matches_exact [] (b ∷ bs) = refl
matches_exact (a ∷ s) [] = refl
matches_exact (a ∷ s) (b ∷ bs) = ap (λ t. t && matches (exact s) bs) (same_byte a b) ∙ ap (λ t. nat_eq a b && t) (matches_exact s bs)

begins_exact : (s bs : List ℕ) → begins (exact s) bs ≡ starts_with nat_eq s bs
begins_exact [] [] = refl
begins_exact [] (b ∷ bs) = refl
begins_exact (a ∷ s) [] = refl
begins_exact (a ∷ s) (b ∷ bs) = ap (λ t. t && begins (exact s) bs) (other_way a b) ∙ ap (λ t. nat_eq b a && t) (begins_exact s bs)

any_matches : (rows : List code.Row) (bs : List ℕ)
    → list_any (λ (r : code.Row). bytes_eq (row_in r).sequence bs) rows ≡ matches_any (map (λ (r : Row). exact r.sequence) (map row_in rows)) bs
any_matches [] bs = refl
any_matches (r ∷ rows) bs =
    ap (λ t. t || list_any (λ (r : code.Row). bytes_eq (row_in r).sequence bs) rows) (sym (matches_exact (row_in r).sequence bs))
    ∙ ap (λ t. matches (exact (row_in r).sequence) bs || t) (any_matches rows bs)

any_begins : (rows : List code.Row) (bs : List ℕ)
    → list_any (λ (r : code.Row). starts_with nat_eq (row_in r).sequence bs) rows ≡ begins_any (map (λ (r : Row). exact r.sequence) (map row_in rows)) bs
any_begins [] bs = refl
any_begins (r ∷ rows) bs =
    ap (λ t. t || list_any (λ (r : code.Row). starts_with nat_eq (row_in r).sequence bs) rows) (sym (begins_exact (row_in r).sequence bs))
    ∙ ap (λ t. begins (exact (row_in r).sequence) bs || t) (any_begins rows bs)

pub known_match : (rows : List code.Row) (bs : List ℕ) → map row_in rows ≡ known_rows
    → list_any (λ (r : code.Row). bytes_eq (row_in r).sequence bs) rows ≡ matches_any sequences bs
known_match rows bs same = any_matches rows bs ∙ ap (λ rows. matches_any (map (λ (r : Row). exact r.sequence) rows) bs) same

pub known_begin : (rows : List code.Row) (bs : List ℕ) → map row_in rows ≡ known_rows
    → list_any (λ (r : code.Row). starts_with nat_eq (row_in r).sequence bs) rows ≡ begins_any sequences bs
known_begin rows bs same = any_begins rows bs ∙ ap (λ rows. begins_any (map (λ (r : Row). exact r.sequence) rows) bs) same

found_by : (t : Bool) (r : code.Row) (rest : Option code.Row) → option_map row_in (cond t (Some r) rest) ≡ cond t (Some (row_in r)) (option_map row_in rest)
found_by true r rest = refl
found_by false r rest = refl

-- the row of the code's rows that has the bytes
pub found : (rows : List code.Row) (bs : List ℕ)
    → option_map row_in (find (λ (r : code.Row). bytes_eq (row_in r).sequence bs) rows) ≡ find (λ (r : Row). bytes_eq r.sequence bs) (map row_in rows)
found [] bs = refl
found (r ∷ rows) bs =
    found_by (bytes_eq (row_in r).sequence bs) r (find (λ (r : code.Row). bytes_eq (row_in r).sequence bs) rows)
    ∙ ap (λ rest. cond (bytes_eq (row_in r).sequence bs) (Some (row_in r)) rest) (found rows bs)

-- a row first, and then others
pub first_or : (r : Row) (rows : List Row) (bs : List ℕ) (t : Bool) → bytes_eq r.sequence bs ≡ t
    → find (λ (r : Row). bytes_eq r.sequence bs) (r ∷ rows) ≡ cond t (Some r) (find (λ (r : Row). bytes_eq r.sequence bs) rows)
first_or r rows bs t h = ap (λ t. cond t (Some r) (find (λ (r : Row). bytes_eq r.sequence bs) rows)) h

-- all bytes behind the first n of them
pub all_behind : (bs : List ℕ) (n : ℕ) → take (length bs - n) (drop n bs) ≡ drop n bs
all_behind bs n = take_rest bs n

-- neither a mouse report nor a size is begun
pub table_by : (bs : List ℕ) → opens_report bs ≡ false → opens_size bs ≡ false → fate bs ≡ fate_in sequences bs
table_by bs h g =
    cond-false (opens_report bs) (report_fate (drop 3 bs)) (cond (opens_size bs) (size_fate (drop 4 bs)) (fate_in sequences bs)) h
    ∙ cond-false (opens_size bs) (size_fate (drop 4 bs)) (fate_in sequences bs) g
