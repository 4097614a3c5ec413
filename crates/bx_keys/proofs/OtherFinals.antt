-- Control sequences that have no key.
use Rattle.std.proofs.Common.{◌≡◌, ◌≢◌, ℕ, ◌-◌, ◌≤◌, inl, inr, Bool, true, false, ◌||◌, nat_eq, nat_le, List, [], ◌∷◌, ◌++◌, length, Some, None, refl, ap, sym, ◌∙◌}
use Rattle.std.proofs.Common.{arith}
use Rattle.std.specs.List.{find, list_all}
use Rattle.std.specs.Option.{option_map}
use Rattle.std.specs.Str.{bytes_eq}
use Rattle.std.proofs.lemmas.Bool.{cases_Bool, both_ways, and_parts, or_from, cond-false, ne_eqb}
use Rattle.std.proofs.lemmas.Bool.Decides.{nat_tests}
use Rattle.std.proofs.lemmas.List.{get_or_push, length_push}
use Rattle.std.proofs.lemmas.Slice.Eq.{bytes_eq-Decides}
use Rattle.bx_keys.specs.Keys.{final_byte, sequence_keys, sequence_key}
use Rattle.bx_keys.specs.declared.key.Key.{Key}

-- ---- bytes that lack what the bytes of all keys have

different : (fits : List ℕ → Bool) (xs bs : List ℕ) → fits xs ≡ true → fits bs ≡ false → bytes_eq xs bs ≡ false
different fits xs bs h other = elim (cases_Bool (bytes_eq xs bs)) [
  | inl same ↦ absurd (both_ways (fits bs) other (ap fits (sym ((bytes_eq-Decides xs bs).0 same)) ∙ h))
  | inr differs ↦ differs
]

not_found : (fits : List ℕ → Bool) (keys : List (List ℕ × Key)) (bs : List ℕ) → list_all (λ key. fits key.0) keys ≡ true → fits bs ≡ false
    → find (λ key. bytes_eq key.0 bs) keys ≡ None
not_found fits [] bs all other = refl
not_found fits (key ∷ keys) bs all other =
    let parts = and_parts (fits key.0) (list_all (λ k. fits k.0) keys) all in
    cond-false (bytes_eq key.0 bs) (Some key) (find (λ k. bytes_eq k.0 bs) keys) (different fits key.0 bs parts.0 other)
    ∙ not_found fits keys bs parts.1 other

-- ---- more than four bytes

pub longer_no_key : (bs : List ℕ) → 5 ≤ length bs → find (λ key. bytes_eq key.0 bs) sequence_keys ≡ None
longer_no_key bs long =
    let other : nat_le (length bs) 4 ≡ false = grind (arith, nat_tests, long) in not_found (λ xs. nat_le (length xs) 4) sequence_keys bs refl other

-- ---- the final byte

final_of : (between : List ℕ) (last : ℕ) → final_byte (between ++ last ∷ []) ≡ last
final_of between last = get_or_push between last 0 (length (between ++ last ∷ []) - 1) (omega (arith, length_push between last))

not_sides : (between : List ℕ) (last : ℕ) → last ≢ 0x74 → find (λ key. bytes_eq key.0 (between ++ last ∷ [])) sequence_keys ≡ None
    → sequence_key (between ++ last ∷ []) ≡ None
not_sides between last n none =
    cond-false (nat_eq (final_byte (between ++ last ∷ [])) 0x74) _ _ (ap (λ b. nat_eq b 0x74) (final_of between last) ∙ ne_eqb last 0x74 n)
    ∙ ap (option_map (λ key. key.1)) none

pub long_no_key : (between : List ℕ) (last : ℕ) → 4 ≤ length between → last ≢ 0x74 → sequence_key (between ++ last ∷ []) ≡ None
long_no_key between last long n =
    not_sides between last n (longer_no_key (between ++ last ∷ []) (omega (arith, length_push between last, long)))

-- one byte, or a tilde at the end
abbrev is_simple : List ℕ → Bool
is_simple bs = nat_eq (length bs) 1 || nat_eq (final_byte bs) 0x7E

pub other_final_no_key : (between : List ℕ) (last : ℕ) → 1 ≤ length between → last ≢ 0x74 → last ≢ 0x7E → sequence_key (between ++ last ∷ []) ≡ None
other_final_no_key between last some n m =
    let body : List ℕ = between ++ last ∷ [] in
    let more : nat_eq (length body) 1 ≡ false = ne_eqb (length body) 1 (λ e. omega (arith, length_push between last, some, e)) in
    let other : nat_eq (final_byte body) 0x7E ≡ false = ap (λ b. nat_eq b 0x7E) (final_of between last) ∙ ne_eqb last 0x7E m in
    not_sides between last n (not_found is_simple sequence_keys body refl (or_from (nat_eq (length body) 1) (nat_eq (final_byte body) 0x7E) more other))
