-- A block of printable bytes after others.
use Rattle.std.proofs.Common.{◌≡◌, ℕ, zero, suc, ◌+◌, ◌-◌, ◌<◌, ◌≤◌, Bool, true, false, nat_lt}
use Rattle.std.proofs.Common.{List, [], ◌∷◌, length, take, drop, get_or, slice_range, refl, ap, subst, ◌∙◌, arith}
use Rattle.bx_common.specs.Characters.{are_ascii_printable, is_ascii_printable}
use Rattle.std.specs.List.{list_all}
use Rattle.std.proofs.lemmas.Bool.{and_parts}
use Rattle.std.proofs.lemmas.Bool.Decides.{nat_tests}
use Rattle.std.proofs.lemmas.List.{get_or-drop, get_or-take, length-drop, length-take-le}

each_passes : (p : ℕ → Bool) (xs : List ℕ) (i : ℕ) → i < length xs → list_all p xs ≡ true → p (get_or xs i 0) ≡ true
each_passes p [] i less h = absurd (omega (arith, less))
each_passes p (x ∷ xs) zero less h = (and_parts (p x) (list_all p xs) h).0
each_passes p (x ∷ xs) (suc i) less h = each_passes p xs i (omega (arith, less)) (and_parts (p x) (list_all p xs) h).1

if_less : (i n : ℕ) → nat_lt i n ≡ true → i < n
if_less i n h = grind (arith, nat_tests)

if_not_less : (i n : ℕ) → nat_lt i n ≡ false → n ≤ i
if_not_less i n h = grind (arith, nat_tests)

module _ (bytes : List ℕ) (at stop n : ℕ) (inside : stop + n ≤ length bytes)
    (before : (i : ℕ) → at ≤ i → i < stop → is_ascii_printable (get_or bytes i 0) ≡ true)
    (block : are_ascii_printable (slice_range bytes stop (stop + n)) ≡ true) where
  in_block : (i : ℕ) → stop ≤ i → i < stop + n → is_ascii_printable (get_or bytes i 0) ≡ true
  in_block i from less =
      let k = i - stop in
      let many : (stop + n) - stop ≡ n = omega arith in
      let text : are_ascii_printable (take n (drop stop bytes)) ≡ true =
      subst (λ m. are_ascii_printable (take m (drop stop bytes)) ≡ true) many block in
      let short : k < n = omega (arith, from, less) in
      let fits : n ≤ length (drop stop bytes) = omega (arith, inside, length-drop stop bytes) in
      let size = length-take-le n (drop stop bytes) fits in
      let here : stop + k ≡ i = omega (arith, from) in
      let same : get_or (take n (drop stop bytes)) k 0 ≡ get_or bytes i 0 =
      get_or-take n (drop stop bytes) k 0 short ∙ get_or-drop stop bytes k 0 ∙ ap (λ j. get_or bytes j 0) here in
      subst (λ b. is_ascii_printable b ≡ true) same
      (each_passes is_ascii_printable (take n (drop stop bytes)) k (omega (arith, short, size)) text)

  in_either : (i : ℕ) (b : Bool) → nat_lt i stop ≡ b → at ≤ i → i < stop + n → is_ascii_printable (get_or bytes i 0) ≡ true
  in_either i true e from less = before i from (if_less i stop e)
  in_either i false e from less = in_block i (if_not_less i stop e) less

  pub block_more : (i : ℕ) → at ≤ i → i < stop + n → is_ascii_printable (get_or bytes i 0) ≡ true
  block_more i from less = in_either i (nat_lt i stop) refl from less
