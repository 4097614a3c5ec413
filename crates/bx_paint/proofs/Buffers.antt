-- Bytes appended to others.
use Rattle.std.proofs.Common.{◌≡◌, ℕ, ◌+◌, ◌-◌, ◌≤◌, nat_eq, List, [], ◌∷◌, length, drop, arith}
use Rattle.std.proofs.lemmas.Bool.Decides.{nat_tests}
use Rattle.std.proofs.lemmas.List.{length-drop}
use Rattle.bx_paint.specs.Painting.{is_none}

none_by : (ys : List ℕ) (n k : ℕ) → k ≡ n + length ys → nat_eq k n ≡ is_none ys
none_by [] n k e = let same : k ≡ n = omega (arith, e) in grind (arith, nat_tests)
none_by (y ∷ ys) n k e = let more : n + 1 ≤ k = omega (arith, e) in grind (arith, nat_tests)

-- nothing is left after n bytes
pub none_behind : (xs : List ℕ) (n k : ℕ) → n ≤ length xs → k ≡ length xs → nat_eq k n ≡ is_none (drop n xs)
none_behind xs n k le e = none_by (drop n xs) n k (let l : length (drop n xs) ≡ length xs - n = length-drop n xs in omega (arith, l, le, e))
