-- Where groups start and end, from one length of the past to the next.
use Rattle.std.proofs.Common.{◌≡◌, ℕ, ◌+◌, ◌-◌, ◌<◌, ◌≤◌, true, max, List, [], ◌∷◌, refl, ap, arith, inl, inr}
use Rattle.std.specs.Prelude.{if◌then◌else◌}
use Rattle.std.proofs.lemmas.Bool.{le-ltb, lt-ltb}
use Rattle.std.proofs.lemmas.Bool.Decides.{nat_tests, leb_tells}
use Rattle.bx_editor.specs.undo_groups.Groups.{below, run_start, run_end}
use Rattle.bx_editor.specs.undo_groups.Laws.{begins_at}

-- ---- starts

pub start-bound : (numbers : List ℕ) (n : ℕ) → run_start numbers n ≤ n - 1
start-bound [] n = omega arith
start-bound (r ∷ rs) n = grind (arith, nat_tests, start-bound rs n)

pub start-step : (numbers : List ℕ) (n : ℕ) → run_start numbers (n + 1) ≡ (if begins_at numbers n then n else run_start numbers n)
start-step [] n = refl
start-step (r ∷ rs) n = grind (arith, nat_tests, start-step rs n, start-bound rs n, start-bound rs (n + 1))

pub start-upper : (numbers : List ℕ) (n r : ℕ) → begins_at numbers r ≡ true → r < n → r ≤ run_start numbers n
start-upper [] n r there before = absurd (cc)
start-upper (s ∷ rs) n r there before = grind (arith, nat_tests, start-upper rs n r)

-- ---- ends

pub end-bound : (numbers : List ℕ) (n last : ℕ) → n < last → n < run_end numbers n last
end-bound [] n last more = more
end-bound (r ∷ rs) n last more = grind (arith, nat_tests, end-bound rs n last more)

pub end-last : (numbers : List ℕ) (n last : ℕ) → run_end numbers n last ≤ last
end-last [] n last = omega arith
end-last (r ∷ rs) n last = grind (arith, nat_tests, end-last rs n last)

pub end-same : (numbers : List ℕ) (n : ℕ) → run_end numbers n n ≡ n
end-same [] n = refl
end-same (r ∷ rs) n = grind (arith, nat_tests, end-same rs n)

pub end-step : (numbers : List ℕ) (n last : ℕ) → n < last → run_end numbers n last ≡ (if begins_at numbers (n + 1) then n + 1 else run_end numbers (n + 1) last)
end-step [] n last more = refl
end-step (r ∷ rs) n last more = grind (arith, nat_tests, end-step rs n last more, end-bound rs n last more)

pub end-upper : (numbers : List ℕ) (n last r : ℕ) → begins_at numbers r ≡ true → n < r → run_end numbers n last ≤ r
end-upper [] n last r there before = absurd (cc)
end-upper (s ∷ rs) n last r there before = grind (arith, nat_tests, end-upper rs n last r)

-- where each number above s is n or more
pub end-lower : (numbers : List ℕ) (s n last : ℕ) → ((r : ℕ) → begins_at numbers r ≡ true → s < r → n ≤ r) → n ≤ last → n ≤ run_end numbers s last
end-lower [] s n last all few = few
end-lower (x ∷ xs) s n last all few =
    let rest = end-lower xs s n last (λ r there past. all r (grind (arith, nat_tests, there)) past) few in
    elim (leb_tells x s) as (λ _. n ≤ run_end (x ∷ xs) s last) [
      | inl h ↦ rw (le-ltb s x h.1) rest
      | inr h ↦ rw (lt-ltb s x h.1) (omega (arith, rest, all x (grind (arith, nat_tests)) h.1))
    ]

-- where each number below e is m or less
pub start-lower : (numbers : List ℕ) (e m : ℕ) → ((r : ℕ) → begins_at numbers r ≡ true → r < e → r ≤ m) → run_start numbers e ≤ m
start-lower [] e m all = omega arith
start-lower (x ∷ xs) e m all =
    let rest = start-lower xs e m (λ r there before. all r (grind (arith, nat_tests, there)) before) in
    elim (leb_tells e x) as (λ _. run_start (x ∷ xs) e ≤ m) [
      | inl h ↦ rw (le-ltb x e h.1) rest
      | inr h ↦ rw (lt-ltb x e h.1) (omega (arith, rest, all x (grind (arith, nat_tests)) h.1))
    ]

-- what is below n stays below n + 1
pub start-of-below : (numbers : List ℕ) (n : ℕ) → run_start (below n numbers) (n + 1) ≡ run_start numbers n
start-of-below [] n = refl
start-of-below (x ∷ xs) n = elim (leb_tells n x) as (λ _. run_start (below n (x ∷ xs)) (n + 1) ≡ run_start (x ∷ xs) n) [
  | inl h ↦ rw (le-ltb x n h.1) (start-of-below xs n)
  | inr h ↦ rw (lt-ltb x n h.1, lt-ltb x (n + 1) (omega (arith, h.1))) (ap (max x) (start-of-below xs n))
]
