-- The lowest odd level, or 255: it is above 0, and above all levels where none is odd.
use Rattle.std.proofs.Common.{◌≡◌, ℕ, zero, suc, ◌+◌, ◌-◌, ◌%◌, ◌<◌, ◌≤◌, max, min, List, [], ◌∷◌, length, get_or, drop, Option, Some, None, refl, sym, ap, ap₂, subst, ◌∙◌, arith}
use Rattle.std.specs.Prelude.{unwrap_or}
use Rattle.std.proofs.lemmas.List.{at_drop_more}
use Rattle.bx_rows.specs.RowLevels.{highest, lower, lowest_odd, lower_odd}

abbrev choice : ℕ → Option ℕ → ℕ → Option ℕ
choice l o p = elim p as (λ n. Option ℕ) [ zero ↦ o | suc n ↦ Some (lower l o) ]

-- one more level
more : (l p : ℕ) (o : Option ℕ) → l ≤ 255 → unwrap_or o 255 ≤ 255 → min (unwrap_or (choice l None p) 255) (unwrap_or o 255) ≡ unwrap_or (choice l o p) 255
more l zero o h k = omega (arith, k)
more l (suc p) None h k = omega (arith, h)
more l (suc p) (Some b) h k = refl

pub lowest_more : (ls : List ℕ) (i a b : ℕ) → 0 < i → i ≤ length ls → get_or ls (i - 1) 0 ≤ 255 → b ≤ 255
    → a ≡ unwrap_or (lower_odd (get_or ls (i - 1) 0) None) 255 → b ≡ unwrap_or (lowest_odd (drop i ls)) 255
    → min a b ≡ unwrap_or (lowest_odd (drop (i - 1) ls)) 255
lowest_more ls i a b some within fits bound e f =
    let l = get_or ls (i - 1) 0 in
    let next : i - 1 + 1 ≡ i = omega (arith, some) in
    ap₂ (λ x y. min x y) e f
    ∙ more l (l % 2) (lowest_odd (drop i ls)) fits (subst (λ n. n ≤ 255) f bound)
    ∙ ap (λ o. unwrap_or o 255)
    (sym (at_drop_more lowest_odd ls (i - 1) 0 (omega (arith, some, within)) ∙ ap (λ k. lower_odd l (lowest_odd (drop k ls))) next))

above : (l p : ℕ) (o : Option ℕ) → l % 2 ≡ p → 0 < unwrap_or o 255 → 0 < unwrap_or (choice l o p) 255
above l zero o e h = h
above l (suc p) None e h = omega (arith, e)
above l (suc p) (Some b) e h = omega (arith, e, h)

pub lowest_some : (ls : List ℕ) → 0 < unwrap_or (lowest_odd ls) 255
lowest_some [] = omega arith
lowest_some (l ∷ ls) = above l (l % 2) (lowest_odd ls) refl (lowest_some ls)

even : (l p high : ℕ) (o : Option ℕ) → l % 2 ≡ p → (o ≡ None → high % 2 ≡ 0) → choice l o p ≡ None → max l high % 2 ≡ 0
even l zero high o e h none = let k = h none in omega (arith, e, k)
even l (suc p) high o e h none = absurd (cc none)

-- where no level is odd, the highest is even
pub highest_even : (ls : List ℕ) → lowest_odd ls ≡ None → highest ls % 2 ≡ 0
highest_even [] e = refl
highest_even (l ∷ ls) e = even l (l % 2) (highest ls) (lowest_odd ls) refl (highest_even ls) e
