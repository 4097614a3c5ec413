-- Closers that are known to meet no opener.
use Rattle.std.proofs.Common.{◌≡◌, ◌≢◌, ◌%◌, ◌∙◌, ℕ, zero, suc, List, [], ◌∷◌, get_or, set, replicate, refl, ap, sym, subst, Bool, true}
use Rattle.std.proofs.Common.{false, cond, Option, Some, None}
use Rattle.std.specs.Prelude.{find, ◌==◌}
use Rattle.std.proofs.lemmas.List.{get_or-set_other}
use Rattle.std.proofs.lemmas.Bool.{eqb-true, eqb-false}
use Rattle.bx_levels.specs.brackets.Search.{below_first, is_for, AreMissed}

abbrev nothing : Option ℕ
nothing = None

pub none_noted : (n k : ℕ) → get_or (replicate n nothing) k nothing ≡ nothing
none_noted zero k = refl
none_noted (suc n) zero = refl
none_noted (suc n) (suc k) = none_noted n k

set_none : (noted : List (Option ℕ)) (k : ℕ) → get_or (set noted k None) k None ≡ None
set_none [] k = refl
set_none (x ∷ noted) zero = refl
set_none (x ∷ noted) (suc k) = set_none noted k

set_some : (noted : List (Option ℕ)) (k c d : ℕ) → get_or (set noted k (Some c)) k None ≡ Some d → c ≡ d
set_some [] k c d e = absurd (cc)
set_some (x ∷ noted) zero c d e = cc
set_some (x ∷ noted) (suc k) c d e = set_some noted k c d e

pub missed_none : (missed : List (Option ℕ)) (os : List (ℕ × ℕ)) → ((k : ℕ) → get_or missed k None ≡ None) → AreMissed missed os
missed_none missed os h k c e = let none : get_or missed k None ≡ None = h k in absurd (cc)

find_below : (p q : ℕ × ℕ → Bool) (os : List (ℕ × ℕ)) → find q os ≡ None → find q (below_first p os) ≡ None
find_below p q [] e = refl
find_below p q (o ∷ os) e = (elim (q o) as (λ b. cond b (Some o) (find q os) ≡ None
    → find q (elim (p o) as (λ v. List (ℕ × ℕ)) [ true ↦ os | false ↦ below_first p os ]) ≡ None) [
      | true ↦ λ k. absurd (cc)
      | false ↦ λ k. elim (p o) as (λ b. find q (elim b as (λ v. List (ℕ × ℕ)) [ true ↦ os | false ↦ below_first p os ]) ≡ None)
          [ true ↦ k | false ↦ find_below p q os k ]
    ]) e

pub missed_below : (missed : List (Option ℕ)) (os : List (ℕ × ℕ)) (p : ℕ × ℕ → Bool) → AreMissed missed os → AreMissed missed (below_first p os)
missed_below missed os p a k c e = ((a k c e).0, find_below p (is_for c) os (a k c e).1)

none_by : (same : Bool) (o : ℕ × ℕ) (rest : Option (ℕ × ℕ)) → same ≡ false → rest ≡ None → cond same (Some o) rest ≡ None
none_by true o rest e n = absurd (cc)
none_by false o rest e n = n

differ : (closer c k : ℕ) (b : Bool) → (closer == c) ≡ b → c % 31 ≡ k → k ≢ closer % 31 → b ≡ false
differ closer c k true e low ne = let same : closer ≡ c = eqb-true closer c e in absurd (ne (sym low ∙ ap (λ n. n % 31) (sym same)))
differ closer c k false e low ne = refl

-- an opener for a closer is put on
push_by : (missed : List (Option ℕ)) (os : List (ℕ × ℕ)) (j closer k c : ℕ) (b : Bool) → (k == (closer % 31)) ≡ b
    → AreMissed missed os → get_or (set missed (closer % 31) None) k None ≡ Some c → (c % 31 ≡ k) × (find (is_for c) ((j, closer) ∷ os) ≡ None)
push_by missed os j closer k c true s a e =
    let same : k ≡ closer % 31 = eqb-true k (closer % 31) s in
    let put : get_or (set missed (closer % 31) None) (closer % 31) None ≡ None = set_none missed (closer % 31) in
    let here : get_or (set missed (closer % 31) None) k None ≡ None = ap (λ n. get_or (set missed (closer % 31) None) n None) same ∙ put in
    absurd (cc)
push_by missed os j closer k c false s a e =
    let ne : k ≢ closer % 31 = eqb-false k (closer % 31) s in
    let old : get_or missed k None ≡ Some c = sym (get_or-set_other missed (closer % 31) k None None ne) ∙ e in
    let low : c % 31 ≡ k = (a k c old).0 in
    ((a k c old).0, none_by (closer == c) (j, closer) (find (is_for c) os) (differ closer c k (closer == c) refl low ne) (a k c old).1)

pub missed_push : (missed : List (Option ℕ)) (os : List (ℕ × ℕ)) (j closer : ℕ) → AreMissed missed os
    → AreMissed (set missed (closer % 31) None) ((j, closer) ∷ os)
missed_push missed os j closer a k c e = push_by missed os j closer k c (k == (closer % 31)) refl a e

-- a closer meets none
miss_by : (missed : List (Option ℕ)) (os : List (ℕ × ℕ)) (closer k c : ℕ) (b : Bool) → (k == (closer % 31)) ≡ b → AreMissed missed os
    → find (is_for closer) os ≡ None
    → get_or (set missed (closer % 31) (Some closer)) k None ≡ Some c → (c % 31 ≡ k) × (find (is_for c) os ≡ None)
miss_by missed os closer k c true s a n e =
    let same : k ≡ closer % 31 = eqb-true k (closer % 31) s in
    let is : closer ≡ c = set_some missed (closer % 31) closer c (ap (λ m. get_or (set missed (closer % 31) (Some closer)) m None) (sym same) ∙ e) in
    subst (λ x. (x % 31 ≡ k) × (find (is_for x) os ≡ None)) is (sym same, n)
miss_by missed os closer k c false s a n e =
    let ne : k ≢ closer % 31 = eqb-false k (closer % 31) s in
    a k c (sym (get_or-set_other missed (closer % 31) k (Some closer) None ne) ∙ e)

pub missed_more : (missed : List (Option ℕ)) (os : List (ℕ × ℕ)) (closer : ℕ) → AreMissed missed os → find (is_for closer) os ≡ None
    → AreMissed (set missed (closer % 31) (Some closer)) os
missed_more missed os closer a n k c e = miss_by missed os closer k c (k == (closer % 31)) refl a n e
