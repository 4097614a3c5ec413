-- The last unit that passes a test, from the end.
use Rattle.std.proofs.Common.{◌≡◌, ℕ, zero, suc, ◌-◌, ◌<◌, ◌≤◌, Bool, true, false, List, [], ◌∷◌, length, get_or, take, sym, ap, subst, ◌∙◌, arith}
use Rattle.bx_rows.specs.declared.cells.unit.Unit.{Unit}
use Rattle.bx_rows.specs.Wrapping.{up_to_last}

last_true : (p : Unit → Bool) (us : List Unit) (n : ℕ) (d : Unit) → n < length us → p (get_or us n d) ≡ true → up_to_last p (take (suc n) us) ≡ suc n
last_true p [] n d h e = absurd (omega arith)
last_true p (u ∷ us) zero d h e = ap (λ b. elim b [ true ↦ 1 | false ↦ 0 ]) e
last_true p (u ∷ us) (suc n) d h e = ap (λ m. elim m [ suc k ↦ suc (suc k) | zero ↦ elim (p u) [ true ↦ 1 | false ↦ 0 ] ]) (last_true p us n d (omega arith) e)

last_false : (p : Unit → Bool) (us : List Unit) (n : ℕ) (d : Unit) → n < length us → p (get_or us n d) ≡ false
    → up_to_last p (take (suc n) us) ≡ up_to_last p (take n us)
last_false p [] n d h e = absurd (omega arith)
last_false p (u ∷ us) zero d h e = ap (λ b. elim b [ true ↦ 1 | false ↦ 0 ]) e
last_false p (u ∷ us) (suc n) d h e = ap (λ m. elim m [ suc k ↦ suc (suc k) | zero ↦ elim (p u) [ true ↦ 1 | false ↦ 0 ] ])
    (last_false p us n d (omega arith) e)

pub last_here : (p : Unit → Bool) (us : List Unit) (n : ℕ) (d : Unit) → 0 < n → n ≤ length us → p (get_or us (n - 1) d) ≡ true → up_to_last p (take n us) ≡ n
last_here p us zero d h k e = absurd (omega arith)
last_here p us (suc n) d h k e = let m : suc n - 1 ≡ n = omega arith in last_true p us n d (omega arith) (subst (λ i. p (get_or us i d) ≡ true) m e)

pub last_before : (p : Unit → Bool) (us : List Unit) (n : ℕ) (d : Unit) → 0 < n → n ≤ length us → p (get_or us (n - 1) d) ≡ false
    → up_to_last p (take n us) ≡ up_to_last p (take (n - 1) us)
last_before p us zero d h k e = absurd (omega arith)
last_before p us (suc n) d h k e =
    let m : suc n - 1 ≡ n = omega arith in last_false p us n d (omega arith) (subst (λ i. p (get_or us i d) ≡ false) m e)
    ∙ ap (λ i. up_to_last p (take i us)) (sym m)
