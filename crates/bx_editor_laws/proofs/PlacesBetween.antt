-- Offsets between the place of an offset and that offset have the same place.
use Rattle.std.proofs.Common.{◌≡◌, ℕ, ◌≤◌, Bool, true, false, nat_le, List, [], ◌∷◌, find, reverse, Option, Some, unwrap_or, refl, sym, ap, subst, ◌∙◌, arith, if◌then◌else◌}
use Rattle.std.proofs.lemmas.Bool.Decides.{nat_tests}
use Rattle.bx_view.specs.Moves.{place_at}
use Rattle.bx_view.specs.TextRows.{TextRow, places}

-- the first of some offsets that is not after another one
abbrev found : ℕ → List ℕ → Option ℕ
found offset ps = find (λ q. nat_le q offset) ps

found-by : (p offset : ℕ) (ps : List ℕ) (b : Bool) → nat_le p offset ≡ b → found offset (p ∷ ps) ≡ (if b then Some p else found offset ps)
found-by p offset ps true e = rw (e, find) refl
found-by p offset ps false e = rw (e, find) refl

before-by : (p offset : ℕ) (ps : List ℕ) (b : Bool) → nat_le p offset ≡ b → unwrap_or (found offset ps) 0 ≤ offset → unwrap_or (found offset (p ∷ ps)) 0 ≤ offset
before-by p offset ps true e more =
    let before : p ≤ offset = grind (arith, nat_tests, e) in subst (λ o. unwrap_or o 0 ≤ offset) (sym (found-by p offset ps true e)) before
before-by p offset ps false e more = subst (λ o. unwrap_or o 0 ≤ offset) (sym (found-by p offset ps false e)) more

found-before : (offset : ℕ) (ps : List ℕ) → unwrap_or (found offset ps) 0 ≤ offset
found-before offset [] = omega arith
found-before offset (p ∷ ps) = before-by p offset ps (nat_le p offset) refl (found-before offset ps)

between-by : (p at offset : ℕ) (ps : List ℕ) (b : Bool) → nat_le p offset ≡ b → unwrap_or (found offset (p ∷ ps)) 0 ≤ at → at ≤ offset
    → (unwrap_or (found offset ps) 0 ≤ at → unwrap_or (found at ps) 0 ≡ unwrap_or (found offset ps) 0)
    → unwrap_or (found at (p ∷ ps)) 0 ≡ unwrap_or (found offset (p ∷ ps)) 0
between-by p at offset ps true e from to more =
    let here = found-by p offset ps true e in
    let before : p ≤ at = subst (λ o. unwrap_or o 0 ≤ at) here from in
    let also : nat_le p at ≡ true = grind (arith, nat_tests, before) in ap (λ o. unwrap_or o 0) (found-by p at ps true also ∙ sym here)
between-by p at offset ps false e from to more =
    let later = found-by p offset ps false e in
    let past : nat_le p at ≡ false = grind (arith, nat_tests, e, to) in
    ap (λ o. unwrap_or o 0) (found-by p at ps false past) ∙ more (subst (λ o. unwrap_or o 0 ≤ at) later from) ∙ sym (ap (λ o. unwrap_or o 0) later)

found-between : (at offset : ℕ) (ps : List ℕ) → unwrap_or (found offset ps) 0 ≤ at → at ≤ offset
    → unwrap_or (found at ps) 0 ≡ unwrap_or (found offset ps) 0
found-between at offset [] from to = refl
found-between at offset (p ∷ ps) from to = between-by p at offset ps (nat_le p offset) refl from to (λ h. found-between at offset ps h to)

pub place-before : (rows : List TextRow) (offset : ℕ) → place_at rows offset ≤ offset
place-before rows offset = found-before offset (reverse (places rows))

pub place-between : (rows : List TextRow) (at offset : ℕ) → place_at rows offset ≤ at → at ≤ offset → place_at rows at ≡ place_at rows offset
place-between rows at offset from to = found-between at offset (reverse (places rows)) from to
