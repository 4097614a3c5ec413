-- Walks over the offsets of a row.
use Rattle.std.proofs.Common.{◌≡◌, ◌≢◌, ℕ, suc, ◌+◌, ◌-◌, ◌<◌, ◌==◌, Bool, true, false, List, [], ◌∷◌, length, drop, get_or, None}
use Rattle.std.proofs.Common.{refl, ap, ◌∙◌, arith, eq-eqb, ne_eqb}
use Rattle.std.proofs.Math.Seq.{drop-length}
use Rattle.std.proofs.lemmas.List.{at_drop_more}
use Rattle.bx_paragraph.specs.BodyRows.{last_offset}
use Rattle.bx_paragraph.specs.Slots.{first_in, next_in}

next-step : (offset p : ℕ) (ps : List ℕ) (b : Bool) → (p == offset) ≡ b → next_in offset (p ∷ ps) ≡ elim b [ true ↦ first_in ps | false ↦ next_in offset ps ]
next-step offset p ps b e = ap (λ t. elim t [ true ↦ first_in ps | false ↦ next_in offset ps ]) e

-- the offset is found
pub next_here : (offset : ℕ) (ps : List ℕ) (i : ℕ) → i < length ps → get_or ps i 0 ≡ offset → next_in offset (drop i ps) ≡ first_in (drop (i + 1) ps)
next_here offset ps i h e =
    at_drop_more (next_in offset) ps i 0 h ∙ next-step offset (get_or ps i 0) (drop (i + 1) ps) true (eq-eqb (get_or ps i 0) offset e)

-- it is further on
pub next_behind : (offset : ℕ) (ps : List ℕ) (i : ℕ) → i < length ps → get_or ps i 0 ≢ offset
    → next_in offset (drop i ps) ≡ next_in offset (drop (i + 1) ps)
next_behind offset ps i h e =
    at_drop_more (next_in offset) ps i 0 h ∙ next-step offset (get_or ps i 0) (drop (i + 1) ps) false (ne_eqb (get_or ps i 0) offset e)

-- it is none of them
pub next_none : (offset : ℕ) (ps : List ℕ) → next_in offset (drop (length ps) ps) ≡ None
next_none offset ps = ap (next_in offset) (drop-length ps)

-- the last offset
pub last_is : (ps : List ℕ) → get_or ps (length ps - 1) 0 ≡ last_offset ps
last_is [] = refl
last_is (p ∷ []) = refl
last_is (p ∷ q ∷ ps) = let e : length (p ∷ q ∷ ps) - 1 ≡ suc (length (q ∷ ps) - 1) = omega arith in ap (λ n. get_or (p ∷ q ∷ ps) n 0) e ∙ last_is (q ∷ ps)

pub last_none : (ps : List ℕ) → length ps ≡ 0 → 0 ≡ last_offset ps
last_none [] h = refl
last_none (p ∷ ps) h = absurd (omega (arith, h))
