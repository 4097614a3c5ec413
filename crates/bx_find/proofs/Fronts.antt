-- Beginnings of the pieces of a text.
use Rattle.std.proofs.Common.{◌≡◌, ◌≤◌, ◌<◌, ◌+◌, ◌-◌, ◌∙◌, ℕ, zero, suc, List, [], ◌∷◌, length, take, drop, get_or, refl, ap, sym, subst, arith, length-drop, IsCharBoundary}
use Rattle.std.specs.Prelude.{IsUtf8}
use Rattle.std.proofs.lemmas.List.{length-take, get_or-take, get_or-drop}
use Rattle.std.proofs.lemmas.Str.{IsUtf8-drop, IsCharBoundary-from_take, IsCharBoundary-from_rest}

take-within : (m n : ℕ) (xs : List ℕ) → m ≤ n → take m (take n xs) ≡ take m xs
take-within zero n xs h = refl
take-within (suc m) zero xs h = absurd (omega arith)
take-within (suc m) (suc n) [] h = refl
take-within (suc m) (suc n) (x ∷ xs) h = ap (λ ys. x ∷ ys) (take-within m n xs (omega arith))

front-short : (xs r : List ℕ) → take (length r) xs ≡ r → length r ≤ length xs
front-short xs r e = omega (arith, ap length e, length-take (length r) xs)

-- the beginning of a piece is the text's beginning there
pub front_of : (text piece r : List ℕ) (at : ℕ) → take (length piece) (drop at text) ≡ piece → take (length r) piece ≡ r
    → take (length r) (drop at text) ≡ r
front_of text piece r at p e =
    sym (take-within (length r) (length piece) (drop at text) (front-short piece r e)) ∙ ap (take (length r)) p ∙ e

-- it ends between characters
pub front_ends : (text r : List ℕ) (at : ℕ) → IsUtf8 text → IsCharBoundary text at → IsUtf8 r → take (length r) (drop at text) ≡ r
    → IsCharBoundary text (at + length r)
front_ends text r at u b v e =
    IsCharBoundary-from_rest text at (length r) b.0
    (IsCharBoundary-from_take (drop at text) (length r) (IsUtf8-drop text at u b) (front-short (drop at text) r e) (subst IsUtf8 (sym e) v))

-- a piece may be cut where the text may
pub cut_inside : (text piece : List ℕ) (at x : ℕ) → take (length piece) (drop at text) ≡ piece → IsCharBoundary text x → at < x → x < at + length piece
    → IsCharBoundary piece (x - at)
cut_inside text piece at x e b after inside =
    let j : x - at < length piece = omega (arith, after, inside) in
    let back : at + (x - at) ≡ x = omega (arith, after) in
    let short = front-short (drop at text) piece e in
    let same : get_or piece (x - at) 0 ≡ get_or text x 0 =
    ap (λ xs. get_or xs (x - at) 0) (sym e) ∙ get_or-take (length piece) (drop at text) (x - at) 0 j ∙ get_or-drop at text (x - at) 0
    ∙ ap (λ n. get_or text n 0) back in (
      omega (arith, j),
      λ h big. let whole : x < length text = omega (arith, j, short, length-drop at text, back) in
          let k = b.1 whole (omega (arith, same, big)) in omega (arith, same, k),
    )
