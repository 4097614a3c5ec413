-- Columns after the new ones, of which one may be cut.
use Rattle.std.proofs.Common.{◌≡◌, ℕ, ◌+◌, List, [], ◌∷◌, length, suc, refl, ap, drop, zero, ◌∙◌, arith}
use Rattle.bx_grid.specs.Columns.{Col, cut_after}

pub length-cut_after : (d : ℕ) (xs : List Col) → length (cut_after d xs) ≡ length xs
length-cut_after d [] = refl
length-cut_after d (x ∷ xs) = ap suc (length-cut_after (d + 1) xs)

pub cut_after-drop : (e i : ℕ) (xs : List Col) → drop i (cut_after e xs) ≡ cut_after (e + i) (drop i xs)
cut_after-drop e zero xs = ap (λ n. cut_after n xs) (omega arith)
cut_after-drop e (suc i) [] = refl
cut_after-drop e (suc i) (x ∷ xs) = cut_after-drop (e + 1) i xs ∙ ap (λ n. cut_after n (drop i xs)) (omega arith)
