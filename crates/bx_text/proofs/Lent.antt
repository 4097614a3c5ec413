-- A text lent piece by piece.
use Rattle.std.proofs.Common.{◌≡◌, ℕ, ◌+◌, ◌-◌, ◌≤◌, List, [], ◌∷◌, ◌++◌, length, take, drop, ap, sym, ◌∙◌, arith}
use Rattle.std.proofs.lemmas.List.{drop-drop, take_all}
use Rattle.std.proofs.Math.Seq.{take-add}
use Rattle.std.specs.Prelude.{slice_range}
use Rattle.std.specs.Borrow.{Bor}
use Rattle.std.specs.Iterator.{Yields, Drains}
use Rattle.bx_text.specs.Slices.{lends, joined}

pub range_split : (text s : List ℕ) (at stop : ℕ) → take (length s) (drop at text) ≡ s → at + length s ≤ stop
    → slice_range text at stop ≡ s ++ slice_range text (at + length s) stop
range_split text s at stop e h =
    let n : ℕ = length s in
    let m : ℕ = stop - (at + n) in
    let count : stop - at ≡ n + m = omega (arith, h) in
    ap (λ k. take k (drop at text)) count ∙ take-add n m (drop at text)
    ∙ ap (λ xs. xs ++ take m (drop n (drop at text))) e
    ∙ ap (λ xs. s ++ take m xs) (drop-drop n at text)

pub range_whole : (text : List ℕ) → slice_range text 0 (length text) ≡ text
range_whole text = take_all (length text - 0) text (omega arith)

-- ---- the slices of all calls

lent_from : (ss : List (Bor (List ℕ))) (s t : List ℕ) → Yields lends s ss t → t ≡ [] → joined ss ≡ s
lent_from [] s t y e = sym (y ∙ e)
lent_from (x ∷ xs) s t y e = ap (λ ys. x.now ++ ys) (lent_from xs y.0 t y.2 e) ∙ sym y.1.0

pub joined_all : (ss : List (Bor (List ℕ))) (s : List ℕ) → Drains lends s ss → joined ss ≡ s
joined_all ss s d = lent_from ss s d.1.0 d.1.1 d.1.2.0
