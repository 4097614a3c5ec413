-- A row's tail: the blanks after its other columns.
use Rattle.std.proofs.Common.{◌≡◌, ℕ, ◌+◌, ◌-◌, ◌≤◌, Bool, true, false, List, [], ◌∷◌, ◌++◌, length, take, replicate, zero, suc, refl, ap, sym, ◌∙◌, arith}
use Rattle.std.specs.List.{list_all}
use Rattle.std.proofs.lemmas.List.{append-nil}
use Rattle.bx_grid.specs.Columns.{Col, blank, is_blank}
use Rattle.bx_grid.specs.Glyphs.{AreWhole}
use Rattle.bx_grid.proofs.Blanks.{blanks_are}
use Rattle.bx_grid.proofs.Plain.{blank_is}
use Rattle.bx_grid.proofs.Whole.{whole_split, whole_along}
use Rattle.bx_paint.specs.Painting.{before_tail, leading_blanks}

blanks_by : (t : Bool) (x : Col) (xs : List Col) → is_blank x ≡ t → take (leading_blanks xs) xs ≡ replicate (leading_blanks xs) blank
    → take (leading_blanks (x ∷ xs)) (x ∷ xs) ≡ replicate (leading_blanks (x ∷ xs)) blank
blanks_by true x xs e more =
    let one : leading_blanks xs + 1 ≡ suc (leading_blanks xs) = omega arith in
    rw (e, one) (ap (λ y. y ∷ take (leading_blanks xs) xs) (blank_is x e) ∙ ap (λ ys. blank ∷ ys) more)
blanks_by false x xs e more = rw e refl

pub blanks_first : (xs : List Col) → take (leading_blanks xs) xs ≡ replicate (leading_blanks xs) blank
blanks_first [] = refl
blanks_first (x ∷ xs) = blanks_by (is_blank x) x xs refl (blanks_first xs)

-- ---- the columns before the tail

le_by : (t : Bool) (x : Col) (xs : List Col) → list_all is_blank (x ∷ xs) ≡ t → length (before_tail xs) ≤ length xs
    → length (before_tail (x ∷ xs)) ≤ length (x ∷ xs)
le_by true x xs e more = rw e (omega arith)
le_by false x xs e more = rw e (omega (arith, more))

rest_by : (t : Bool) (x : Col) (xs : List Col) → list_all is_blank (x ∷ xs) ≡ t → before_tail xs ++ replicate (length xs - length (before_tail xs)) blank ≡ xs
    → before_tail (x ∷ xs) ++ replicate (length (x ∷ xs) - length (before_tail (x ∷ xs))) blank ≡ x ∷ xs
rest_by true x xs e more =
    let n : length (x ∷ xs) - 0 ≡ length (x ∷ xs) = omega arith in
    rw (e, n) (sym (blanks_are (x ∷ xs) e))
rest_by false x xs e more =
    let n : suc (length xs) - suc (length (before_tail xs)) ≡ length xs - length (before_tail xs) = omega arith in
    rw (e, n) (ap (λ ys. x ∷ ys) more)

-- a row is the columns before its tail, and then blanks
pub front_le : (xs : List Col) → length (before_tail xs) ≤ length xs
front_le [] = omega arith
front_le (x ∷ xs) = le_by (list_all is_blank (x ∷ xs)) x xs refl (front_le xs)

pub front_blanks : (xs : List Col) → before_tail xs ++ replicate (length xs - length (before_tail xs)) blank ≡ xs
front_blanks [] = refl
front_blanks (x ∷ xs) = rest_by (list_all is_blank (x ∷ xs)) x xs refl (front_blanks xs)

front_by : (k : ℕ) (front xs : List Col) → front ++ replicate k blank ≡ xs → AreWhole xs → AreWhole front
front_by zero front xs e h = whole_along xs front (sym e ∙ append-nil front) h
front_by (suc k) front xs e h = (whole_split front (32 ∷ []) 1 false (replicate k blank) (whole_along xs (front ++ blank ∷ replicate k blank) (sym e) h)).0

pub whole_front : (xs : List Col) → AreWhole xs → AreWhole (before_tail xs)
whole_front xs h = front_by (length xs - length (before_tail xs)) (before_tail xs) xs (front_blanks xs) h
