-- Totals and cuts of concatenated sequences.
use Rattle.std.proofs.Common.{◌≡◌, ℕ, ◌+◌, ◌-◌, ◌<◌, ◌≤◌, Bool, true, false, nat_le, List, [], ◌∷◌, ◌++◌, refl, ap, ◌∙◌, ◌==◌, if◌then◌else◌, arith}
use Rattle.std.proofs.lemmas.Bool.Decides.{nat_tests}
use Rattle.std.proofs.lemmas.List.{append-nil}
use Rattle.bx_text.specs.declared.pieces.piece.Piece.{Piece}
use Rattle.bx_text.specs.pieces.Pieces.{total, holding, front, back, first_of, rest_of, IsAddressable}

pub total_append : (xs ys : List Piece) → total (xs ++ ys) ≡ total xs + total ys
total_append [] ys = omega arith
total_append (x ∷ xs) ys = omega (arith, total_append xs ys)

-- ---- the piece at an offset

-- a test, as the number on its left is at most the one on its right or not
pub le_true : (a b : ℕ) → a ≤ b → nat_le a b ≡ true
le_true a b h = grind (arith, nat_tests)

pub le_false : (a b : ℕ) → b < a → nat_le a b ≡ false
le_false a b h = grind (arith, nat_tests)

holding_first_at : (fits : Bool) (x : Piece) (xs ys : List Piece) (k : ℕ) → nat_le x.len k ≡ fits → k < total (x ∷ xs)
    → (k - x.len < total xs → holding (xs ++ ys) (k - x.len) ≡ holding xs (k - x.len)) → holding (x ∷ xs ++ ys) k ≡ holding (x ∷ xs) k
holding_first_at true x xs ys k e inside more = let le : x.len ≤ k = grind (arith, nat_tests) in rw e (more (omega arith))
holding_first_at false x xs ys k e inside more = rw e refl

-- it is in the first of two sequences
pub holding_first : (xs ys : List Piece) (k : ℕ) → k < total xs → holding (xs ++ ys) k ≡ holding xs k
holding_first [] ys k inside = absurd (omega arith)
holding_first (x ∷ xs) ys k inside = holding_first_at (nat_le x.len k) x xs ys k refl inside (λ h. holding_first xs ys (k - x.len) h)

-- it is in the second
pub holding_past : (xs ys : List Piece) (k : ℕ) → total xs ≤ k → holding (xs ++ ys) k ≡ holding ys (k - total xs)
holding_past [] ys k past = let e : k - 0 ≡ k = omega arith in rw e refl
holding_past (x ∷ xs) ys k past =
    let e : k - x.len - total xs ≡ k - (x.len + total xs) = omega arith in
    rw (le_true x.len k (omega arith)) (holding_past xs ys (k - x.len) (omega arith) ∙ ap (holding ys) e)

-- ---- cuts

front_first_at : (fits : Bool) (x : Piece) (xs ys : List Piece) (k : ℕ) → nat_le x.len k ≡ fits → k < total (x ∷ xs)
    → (k - x.len < total xs → front (xs ++ ys) (k - x.len) ≡ front xs (k - x.len)) → front (x ∷ xs ++ ys) k ≡ front (x ∷ xs) k
front_first_at true x xs ys k e inside more = let le : x.len ≤ k = grind (arith, nat_tests) in rw e (ap (λ ps. x ∷ ps) (more (omega arith)))
front_first_at false x xs ys k e inside more = rw e refl

-- a cut in the first of two sequences
pub front_first : (xs ys : List Piece) (k : ℕ) → k < total xs → front (xs ++ ys) k ≡ front xs k
front_first [] ys k inside = absurd (omega arith)
front_first (x ∷ xs) ys k inside = front_first_at (nat_le x.len k) x xs ys k refl inside (λ h. front_first xs ys (k - x.len) h)

back_inside : (none : Bool) (x y : Piece) (xs ys : List Piece)
    → (if none then x ∷ (xs ++ ys) else y ∷ (xs ++ ys)) ≡ (if none then x ∷ xs else y ∷ xs) ++ ys
back_inside true x y xs ys = refl
back_inside false x y xs ys = refl

back_first_at : (fits : Bool) (x : Piece) (xs ys : List Piece) (k : ℕ) → nat_le x.len k ≡ fits → k < total (x ∷ xs)
    → (k - x.len < total xs → back (xs ++ ys) (k - x.len) ≡ back xs (k - x.len) ++ ys) → back (x ∷ xs ++ ys) k ≡ back (x ∷ xs) k ++ ys
back_first_at true x xs ys k e inside more = let le : x.len ≤ k = grind (arith, nat_tests) in rw e (more (omega arith))
back_first_at false x xs ys k e inside more = rw e (back_inside (k == 0) x (rest_of x k) xs ys)

pub back_first : (xs ys : List Piece) (k : ℕ) → k < total xs → back (xs ++ ys) k ≡ back xs k ++ ys
back_first [] ys k inside = absurd (omega arith)
back_first (x ∷ xs) ys k inside = back_first_at (nat_le x.len k) x xs ys k refl inside (λ h. back_first xs ys (k - x.len) h)

-- a cut in the second
pub front_past : (xs ys : List Piece) (k : ℕ) → total xs ≤ k → front (xs ++ ys) k ≡ xs ++ front ys (k - total xs)
front_past [] ys k past = let e : k - 0 ≡ k = omega arith in rw e refl
front_past (x ∷ xs) ys k past =
    let e : k - x.len - total xs ≡ k - (x.len + total xs) = omega arith in
    rw (le_true x.len k (omega arith)) (ap (λ ps. x ∷ ps) (front_past xs ys (k - x.len) (omega arith) ∙ ap (λ j. xs ++ front ys j) e))

pub back_past : (xs ys : List Piece) (k : ℕ) → total xs ≤ k → back (xs ++ ys) k ≡ back ys (k - total xs)
back_past [] ys k past = let e : k - 0 ≡ k = omega arith in rw e refl
back_past (x ∷ xs) ys k past =
    let e : k - x.len - total xs ≡ k - (x.len + total xs) = omega arith in
    rw (le_true x.len k (omega arith)) (back_past xs ys (k - x.len) (omega arith) ∙ ap (back ys) e)

-- ---- the parts are the whole

total_cut_at : (fits none : Bool) (x : Piece) (xs : List Piece) (k : ℕ) → nat_le x.len k ≡ fits → (k == 0) ≡ none
    → total (front xs (k - x.len)) + total (back xs (k - x.len)) ≡ total xs
    → total (front (x ∷ xs) k) + total (back (x ∷ xs) k) ≡ total (x ∷ xs)
total_cut_at true none x xs k e f more = rw e (omega (arith, more))
total_cut_at false true x xs k e f more = rw (e, f) (omega arith)
total_cut_at false false x xs k e f more = let short : k < x.len = grind (arith, nat_tests) in rw (e, f) (omega arith)

pub total_cut : (ps : List Piece) (k : ℕ) → total (front ps k) + total (back ps k) ≡ total ps
total_cut [] k = refl
total_cut (x ∷ xs) k = total_cut_at (nat_le x.len k) (k == 0) x xs k refl refl (total_cut xs (k - x.len))

pub addressable_first : (xs ys : List Piece) → IsAddressable (xs ++ ys) → IsAddressable xs
addressable_first [] ys h = tt
addressable_first (x ∷ xs) ys h = (h.0, addressable_first xs ys h.1)

pub addressable_past : (xs ys : List Piece) → IsAddressable (xs ++ ys) → IsAddressable ys
addressable_past [] ys h = h
addressable_past (x ∷ xs) ys h = addressable_past xs ys h.1

-- ---- a piece between two sequences, cut after the first of them

module _ (left : List Piece) (p : Piece) (right : List Piece) (k : ℕ) (past : total left ≤ k) where
  pub front_right : p.len ≤ k - total left → front (left ++ p ∷ right) k ≡ left ++ p ∷ front right (k - total left - p.len)
  front_right fits = front_past left (p ∷ right) k past ∙ ap (λ ps. left ++ ps) (rw (le_true p.len (k - total left) fits) refl)

  pub back_right : p.len ≤ k - total left → back (left ++ p ∷ right) k ≡ back right (k - total left - p.len)
  back_right fits = back_past left (p ∷ right) k past ∙ rw (le_true p.len (k - total left) fits) refl

  pub front_here : 0 < p.len → k - total left ≡ 0 → front (left ++ p ∷ right) k ≡ left
  front_here some here =
      let none : (k - total left == 0) ≡ true = grind (arith, nat_tests) in
      front_past left (p ∷ right) k past ∙ ap (λ ps. left ++ ps) (rw (le_false p.len (k - total left) (omega (arith, here)), none) refl) ∙ append-nil left

  pub back_here : 0 < p.len → k - total left ≡ 0 → back (left ++ p ∷ right) k ≡ p ∷ right
  back_here some here =
      let none : (k - total left == 0) ≡ true = grind (arith, nat_tests) in
      back_past left (p ∷ right) k past ∙ rw (le_false p.len (k - total left) (omega (arith, here)), none) refl

  pub front_within : k - total left < p.len → (k - total left ≡ 0 → ⊥) → front (left ++ p ∷ right) k ≡ left ++ first_of p (k - total left) ∷ []
  front_within inside there =
      let some : (k - total left == 0) ≡ false = grind (arith, nat_tests) in
      front_past left (p ∷ right) k past ∙ ap (λ ps. left ++ ps) (rw (le_false p.len (k - total left) inside, some) refl)

  pub back_within : k - total left < p.len → (k - total left ≡ 0 → ⊥) → back (left ++ p ∷ right) k ≡ rest_of p (k - total left) ∷ right
  back_within inside there =
      let some : (k - total left == 0) ≡ false = grind (arith, nat_tests) in
      back_past left (p ∷ right) k past ∙ rw (le_false p.len (k - total left) inside, some) refl
