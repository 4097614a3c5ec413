-- Columns that show the same, by their test.
use Rattle.std.proofs.Common.{◌≡◌, ◌↔◌, ℕ, Bool, true, false, IsTrue, ◌&&◌, nat_eq, List, [], ◌∷◌, length, suc, refl, ap, sym, arith}
use Rattle.std.proofs.Math.Bool.{and-false}
use Rattle.std.specs.Str.{bytes_eq}
use Rattle.std.proofs.lemmas.Bool.Decides.{nat_tests}
use Rattle.bx_grid.specs.Columns.{Col, Unknown, Glyph, bool_eq, col_eq, are_equal}
use Rattle.bx_grid.proofs.Reading.{and_left, and_right}

nat_eq_refl : (n : ℕ) → nat_eq n n ≡ true
nat_eq_refl n = grind (arith, nat_tests)

bytes_eq_refl : (xs : List ℕ) → bytes_eq xs xs ≡ true
bytes_eq_refl [] = refl
bytes_eq_refl (x ∷ xs) = rw (nat_eq_refl x) (bytes_eq_refl xs)

bytes_are : (xs ys : List ℕ) → bytes_eq xs ys ≡ true → xs ≡ ys
bytes_are [] [] h = refl
bytes_are [] (y ∷ ys) h = absurd (cc h)
bytes_are (x ∷ xs) [] h = absurd (cc h)
bytes_are (x ∷ xs) (y ∷ ys) h =
    let t : nat_eq x y ≡ true = and_left (nat_eq x y) (bytes_eq xs ys) h in
    let e : x ≡ y = grind (arith, nat_tests) in
    rw (e, bytes_are xs ys (and_right (nat_eq x y) (bytes_eq xs ys) h)) refl

bool_eq_refl : (b : Bool) → bool_eq b b ≡ true
bool_eq_refl true = refl
bool_eq_refl false = refl

bool_is : (a b : Bool) → bool_eq a b ≡ true → a ≡ b
bool_is true true h = refl
bool_is true false h = absurd (cc h)
bool_is false true h = absurd (cc h)
bool_is false false h = refl

pub col_eq_refl : (x : Col) → col_eq x x ≡ true
col_eq_refl Unknown = refl
col_eq_refl (Glyph text columns offset negative) = rw (bytes_eq_refl text, nat_eq_refl columns, nat_eq_refl offset, bool_eq_refl negative) refl

glyphs_are : (a b : List ℕ) (n m i j : ℕ) (x y : Bool) → (bytes_eq a b && nat_eq n m) && (nat_eq i j && bool_eq x y) ≡ true → Glyph a n i x ≡ Glyph b m j y
glyphs_are a b n m i j x y h =
    let front = and_left (bytes_eq a b && nat_eq n m) (nat_eq i j && bool_eq x y) h in
    let back = and_right (bytes_eq a b && nat_eq n m) (nat_eq i j && bool_eq x y) h in
    let columns : nat_eq n m ≡ true = and_right (bytes_eq a b) (nat_eq n m) front in
    let offset : nat_eq i j ≡ true = and_left (nat_eq i j) (bool_eq x y) back in
    let ec : n ≡ m = grind (arith, nat_tests) in
    let eo : i ≡ j = grind (arith, nat_tests) in
    rw (bytes_are a b (and_left (bytes_eq a b) (nat_eq n m) front), ec, eo, bool_is x y (and_right (nat_eq i j) (bool_eq x y) back)) refl

pub col_is : (x y : Col) → col_eq x y ≡ true → x ≡ y
col_is Unknown Unknown h = refl
col_is Unknown (Glyph text columns offset negative) h = absurd (cc h)
col_is (Glyph text columns offset negative) Unknown h = absurd (cc h)
col_is (Glyph a n i x) (Glyph b m j y) h = glyphs_are a b n m i j x y h

pub are_equal_refl : (xs : List Col) → are_equal xs xs ≡ true
are_equal_refl [] = refl
are_equal_refl (x ∷ xs) = rw (col_eq_refl x) (are_equal_refl xs)

pub lists_are : (xs ys : List Col) → are_equal xs ys ≡ true → xs ≡ ys
lists_are [] [] h = refl
lists_are [] (y ∷ ys) h = absurd (cc h)
lists_are (x ∷ xs) [] h = absurd (cc h)
lists_are (x ∷ xs) (y ∷ ys) h =
    rw (col_is x y (and_left (col_eq x y) (are_equal xs ys) h), lists_are xs ys (and_right (col_eq x y) (are_equal xs ys) h)) refl

bool_by : {P : Type 0} (a b : Bool) → (a ≡ true → P) → (P → a ≡ true) → (b ≡ true → P) → (P → b ≡ true) → a ≡ b
bool_by true true f g h k = refl
bool_by true false f g h k = sym (k (f refl))
bool_by false true f g h k = g (h refl)
bool_by false false f g h k = refl

pub same_are_equal : (b : Bool) (xs ys : List Col) → (IsTrue b ↔ (xs ≡ ys)) → b ≡ are_equal xs ys
same_are_equal b xs ys h = bool_by b (are_equal xs ys) (λ t. h.0 t) (λ e. h.1 e) (lists_are xs ys) (λ e. rw e (are_equal_refl ys))

pub unequal_lengths : (xs ys : List Col) → (length xs ≡ length ys → ⊥) → are_equal xs ys ≡ false
unequal_lengths [] [] h = absurd (h refl)
unequal_lengths [] (y ∷ ys) h = refl
unequal_lengths (x ∷ xs) [] h = refl
unequal_lengths (x ∷ xs) (y ∷ ys) h = rw (unequal_lengths xs ys (λ e. h (ap suc e))) (and-false (col_eq x y))
