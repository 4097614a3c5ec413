-- The last piece of concatenated sequences.
use Rattle.std.proofs.lemmas.Bool.Decides.{nat_tests}
use Rattle.std.proofs.Common.{◌==◌, ◌≡◌, Bool, true, false, ℕ, ◌+◌, ◌<◌, List, [], ◌∷◌, ◌++◌, length, Option, Some, None, refl, sym, ap, arith}
use Rattle.std.specs.Option.{option_or}
use Rattle.bx_text.specs.declared.pieces.piece.Piece.{Piece}
use Rattle.bx_text.specs.pieces.Pieces.{total, last_of, longer, goes_on, pushed, pushed_after}
use Rattle.bx_text.proofs.pieces_lemmas.Cuts.{total_append}

last_some : (x : Piece) (xs : List Piece) → (p : Piece) × (last_of (x ∷ xs) ≡ Some p)
last_some x [] = (x, refl)
last_some x (y ∷ ys) = last_some y ys

or_some : (o : Option Piece) (p q : Piece) → o ≡ Some q → option_or o (Some p) ≡ o
or_some o p q e = rw e refl

last_of_cons : (p : Piece) (ys : List Piece) → last_of (p ∷ ys) ≡ option_or (last_of ys) (Some p)
last_of_cons p [] = refl
last_of_cons p (y ∷ ys) = let s = last_some y ys in sym (or_some (last_of (y ∷ ys)) p s.0 s.1)

pub last_of_append : (xs ys : List Piece) (p : Piece) → last_of (xs ++ p ∷ ys) ≡ option_or (last_of ys) (Some p)
last_of_append [] ys p = last_of_cons p ys
last_of_append (x ∷ []) ys p = last_of_cons p ys
last_of_append (x ∷ z ∷ xs) ys p = last_of_append (z ∷ xs) ys p

pub longer_here : (xs : List Piece) (p : Piece) (n : ℕ) → longer (xs ++ p ∷ []) n ≡ xs ++ record p { len = p.len + n } ∷ []
longer_here [] p n = refl
longer_here (x ∷ []) p n = refl
longer_here (x ∷ z ∷ xs) p n = ap (λ ps. x ∷ ps) (longer_here (z ∷ xs) p n)

pub longer_later : (xs ys : List Piece) (p : Piece) (n : ℕ) → 0 < length ys → longer (xs ++ p ∷ ys) n ≡ xs ++ p ∷ longer ys n
longer_later xs [] p n h = absurd (omega (arith, h))
longer_later [] (y ∷ ys) p n h = refl
longer_later (x ∷ []) (y ∷ ys) p n h = refl
longer_later (x ∷ z ∷ xs) (y ∷ ys) p n h = ap (λ ps. x ∷ ps) (longer_later (z ∷ xs) (y ∷ ys) p n h)

pub total_longer : (ps : List Piece) (n : ℕ) → 0 < length ps → total (longer ps n) ≡ total ps + n
total_longer [] n h = absurd (omega (arith, h))
total_longer (p ∷ []) n h = omega arith
total_longer (p ∷ x ∷ ps) n h = omega (arith, total_longer (x ∷ ps) n (omega arith))

pub length_longer : (ps : List Piece) (n : ℕ) → length (longer ps n) ≡ length ps
length_longer [] n = refl
length_longer (p ∷ []) n = refl
length_longer (p ∷ x ∷ ps) n = omega (arith, length_longer (x ∷ ps) n)

joined_total_at : (joins : Bool) (p : Piece) (ps : List Piece) (q : Piece) → goes_on p q ≡ joins → 0 < length ps
    → total (pushed_after (Some p) ps q) ≡ total ps + q.len
joined_total_at true p ps q e h = rw e (total_longer ps q.len h)
joined_total_at false p ps q e h = rw e (omega (arith, total_append ps (q ∷ [])))

total_after : (o : Option Piece) (ps : List Piece) (q : Piece) → last_of ps ≡ o → total (pushed_after o ps q) ≡ total ps + q.len
total_after None ps q e = omega (arith, total_append ps (q ∷ []))
total_after (Some p) [] q e = absurd (cc)
total_after (Some p) (x ∷ xs) q e = joined_total_at (goes_on p q) p (x ∷ xs) q refl (omega arith)

total_pushed_at : (none : Bool) (ps : List Piece) (q : Piece) → (q.len == 0) ≡ none → total (pushed ps q) ≡ total ps + q.len
total_pushed_at true ps q e = let zero : q.len ≡ 0 = grind (arith, nat_tests) in rw e (omega (arith, zero))
total_pushed_at false ps q e = rw e (total_after (last_of ps) ps q refl)

pub total_pushed : (ps : List Piece) (q : Piece) → total (pushed ps q) ≡ total ps + q.len
total_pushed ps q = total_pushed_at (q.len == 0) ps q refl
