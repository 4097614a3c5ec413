-- A tree's bytes from an offset on are bytes of its left side, then of its own piece, then of its right side.
use Rattle.std.proofs.Common.{◌≡◌, ℕ, zero, suc, ◌+◌, ◌-◌, ◌<◌, ◌≤◌, List, [], ◌∷◌, ◌++◌, length, take, drop, min, refl, ap, sym, ◌∙◌, append_assoc, length-append, arith, ⊎_elim}
use Rattle.std.proofs.lemmas.Bool.{cases_lt}
use Rattle.std.proofs.lemmas.List.{length-take-le, length-drop, take_all, take-append-drop, take-take, drop-drop, drop-take}
use Rattle.bx_text.specs.declared.pieces.piece.Piece.{Piece}
use Rattle.bx_text.specs.pieces.Pieces.{total}
use Rattle.bx_text.specs.pieces.Bytes.{AreWithin, buffer_bytes, buffers, bytes_of, piece_bytes}

-- ---- two lists in turn

drop_both : (n : ℕ) (xs ys : List ℕ) → drop n (xs ++ ys) ≡ drop n xs ++ drop (n - length xs) ys
drop_both zero xs ys = let e : 0 ≡ 0 - length xs = omega arith in ap (λ k. xs ++ drop k ys) e
drop_both (suc n) [] ys = let e : suc n ≡ suc n - 0 = omega arith in ap (λ k. drop k ys) e
drop_both (suc n) (x ∷ xs) ys =
    let e : n - length xs ≡ suc n - length (x ∷ xs) = omega arith in drop_both n xs ys ∙ ap (λ k. drop n xs ++ drop k ys) e

take_both : (n : ℕ) (xs ys : List ℕ) → take n (xs ++ ys) ≡ take n xs ++ take (n - length xs) ys
take_both zero xs ys = let e : 0 ≡ 0 - length xs = omega arith in ap (λ k. take k ys) e
take_both (suc n) [] ys = let e : suc n ≡ suc n - 0 = omega arith in ap (λ k. take k ys) e
take_both (suc n) (x ∷ xs) ys =
    let e : n - length xs ≡ suc n - length (x ∷ xs) = omega arith in
    ap (λ l. x ∷ l) (take_both n xs ys ∙ ap (λ k. take n xs ++ take k ys) e)

take_some : (n m : ℕ) (xs : List ℕ) → m ≡ min n (length xs) → take n xs ≡ take m xs
take_some n m xs e = ⊎_elim
    (λ less. take_all n xs (omega (arith, less)) ∙ sym (take_all m xs (omega (arith, less, e))))
    (λ not. let same : n ≡ m = omega (arith, not, e) in ap (λ k. take k xs) same) (cases_lt (length xs) n)

-- the first n bytes from an offset on: m of the first list, and the others of the second
seam : (xs ys : List ℕ) (at n m : ℕ) → m ≡ min n (length xs - at)
    → take n (drop at (xs ++ ys)) ≡ take m (drop at xs) ++ take (n - m) (drop (at - length xs) ys)
seam xs ys at n m e =
    let few : m ≡ min n (length (drop at xs)) = omega (arith, e, length-drop at xs) in
    let left : n - length (drop at xs) ≡ n - m = omega (arith, few) in
    ap (take n) (drop_both at xs ys) ∙ take_both n (drop at xs) (drop (at - length xs) ys)
    ∙ ap (λ l. l ++ take (n - length (drop at xs)) (drop (at - length xs) ys)) (take_some n m (drop at xs) few)
    ∙ ap (λ k. take m (drop at xs) ++ take k (drop (at - length xs) ys)) left

-- ---- pieces

module _ (o a : List ℕ) where
  length-piece_bytes : (p : Piece) → p.start + p.len ≤ length (buffer_bytes (buffers o a) p.buffer) → length (piece_bytes (buffers o a) p) ≡ p.len
  length-piece_bytes p h =
      length-take-le p.len (drop p.start (buffer_bytes (buffers o a) p.buffer)) (omega (arith, h, length-drop p.start (buffer_bytes (buffers o a) p.buffer)))

  -- bytes within a piece
  pub within_piece : (p : Piece) (skipped n : ℕ) → skipped + n ≤ p.len
      → take n (drop (p.start + skipped) (buffer_bytes (buffers o a) p.buffer)) ≡ take n (drop skipped (piece_bytes (buffers o a) p))
  within_piece p skipped n h =
      let buffer = buffer_bytes (buffers o a) p.buffer in
      let e : p.len ≡ skipped + (p.len - skipped) = omega (arith, h) in
      sym (ap (λ k. take n (drop skipped (take k (drop p.start buffer)))) e
      ∙ ap (take n) (drop-take skipped (p.len - skipped) (drop p.start buffer))
      ∙ take-take n (p.len - skipped) (drop skipped (drop p.start buffer)) (omega (arith, h))
      ∙ ap (take n) (drop-drop skipped p.start buffer))

  bytes-append : (xs ys : List Piece) → bytes_of (buffers o a) (xs ++ ys) ≡ bytes_of (buffers o a) xs ++ bytes_of (buffers o a) ys
  bytes-append [] ys = refl
  bytes-append (x ∷ xs) ys =
      ap (λ l. piece_bytes (buffers o a) x ++ l) (bytes-append xs ys) ∙ sym (append_assoc (piece_bytes (buffers o a) x) (bytes_of (buffers o a) xs) (bytes_of (buffers o a) ys))

  pub within_left : (xs ys : List Piece) → AreWithin (buffers o a) (xs ++ ys) → AreWithin (buffers o a) xs
  within_left [] ys h = tt
  within_left (x ∷ xs) ys h = (h.0, within_left xs ys h.1)

  pub within_right : (xs ys : List Piece) → AreWithin (buffers o a) (xs ++ ys) → AreWithin (buffers o a) ys
  within_right [] ys h = h
  within_right (x ∷ xs) ys h = within_right xs ys h.1

  length-bytes_of : (ps : List Piece) → AreWithin (buffers o a) ps → length (bytes_of (buffers o a) ps) ≡ total ps
  length-bytes_of [] h = refl
  length-bytes_of (p ∷ ps) h =
      omega (arith, length-append (piece_bytes (buffers o a) p) (bytes_of (buffers o a) ps), length-piece_bytes p h.0, length-bytes_of ps h.1)

  pub within_own : (xs : List Piece) (p : Piece) (ys : List Piece) → AreWithin (buffers o a) (xs ++ p ∷ ys) → p.start + p.len ≤ length (buffer_bytes (buffers o a) p.buffer)
  within_own xs p ys h = (within_right xs (p ∷ ys) h).0

  pub within_rest : (xs : List Piece) (p : Piece) (ys : List Piece) → AreWithin (buffers o a) (xs ++ p ∷ ys) → AreWithin (buffers o a) ys
  within_rest xs p ys h = (within_right xs (p ∷ ys) h).1

  module _ (ls : List Piece) (p : Piece) (rs : List Piece) (within : AreWithin (buffers o a) (ls ++ p ∷ rs)) (before : ℕ) (is : before ≡ total ls)
      (bytes : List ℕ) (at : ℕ) where
    abbrev left : List ℕ
    left = bytes_of (buffers o a) ls

    abbrev own : List ℕ
    own = piece_bytes (buffers o a) p

    abbrev right : List ℕ
    right = bytes_of (buffers o a) rs

    left-is : length left ≡ before
    left-is = length-bytes_of ls (within_left ls (p ∷ rs) within) ∙ sym is

    own-is : length own ≡ p.len
    own-is = length-piece_bytes p (within_own ls p rs within)

    three : (n k : ℕ) → n ≡ min (length bytes) (before - at) → k ≡ min (length bytes - n) (p.len - (at - before))
        → take (length bytes) (drop at (bytes_of (buffers o a) (ls ++ p ∷ rs)))
        ≡ take n (drop at left) ++ (take k (drop (at - before) own) ++ take (length bytes - n - k) (drop (at - before - p.len) right))
    three n k e f =
        ap (λ l. take (length bytes) (drop at l)) (bytes-append ls (p ∷ rs))
        ∙ seam left (own ++ right) at (length bytes) n (omega (arith, e, left-is))
        ∙ ap (λ b. take n (drop at left) ++ take (length bytes - n) (drop (at - b) (own ++ right))) left-is
        ∙ ap (λ l. take n (drop at left) ++ l) (seam own right (at - before) (length bytes - n) k (omega (arith, f, own-is)))
        ∙ ap (λ b. take n (drop at left) ++ (take k (drop (at - before) own) ++ take (length bytes - n - k) (drop (at - before - b) right))) own-is

    -- all on the right side
    pub on_right : before ≤ at → p.len ≤ at - before → take (length bytes) (drop (at - before - p.len) right) ≡ bytes
        → take (length bytes) (drop at (bytes_of (buffers o a) (ls ++ p ∷ rs))) ≡ bytes
    on_right past further same =
        let all : length bytes - 0 - 0 ≡ length bytes = omega arith in
        three 0 0 (omega (arith, past)) (omega (arith, further))
        ∙ ap (λ n. take n (drop (at - before - p.len) right)) all ∙ same

    -- some on the left side, some in the piece, the others on the right side
    pub in_turn : (u v w : List ℕ) → u ++ (v ++ w) ≡ bytes → length u ≡ min (length bytes) (before - at)
        → length v ≡ min (length bytes - length u) (p.len - (at - before)) → at - before < p.len
        → take (length u) (drop at left) ≡ u → take (length v) (drop (at - before) own) ≡ v → take (length w) (drop 0 right) ≡ w
        → take (length bytes) (drop at (bytes_of (buffers o a) (ls ++ p ∷ rs))) ≡ bytes
    in_turn u v w whole e f inside first second third =
        let none : at - before - p.len ≡ 0 = omega (arith, inside) in
        let others : length bytes - length u - length v ≡ length w =
        omega (arith, ap length whole, length-append u (v ++ w), length-append v w) in
        three (length u) (length v) e f
        ∙ ap (λ j. take (length u) (drop at left) ++ (take (length v) (drop (at - before) own)
        ++ take (length bytes - length u - length v) (drop j right))) none
        ∙ ap (λ n. take (length u) (drop at left) ++ (take (length v) (drop (at - before) own) ++ take n (drop 0 right))) others
        ∙ ap (λ l. l ++ (take (length v) (drop (at - before) own) ++ take (length w) (drop 0 right))) first
        ∙ ap (λ l. u ++ (l ++ take (length w) (drop 0 right))) second
        ∙ ap (λ l. u ++ (v ++ l)) third
        ∙ whole
