-- The bytes of split and joined pieces.
use Rattle.std.proofs.Common.{◌≡◌, ℕ, ◌+◌, ◌-◌, ◌<◌, ◌≤◌, ◌^◌, Bool, true, false, nat_le, ◌==◌, List, [], ◌∷◌, ◌++◌, length, take, drop, zero, suc, refl, ap}
use Rattle.std.proofs.Common.{sym, subst, ◌∙◌, append_assoc, length-append, arith}
use Rattle.std.proofs.lemmas.Bool.Decides.{nat_tests}
use Rattle.std.proofs.lemmas.List.{append-nil, length-take-le, length-drop, take-take, drop-drop, drop-take, take-append-le, drop-append-le}
use Rattle.std.proofs.Math.Seq.{take-append-add, drop-append-add}
use Rattle.bx_text.specs.declared.pieces.piece.Buffer.{Buffer}
use Rattle.bx_text.specs.declared.pieces.piece.Buffer.TheVariants.{Opened, Added}
use Rattle.bx_text.specs.declared.pieces.piece.Piece.{Piece}
use Rattle.bx_text.specs.pieces.Pieces.{total, front, back, first_of, rest_of, IsAddressable}
use Rattle.std.proofs.lemmas.Str.{IsUtf8-nil, IsUtf8-append, IsUtf8-take, IsUtf8-drop}
use Rattle.std.specs.Str.{IsUtf8, IsCharBoundary}
use Rattle.bx_text.specs.Buffers.{Buffers, buffer_bytes, piece_bytes, bytes_of, IsInBuffer, AreInBuffers}
use Rattle.bx_text.proofs.Characters.{IsCharBoundary-left, IsCharBoundary-right}

-- ---- one piece

pub length-piece_bytes : (b : Buffers) (p : Piece) → IsInBuffer b p → length (piece_bytes b p) ≡ p.len
length-piece_bytes b p h =
    length-take-le p.len (drop p.start (buffer_bytes b p.buffer)) (omega (arith, length-drop p.start (buffer_bytes b p.buffer), h.inside))

first_bytes : (b : Buffers) (p : Piece) (k : ℕ) → k ≤ p.len → piece_bytes b (first_of p k) ≡ take k (piece_bytes b p)
first_bytes b p k h = sym (take-take k p.len (drop p.start (buffer_bytes b p.buffer)) h)

pub rest_bytes : (b : Buffers) (p : Piece) (k : ℕ) → k ≤ p.len → piece_bytes b (rest_of p k) ≡ drop k (piece_bytes b p)
rest_bytes b p k h =
    let text = buffer_bytes b p.buffer in
    let e : p.len ≡ k + (p.len - k) = omega arith in
    sym (ap (λ n. drop k (take n (drop p.start text))) e
    ∙ drop-take k (p.len - k) (drop p.start text)
    ∙ ap (take (p.len - k)) (drop-drop k p.start text))

-- ---- pieces that can be addressed

addressable_back_at : (fits none : Bool) (x : Piece) (xs : List Piece) (k : ℕ) → nat_le x.len k ≡ fits → (k == 0) ≡ none
    → (IsAddressable xs → IsAddressable (back xs (k - x.len))) → IsAddressable (x ∷ xs) → IsAddressable (back (x ∷ xs) k)
addressable_back_at true none x xs k e f more h = rw e (more h.1)
addressable_back_at false true x xs k e f more h = rw (e, f) h
addressable_back_at false false x xs k e f more h = let short : k ≤ x.len = grind (arith, nat_tests) in rw (e, f) (omega (arith, h.0), h.1)

pub IsAddressable-back : (ps : List Piece) (k : ℕ) → IsAddressable ps → IsAddressable (back ps k)
IsAddressable-back [] k h = h
IsAddressable-back (x ∷ xs) k h = addressable_back_at (nat_le x.len k) (k == 0) x xs k refl refl (IsAddressable-back xs (k - x.len)) h

short_buffer : (b : Buffers) (which : Buffer) → length b.opened < 2 ^ 64 → length b.added < 2 ^ 64 → length (buffer_bytes b which) < 2 ^ 64
short_buffer b Opened o a = o
short_buffer b Added o a = a

in_memory : (b : Buffers) (p : Piece) → length b.opened < 2 ^ 64 → length b.added < 2 ^ 64 → p.start + p.len ≤ length (buffer_bytes b p.buffer)
    → p.start + p.len < 2 ^ 64
in_memory b p o a h = omega (arith, short_buffer b p.buffer o a)

pub IsAddressable-in_buffers : (b : Buffers) (ps : List Piece) → length b.opened < 2 ^ 64 → length b.added < 2 ^ 64 → AreInBuffers b ps → IsAddressable ps
IsAddressable-in_buffers b [] o a h = h
IsAddressable-in_buffers b (p ∷ ps) o a h = (in_memory b p o a h.0.inside, IsAddressable-in_buffers b ps o a h.1)

-- ---- bytes

pub length-bytes_of : (b : Buffers) (ps : List Piece) → AreInBuffers b ps → length (bytes_of b ps) ≡ total ps
length-bytes_of b [] h = refl
length-bytes_of b (p ∷ ps) h = omega (arith, length-append (piece_bytes b p) (bytes_of b ps), length-piece_bytes b p h.0, length-bytes_of b ps h.1)

pub bytes_of-append : (b : Buffers) (ps qs : List Piece) → bytes_of b (ps ++ qs) ≡ bytes_of b ps ++ bytes_of b qs
bytes_of-append b [] qs = refl
bytes_of-append b (p ∷ ps) qs = ap (λ xs. piece_bytes b p ++ xs) (bytes_of-append b ps qs)
    ∙ sym (append_assoc (piece_bytes b p) (bytes_of b ps) (bytes_of b qs))

pub AreInBuffers-append : (b : Buffers) (ps qs : List Piece) → AreInBuffers b ps → AreInBuffers b qs → AreInBuffers b (ps ++ qs)
AreInBuffers-append b [] qs h k = k
AreInBuffers-append b (p ∷ ps) qs h k = (h.0, AreInBuffers-append b ps qs h.1 k)

-- the front and the back of a list of n and more
take_past : (xs ys : List ℕ) (n k : ℕ) → length xs ≡ n → n ≤ k → take k (xs ++ ys) ≡ xs ++ take (k - n) ys
take_past xs ys n k e h =
    let f : k ≡ length xs + (k - n) = omega (arith, e) in
    ap (λ m. take m (xs ++ ys)) f ∙ take-append-add xs ys (k - n)

pub drop_past : (xs ys : List ℕ) (n k : ℕ) → length xs ≡ n → n ≤ k → drop k (xs ++ ys) ≡ drop (k - n) ys
drop_past xs ys n k e h =
    let f : k ≡ length xs + (k - n) = omega (arith, e) in
    ap (λ m. drop m (xs ++ ys)) f ∙ drop-append-add xs ys (k - n)

front_bytes_at : (b : Buffers) (fits none : Bool) (x : Piece) (xs : List Piece) (k : ℕ) → nat_le x.len k ≡ fits → (k == 0) ≡ none
    → IsInBuffer b x → bytes_of b (front xs (k - x.len)) ≡ take (k - x.len) (bytes_of b xs)
    → bytes_of b (front (x ∷ xs) k) ≡ take k (bytes_of b (x ∷ xs))
front_bytes_at b true none x xs k e f in_buffers more =
    rw e (ap (λ ys. piece_bytes b x ++ ys) more
    ∙ sym (take_past (piece_bytes b x) (bytes_of b xs) x.len k (length-piece_bytes b x in_buffers) (grind (arith, nat_tests))))
front_bytes_at b false true x xs k e f in_buffers more = let z : k ≡ 0 = grind (arith, nat_tests) in rw (e, f) (rw z refl)
front_bytes_at b false false x xs k e f in_buffers more =
    let short : k ≤ x.len = grind (arith, nat_tests) in
    rw (e, f)
    (append-nil (piece_bytes b (first_of x k)) ∙ first_bytes b x k short
    ∙ sym (take-append-le k (piece_bytes b x) (bytes_of b xs) (omega (arith, length-piece_bytes b x in_buffers))))

pub bytes_of-front : (b : Buffers) (ps : List Piece) (k : ℕ) → AreInBuffers b ps → bytes_of b (front ps k) ≡ take k (bytes_of b ps)
bytes_of-front b [] zero h = refl
bytes_of-front b [] (suc k) h = refl
bytes_of-front b (x ∷ xs) k h = front_bytes_at b (nat_le x.len k) (k == 0) x xs k refl refl h.0 (bytes_of-front b xs (k - x.len) h.1)

back_bytes_at : (b : Buffers) (fits none : Bool) (x : Piece) (xs : List Piece) (k : ℕ) → nat_le x.len k ≡ fits → (k == 0) ≡ none
    → IsInBuffer b x → bytes_of b (back xs (k - x.len)) ≡ drop (k - x.len) (bytes_of b xs)
    → bytes_of b (back (x ∷ xs) k) ≡ drop k (bytes_of b (x ∷ xs))
back_bytes_at b true none x xs k e f in_buffers more =
    rw e (more ∙ sym (drop_past (piece_bytes b x) (bytes_of b xs) x.len k (length-piece_bytes b x in_buffers) (grind (arith, nat_tests))))
back_bytes_at b false true x xs k e f in_buffers more = let z : k ≡ 0 = grind (arith, nat_tests) in rw (e, f) (rw z refl)
back_bytes_at b false false x xs k e f in_buffers more =
    let short : k ≤ x.len = grind (arith, nat_tests) in
    rw (e, f)
    (ap (λ ys. ys ++ bytes_of b xs) (rest_bytes b x k short)
    ∙ sym (drop-append-le k (piece_bytes b x) (bytes_of b xs) (omega (arith, length-piece_bytes b x in_buffers))))

pub bytes_of-back : (b : Buffers) (ps : List Piece) (k : ℕ) → AreInBuffers b ps → bytes_of b (back ps k) ≡ drop k (bytes_of b ps)
bytes_of-back b [] zero h = refl
bytes_of-back b [] (suc k) h = refl
bytes_of-back b (x ∷ xs) k h = back_bytes_at b (nat_le x.len k) (k == 0) x xs k refl refl h.0 (bytes_of-back b xs (k - x.len) h.1)

pub IsUtf8-bytes_of : (b : Buffers) (ps : List Piece) → AreInBuffers b ps → IsUtf8 (bytes_of b ps)
IsUtf8-bytes_of b [] h = IsUtf8-nil
IsUtf8-bytes_of b (p ∷ ps) h = IsUtf8-append (piece_bytes b p) (bytes_of b ps) h.0.utf8 (IsUtf8-bytes_of b ps h.1)

-- a piece cut between two characters
first_in_buffers : (b : Buffers) (x : Piece) (xs : List Piece) (k : ℕ) → IsInBuffer b x → k ≤ x.len → IsCharBoundary (bytes_of b (x ∷ xs)) k
    → IsInBuffer b (first_of x k)
first_in_buffers b x xs k h short c =
    let at : IsCharBoundary (piece_bytes b x) k = IsCharBoundary-left (piece_bytes b x) (bytes_of b xs) k (omega (arith, length-piece_bytes b x h)) c in
    record { inside = omega (arith, h.inside); utf8 = subst IsUtf8 (sym (first_bytes b x k short)) (IsUtf8-take (piece_bytes b x) k h.utf8 at) }

rest_in_buffers : (b : Buffers) (x : Piece) (xs : List Piece) (k : ℕ) → IsInBuffer b x → k ≤ x.len → IsCharBoundary (bytes_of b (x ∷ xs)) k → IsInBuffer b
    (rest_of x k)
rest_in_buffers b x xs k h short c =
    let at : IsCharBoundary (piece_bytes b x) k = IsCharBoundary-left (piece_bytes b x) (bytes_of b xs) k (omega (arith, length-piece_bytes b x h)) c in
    record { inside = omega (arith, h.inside); utf8 = subst IsUtf8 (sym (rest_bytes b x k short)) (IsUtf8-drop (piece_bytes b x) k h.utf8 at) }

-- an offset past the first piece
further_bounds : (b : Buffers) (x : Piece) (xs : List Piece) (k : ℕ) → IsInBuffer b x → x.len ≤ k → IsCharBoundary (bytes_of b (x ∷ xs)) k
    → IsCharBoundary (bytes_of b xs) (k - x.len)
further_bounds b x xs k h past c = IsCharBoundary-right (piece_bytes b x) (bytes_of b xs) x.len k (length-piece_bytes b x h) past c

front_in_buffers_at : (b : Buffers) (fits none : Bool) (x : Piece) (xs : List Piece) (k : ℕ) → nat_le x.len k ≡ fits → (k == 0) ≡ none
    → AreInBuffers b (x ∷ xs) → IsCharBoundary (bytes_of b (x ∷ xs)) k → (IsCharBoundary (bytes_of b xs) (k - x.len) → AreInBuffers b (front xs (k - x.len)))
    → AreInBuffers b (front (x ∷ xs) k)
front_in_buffers_at b true none x xs k e f h c more = rw e (h.0, more (further_bounds b x xs k h.0 (grind (arith, nat_tests)) c))
front_in_buffers_at b false true x xs k e f h c more = rw (e, f) tt
front_in_buffers_at b false false x xs k e f h c more = rw (e, f) (first_in_buffers b x xs k h.0 (grind (arith, nat_tests)) c, tt)

pub AreInBuffers-front : (b : Buffers) (ps : List Piece) (k : ℕ) → AreInBuffers b ps → IsCharBoundary (bytes_of b ps) k → AreInBuffers b (front ps k)
AreInBuffers-front b [] k h c = h
AreInBuffers-front b (x ∷ xs) k h c = front_in_buffers_at b (nat_le x.len k) (k == 0) x xs k refl refl h c (AreInBuffers-front b xs (k - x.len) h.1)

back_in_buffers_at : (b : Buffers) (fits none : Bool) (x : Piece) (xs : List Piece) (k : ℕ) → nat_le x.len k ≡ fits → (k == 0) ≡ none
    → AreInBuffers b (x ∷ xs) → IsCharBoundary (bytes_of b (x ∷ xs)) k → (IsCharBoundary (bytes_of b xs) (k - x.len) → AreInBuffers b (back xs (k - x.len)))
    → AreInBuffers b (back (x ∷ xs) k)
back_in_buffers_at b true none x xs k e f h c more = rw e (more (further_bounds b x xs k h.0 (grind (arith, nat_tests)) c))
back_in_buffers_at b false true x xs k e f h c more = rw (e, f) h
back_in_buffers_at b false false x xs k e f h c more = rw (e, f) (rest_in_buffers b x xs k h.0 (grind (arith, nat_tests)) c, h.1)

pub AreInBuffers-back : (b : Buffers) (ps : List Piece) (k : ℕ) → AreInBuffers b ps → IsCharBoundary (bytes_of b ps) k → AreInBuffers b (back ps k)
AreInBuffers-back b [] k h c = h
AreInBuffers-back b (x ∷ xs) k h c = back_in_buffers_at b (nat_le x.len k) (k == 0) x xs k refl refl h c (AreInBuffers-back b xs (k - x.len) h.1)
