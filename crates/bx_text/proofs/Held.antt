-- The piece that holds an offset, and the text from there on.
use Rattle.std.proofs.Common.{◌≡◌, ℕ, ◌+◌, ◌-◌, ◌<◌, ◌≤◌, Bool, true, false, nat_le, List, [], ◌∷◌, length, take, drop, get_or, Some, None, refl, ap, sym}
use Rattle.std.proofs.Common.{subst, ◌∙◌, length-append, arith}
use Rattle.std.proofs.lemmas.Bool.Decides.{nat_tests}
use Rattle.std.proofs.lemmas.List.{get_or_append_left, get_or-append_right, get_or-take, get_or-drop, length-take, length-drop, take_at, drop-append-le}
use Rattle.std.proofs.lemmas.Str.{IsUtf8-append, IsUtf8-take, IsUtf8-drop, IsCharBoundary-start, IsCharBoundary-from_take, IsCharBoundary-from_rest}
use Rattle.std.proofs.Math.Seq.{take-add}
use Rattle.std.specs.Str.{IsUtf8, IsCharBoundary}
use Rattle.std.proofs.lemmas.Option.{same_Some}
use Rattle.bx_text.specs.declared.pieces.piece.Piece.{Piece}
use Rattle.bx_text.specs.pieces.Pieces.{total, holding, rest_of}
use Rattle.bx_text.specs.Buffers.{Buffers, buffer_bytes, piece_bytes, bytes_of, IsInBuffer, AreInBuffers, IsRest}
use Rattle.bx_text.proofs.Bytes.{length-piece_bytes, rest_bytes, drop_past, IsUtf8-bytes_of}

pub record Holds (b : Buffers) (ps : List Piece) (k : ℕ) (p : Piece) (j : ℕ) : Type 0 where
  pub in_buffers : IsInBuffer b p
  pub before_end : j < p.len
  pub inside : k < length (bytes_of b ps)
  pub same : get_or (buffer_bytes b p.buffer) (p.start + j) 0 ≡ get_or (bytes_of b ps) k 0
  pub bytes : take (p.len - j) (drop k (bytes_of b ps)) ≡ piece_bytes b (rest_of p j)

here : (b : Buffers) (x : Piece) (xs : List Piece) (k : ℕ) → IsInBuffer b x → k < x.len → Holds b (x ∷ xs) k x k
here b x xs k in_buffers low =
    let count : length (piece_bytes b x) ≡ x.len = length-piece_bytes b x in_buffers in
    record {
      in_buffers = in_buffers;
      before_end = low;
      inside = omega (arith, length-append (piece_bytes b x) (bytes_of b xs), count);
      same = sym (get_or_append_left (piece_bytes b x) (bytes_of b xs) 0 k (omega (arith, count))
          ∙ get_or-take x.len (drop x.start (buffer_bytes b x.buffer)) k 0 low
          ∙ get_or-drop x.start (buffer_bytes b x.buffer) k 0);
      bytes = ap (take (x.len - k)) (drop-append-le k (piece_bytes b x) (bytes_of b xs) (omega (arith, count)))
          ∙ take_at (drop k (piece_bytes b x)) (bytes_of b xs) (x.len - k) (omega (arith, length-drop k (piece_bytes b x), count))
          ∙ sym (rest_bytes b x k (omega arith));
    }

further : (b : Buffers) (x : Piece) (xs : List Piece) (k : ℕ) (p : Piece) (j : ℕ) → IsInBuffer b x → x.len ≤ k
    → Holds b xs (k - x.len) p j → Holds b (x ∷ xs) k p j
further b x xs k p j in_buffers past h =
    let count : length (piece_bytes b x) ≡ x.len = length-piece_bytes b x in_buffers in
    record {
      in_buffers = h.in_buffers;
      before_end = h.before_end;
      inside = omega (arith, length-append (piece_bytes b x) (bytes_of b xs), count, h.inside);
      same = h.same ∙ sym (get_or-append_right (piece_bytes b x) (bytes_of b xs) x.len k 0 count past);
      bytes = ap (take (p.len - j)) (drop_past (piece_bytes b x) (bytes_of b xs) x.len k count past) ∙ h.bytes;
    }

holds_at : (fits : Bool) (b : Buffers) (x : Piece) (xs : List Piece) (k : ℕ) (p : Piece) (j : ℕ) → nat_le x.len k ≡ fits
    → IsInBuffer b x
    → (holding xs (k - x.len) ≡ Some (p, j) → Holds b xs (k - x.len) p j) → holding (x ∷ xs) k ≡ Some (p, j) → Holds b (x ∷ xs) k p j
holds_at true b x xs k p j e in_buffers more h = further b x xs k p j in_buffers (grind (arith, nat_tests)) (more (rw e at h))
holds_at false b x xs k p j e in_buffers more h =
    let g = rw e at h in
    let both : (x, k) ≡ (p, j) = same_Some (x, k) (p, j) g in
    let same_piece : x ≡ p = ap (λ (z : Piece × ℕ). z.0) both in
    let same_offset : k ≡ j = ap (λ (z : Piece × ℕ). z.1) both in
    rw (sym same_piece, sym same_offset) (here b x xs k in_buffers (grind (arith, nat_tests)))

pub holds : (b : Buffers) (ps : List Piece) (k : ℕ) (p : Piece) (j : ℕ) → AreInBuffers b ps → holding ps k ≡ Some (p, j) → Holds b ps k p j
holds b [] k p j in_buffers h = absurd (cc h)
holds b (x ∷ xs) k p j in_buffers h = holds_at (nat_le x.len k) b x xs k p j refl in_buffers.0 (holds b xs (k - x.len) p j in_buffers.1) h

held_none_at : (fits : Bool) (x : Piece) (xs : List Piece) (k : ℕ) → nat_le x.len k ≡ fits → (holding xs (k - x.len) ≡ None → total xs ≤ k - x.len)
    → holding (x ∷ xs) k ≡ None → total (x ∷ xs) ≤ k
held_none_at true x xs k e more h = let past : x.len ≤ k = grind (arith, nat_tests) in omega (arith, more (rw e at h))
held_none_at false x xs k e more h = absurd (let g = rw e at h in cc g)

pub held_none : (ps : List Piece) (k : ℕ) → holding ps k ≡ None → total ps ≤ k
held_none [] k h = omega arith
held_none (x ∷ xs) k h = held_none_at (nat_le x.len k) x xs k refl (held_none xs (k - x.len)) h

-- ---- boundaries of characters

module _ (b : Buffers) (ps : List Piece) (k : ℕ) (p : Piece) (j : ℕ) (h : Holds b ps k p j) where
  pub bounds_text : IsCharBoundary (buffer_bytes b p.buffer) (p.start + j) → IsCharBoundary (bytes_of b ps) k
  bounds_text c = (omega (arith, h.inside), λ inside high. omega (arith, h.same, h.before_end, h.in_buffers.inside, c.1))

  pub bounds_buffer : IsCharBoundary (bytes_of b ps) k → IsCharBoundary (buffer_bytes b p.buffer) (p.start + j)
  bounds_buffer c = (omega (arith, h.before_end, h.in_buffers.inside), λ inside high. omega (arith, h.same, h.inside, c.1))

  pub bounds_end : IsUtf8 (buffer_bytes b p.buffer) → IsCharBoundary (buffer_bytes b p.buffer) (p.start + p.len)
  bounds_end utf8 =
      let text : List ℕ = buffer_bytes b p.buffer in
      let first : IsCharBoundary (piece_bytes b p) 0 = IsCharBoundary-start (piece_bytes b p) h.in_buffers.utf8 in
      let same : get_or (piece_bytes b p) 0 0 ≡ get_or text p.start 0 =
      get_or-take p.len (drop p.start text) 0 0 (omega (arith, h.before_end)) ∙ get_or-drop p.start text 0 0
      ∙ ap (λ n. get_or text n 0) (omega arith) in
      let start : IsCharBoundary text p.start =
      (omega (arith, h.in_buffers.inside), λ inside high. omega (arith, same, first.1, length-piece_bytes b p h.in_buffers, h.before_end)) in
      IsCharBoundary-from_take text (p.start + p.len) utf8 h.in_buffers.inside
      (subst IsUtf8 (sym (take-add p.start p.len text))
      (IsUtf8-append (take p.start text) (piece_bytes b p) (IsUtf8-take text p.start utf8 start) h.in_buffers.utf8))

-- whole characters of a text from a boundary on end at a boundary
pub rest_bounds : (text : List ℕ) (k : ℕ) (rest : List ℕ) → IsUtf8 text → IsCharBoundary text k → IsUtf8 rest → take (length rest) (drop k text) ≡ rest
    → IsCharBoundary text (k + length rest)
rest_bounds text k rest utf8 c rest_utf8 e =
    IsCharBoundary-from_rest text k (length rest) c.0
    (IsCharBoundary-from_take (drop k text) (length rest) (IsUtf8-drop text k utf8 c) (omega (arith, ap length e, length-take (length rest) (drop k text)))
    (subst IsUtf8 (sym e) rest_utf8))

pub is_rest : (b : Buffers) (ps : List Piece) (k : ℕ) (p : Piece) (j : ℕ) (rest : List ℕ) → Holds b ps k p j → AreInBuffers b ps → IsCharBoundary
    (bytes_of b ps) k
    → IsUtf8 rest
    → rest ≡ piece_bytes b (rest_of p j) → length rest ≡ p.len - j → IsRest (bytes_of b ps) k rest
is_rest b ps k p j rest h in_buffers c utf8 e count =
    let bytes : take (length rest) (drop k (bytes_of b ps)) ≡ rest = rw count (h.bytes ∙ sym e) in
    record {
      bytes = bytes;
      not_empty = omega (arith, count, h.before_end);
      next = rest_bounds (bytes_of b ps) k rest (IsUtf8-bytes_of b ps in_buffers) c utf8 bytes;
    }
