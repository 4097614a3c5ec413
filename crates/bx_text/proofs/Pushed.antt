-- The bytes of pieces with one piece more, which may lengthen the last one.
use Rattle.std.proofs.Common.{◌≡◌, ℕ, ◌+◌, Bool, true, false, ◌==◌, List, [], ◌∷◌, ◌++◌, length, take, drop, Option, Some, None, refl, ap, sym, subst}
use Rattle.std.proofs.Common.{◌∙◌, append_assoc, length-append, arith}
use Rattle.std.proofs.lemmas.Bool.Decides.{nat_tests}
use Rattle.std.proofs.lemmas.List.{append-nil, drop-drop, drop_at, take_all}
use Rattle.std.proofs.lemmas.Str.{IsUtf8-append}
use Rattle.std.proofs.Math.Seq.{take-add}
use Rattle.std.specs.Str.{IsUtf8}
use Rattle.std.proofs.lemmas.Bool.{and_parts}
use Rattle.bx_text.specs.declared.pieces.piece.Buffer.{Buffer}
use Rattle.bx_text.specs.declared.pieces.piece.Buffer.TheVariants.{Opened, Added}
use Rattle.bx_text.specs.declared.pieces.piece.Piece.{Piece}
use Rattle.bx_text.specs.pieces.Pieces.{total, are_same, goes_on, last_of, longer, pushed, pushed_after}
use Rattle.bx_text.proofs.pieces_lemmas.Ends.{total_pushed}
use Rattle.bx_text.specs.Buffers.{Buffers, buffer_bytes, piece_bytes, bytes_of, IsInBuffer, AreInBuffers, with_added}
use Rattle.bx_text.proofs.Bytes.{bytes_of-append, AreInBuffers-append}
use Rattle.bx_text.proofs.Versions.{grown, bytes_of-grown, AreInBuffers-grown}

-- ---- two pieces that are one

same_buffer : (x y : Buffer) → are_same x y ≡ true → x ≡ y
same_buffer Opened Opened e = refl
same_buffer Opened Added e = absurd (cc)
same_buffer Added Opened e = absurd (cc)
same_buffer Added Added e = refl

record GoesOn (p q : Piece) : Type 0 where
  pub buffer : p.buffer ≡ q.buffer
  pub start : p.start + p.len ≡ q.start

goes_on_parts : (p q : Piece) → goes_on p q ≡ true → GoesOn p q
goes_on_parts p q e =
    let h = and_parts (are_same p.buffer q.buffer) (p.start + p.len == q.start) e in
    record { buffer = same_buffer p.buffer q.buffer h.0; start = grind (arith, nat_tests, h.1) }

abbrev joined : Piece → Piece → Piece
joined p q = record p { len = p.len + q.len }

joined_bytes : (b : Buffers) (p q : Piece) → goes_on p q ≡ true → piece_bytes b (joined p q) ≡ piece_bytes b p ++ piece_bytes b q
joined_bytes b p q e =
    let h = goes_on_parts p q e in
    let text : List ℕ = buffer_bytes b p.buffer in
    take-add p.len q.len (drop p.start text)
    ∙ ap (λ xs. take p.len (drop p.start text) ++ take q.len xs)
    (drop-drop p.len p.start text ∙ ap (λ n. drop n text) h.start ∙ ap (λ x. drop q.start (buffer_bytes b x)) h.buffer)

joined_in_buffers : (b : Buffers) (p q : Piece) → goes_on p q ≡ true → IsInBuffer b p → IsInBuffer b q → IsInBuffer b (joined p q)
joined_in_buffers b p q e hp hq =
    let h = goes_on_parts p q e in
    record {
      inside = omega (arith, hq.inside, h.start, ap (λ x. length (buffer_bytes b x)) h.buffer);
      utf8 = subst IsUtf8 (sym (joined_bytes b p q e)) (IsUtf8-append (piece_bytes b p) (piece_bytes b q) hp.utf8 hq.utf8);
    }

-- ---- the last piece made longer

bytes_of-longer : (b : Buffers) (ps : List Piece) (p q : Piece) → last_of ps ≡ Some p → goes_on p q ≡ true
    → bytes_of b (longer ps q.len) ≡ bytes_of b ps ++ piece_bytes b q
bytes_of-longer b [] p q h e = absurd (cc)
bytes_of-longer b (x ∷ []) p q h e =
    let same : p ≡ x = cc in
    let on : goes_on x q ≡ true = subst (λ y. goes_on y q ≡ true) same e in
    append-nil (piece_bytes b (joined x q)) ∙ joined_bytes b x q on ∙ ap (λ xs. xs ++ piece_bytes b q) (sym (append-nil (piece_bytes b x)))
bytes_of-longer b (x ∷ y ∷ ys) p q h e =
    ap (λ xs. piece_bytes b x ++ xs) (bytes_of-longer b (y ∷ ys) p q h e) ∙ sym (append_assoc (piece_bytes b x) (bytes_of b (y ∷ ys)) (piece_bytes b q))

longer_in_buffers : (b : Buffers) (ps : List Piece) (p q : Piece) → last_of ps ≡ Some p → goes_on p q ≡ true → AreInBuffers b ps → IsInBuffer b q
    → AreInBuffers b (longer ps q.len)
longer_in_buffers b [] p q h e hs hq = tt
longer_in_buffers b (x ∷ []) p q h e hs hq =
    let same : p ≡ x = cc in
    (joined_in_buffers b x q (subst (λ y. goes_on y q ≡ true) same e) hs.0 hq, tt)
longer_in_buffers b (x ∷ y ∷ ys) p q h e hs hq = (hs.0, longer_in_buffers b (y ∷ ys) p q h e hs.1 hq)

-- ---- one piece more

record IsPushed (b : Buffers) (ps : List Piece) (q : Piece) (after : List Piece) : Type 0 where
  pub bytes : bytes_of b after ≡ bytes_of b ps ++ piece_bytes b q
  pub in_buffers : AreInBuffers b ps → IsInBuffer b q → AreInBuffers b after

behind : (b : Buffers) (ps : List Piece) (q : Piece) → IsPushed b ps q (ps ++ q ∷ [])
behind b ps q = record {
  bytes = bytes_of-append b ps (q ∷ []) ∙ ap (λ xs. bytes_of b ps ++ xs) (append-nil (piece_bytes b q));
  in_buffers = λ hs hq. AreInBuffers-append b ps (q ∷ []) hs (hq, tt);
}

is_pushed_at : (joins : Bool) (b : Buffers) (p : Piece) (ps : List Piece) (q : Piece) → goes_on p q ≡ joins → last_of ps ≡ Some p
    → IsPushed b ps q (pushed_after (Some p) ps q)
is_pushed_at true b p ps q e h = rw e (record { bytes = bytes_of-longer b ps p q h e; in_buffers = longer_in_buffers b ps p q h e })
is_pushed_at false b p ps q e h = rw e (behind b ps q)

is_pushed_after : (o : Option Piece) (b : Buffers) (ps : List Piece) (q : Piece) → last_of ps ≡ o → IsPushed b ps q (pushed_after o ps q)
is_pushed_after None b ps q h = behind b ps q
is_pushed_after (Some p) b ps q h = is_pushed_at (goes_on p q) b p ps q refl h

left_out : (b : Buffers) (ps : List Piece) (q : Piece) → q.len ≡ 0 → IsPushed b ps q ps
left_out b ps q e = record {
  bytes = sym (ap (λ n. bytes_of b ps ++ take n (drop q.start (buffer_bytes b q.buffer))) e ∙ append-nil (bytes_of b ps));
  in_buffers = λ hs hq. hs;
}

is_pushed_if : (none : Bool) (b : Buffers) (ps : List Piece) (q : Piece) → (q.len == 0) ≡ none → IsPushed b ps q (pushed ps q)
is_pushed_if true b ps q e = rw e (left_out b ps q (grind (arith, nat_tests)))
is_pushed_if false b ps q e = rw e (is_pushed_after (last_of ps) b ps q refl)

is_pushed : (b : Buffers) (ps : List Piece) (q : Piece) → IsPushed b ps q (pushed ps q)
is_pushed b ps q = is_pushed_if (q.len == 0) b ps q refl

-- ---- added text after pieces

abbrev new_piece : Buffers → List ℕ → Piece
new_piece b more = record { buffer = Added; start = length b.added; len = length more }

new_bytes : (b : Buffers) (more : List ℕ) → piece_bytes (grown b more) (new_piece b more) ≡ more
new_bytes b more = ap (take (length more)) (drop_at b.added more (length b.added) refl) ∙ take_all (length more) more (omega arith)

new_in_buffers : (b : Buffers) (more : List ℕ) → IsUtf8 more → IsInBuffer (grown b more) (new_piece b more)
new_in_buffers b more utf8 =
    record { inside = omega (arith, length-append b.added more); utf8 = subst IsUtf8 (sym (new_bytes b more)) utf8 }

pub bytes_of-with_added : (b : Buffers) (ps : List Piece) (more : List ℕ) → AreInBuffers b ps
    → bytes_of (grown b more) (with_added ps (length b.added) (length more)) ≡ bytes_of b ps ++ more
bytes_of-with_added b ps more h =
    (is_pushed (grown b more) ps (new_piece b more)).bytes
    ∙ ap (λ xs. xs ++ piece_bytes (grown b more) (new_piece b more)) (bytes_of-grown b more ps h)
    ∙ ap (λ xs. bytes_of b ps ++ xs) (new_bytes b more)

pub AreInBuffers-with_added : (b : Buffers) (ps : List Piece) (more : List ℕ) → AreInBuffers b ps → IsUtf8 more
    → AreInBuffers (grown b more) (with_added ps (length b.added) (length more))
AreInBuffers-with_added b ps more h utf8 =
    (is_pushed (grown b more) ps (new_piece b more)).in_buffers (AreInBuffers-grown b more ps h) (new_in_buffers b more utf8)

pub total_with_added : (ps : List Piece) (start len : ℕ) → total (with_added ps start len) ≡ total ps + len
total_with_added ps start len = total_pushed ps (record { buffer = Added; start = start; len = len })
