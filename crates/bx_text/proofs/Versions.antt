-- Versions of a text: the result of a swap, its reversal, and that text added later changes no version.
use Rattle.std.proofs.Common.{◌≡◌, ℕ, ◌+◌, ◌≤◌, List, [], ◌∷◌, ◌++◌, length, take, drop, refl, ap, sym, subst, ◌∙◌, append_assoc, length-append, arith}
use Rattle.std.proofs.lemmas.List.{length-take-le, length-drop, drop-drop, take-append-drop, take_at, drop_at, take-append-le, drop-append-le}
use Rattle.bx_text.specs.declared.pieces.piece.Buffer.{Buffer}
use Rattle.bx_text.specs.declared.pieces.piece.Buffer.TheVariants.{Opened, Added}
use Rattle.bx_text.specs.declared.pieces.piece.Piece.{Piece}
use Rattle.bx_text.specs.pieces.Pieces.{total, front, back}
use Rattle.bx_text.specs.declared.step.Step.{Step}
use Rattle.std.specs.Str.{IsUtf8, IsCharBoundary}
use Rattle.bx_text.specs.Buffers.{Buffers, buffer_bytes, piece_bytes, bytes_of, IsInBuffer, AreInBuffers}
use Rattle.bx_text.specs.Edits.{Edit, splice}
use Rattle.bx_text.specs.Changes.{IsRange, IsChange}
use Rattle.bx_text.proofs.Characters.{IsCharBoundary-drop, IsRange-splice}
use Rattle.bx_text.specs.Steps.{after_swap, past_of, AreSteps}
use Rattle.bx_text.proofs.Bytes.{bytes_of-append, bytes_of-front, bytes_of-back, AreInBuffers-append, AreInBuffers-front, AreInBuffers-back}

-- ---- a swap

-- the end of the bytes to replace, counted from their start
back_bounds : (b : Buffers) (ps : List Piece) (start len : ℕ) → AreInBuffers b ps → IsRange (bytes_of b ps) start (start + len)
    → IsCharBoundary (bytes_of b (back ps start)) len
back_bounds b ps start len h r =
    subst (λ xs. IsCharBoundary xs len) (sym (bytes_of-back b ps start h)) (IsCharBoundary-drop (bytes_of b ps) start len r.stop_bounds)

-- the bytes after it
pub last_bytes : (b : Buffers) (ps : List Piece) (start len : ℕ) → AreInBuffers b ps → IsCharBoundary (bytes_of b ps) start
    → bytes_of b (back (back ps start) len) ≡ drop (start + len) (bytes_of b ps)
last_bytes b ps start len h c =
    bytes_of-back b (back ps start) len (AreInBuffers-back b ps start h c) ∙ ap (drop len) (bytes_of-back b ps start h) ∙ drop-drop len start (bytes_of b ps)

pub last_in_buffers : (b : Buffers) (ps : List Piece) (start len : ℕ) → AreInBuffers b ps → IsRange (bytes_of b ps) start (start + len)
    → AreInBuffers b (back (back ps start) len)
last_in_buffers b ps start len h r = AreInBuffers-back b (back ps start) len (AreInBuffers-back b ps start h r.start_bounds) (back_bounds b ps start len h r)

pub swap_bytes : (b : Buffers) (ps span : List Piece) (start len : ℕ) → AreInBuffers b ps → IsCharBoundary (bytes_of b ps) start
    → bytes_of b (front ps start ++ (span ++ back (back ps start) len)) ≡ splice (bytes_of b ps) start (start + len) (bytes_of b span)
swap_bytes b ps span start len h c =
    bytes_of-append b (front ps start) (span ++ back (back ps start) len)
    ∙ ap (λ xs. xs ++ bytes_of b (span ++ back (back ps start) len)) (bytes_of-front b ps start h)
    ∙ ap (λ xs. take start (bytes_of b ps) ++ xs)
    (bytes_of-append b span (back (back ps start) len)
    ∙ ap (λ xs. bytes_of b span ++ xs) (last_bytes b ps start len h c))
    ∙ sym (append_assoc (take start (bytes_of b ps)) (bytes_of b span) (drop (start + len) (bytes_of b ps)))

pub swap_in_buffers : (b : Buffers) (ps span : List Piece) (start len : ℕ) → AreInBuffers b ps → AreInBuffers b span → IsRange (bytes_of b ps) start
    (start + len)
    → AreInBuffers b (front ps start ++ (span ++ back (back ps start) len))
swap_in_buffers b ps span start len h k r =
    AreInBuffers-append b (front ps start) (span ++ back (back ps start) len) (AreInBuffers-front b ps start h r.start_bounds)
    (AreInBuffers-append b span (back (back ps start) len) k (last_in_buffers b ps start len h r))

pub old_bytes : (b : Buffers) (ps : List Piece) (start len : ℕ) → AreInBuffers b ps → IsRange (bytes_of b ps) start (start + len)
    → bytes_of b (front (back ps start) len) ≡ take len (drop start (bytes_of b ps))
old_bytes b ps start len h r = bytes_of-front b (back ps start) len (AreInBuffers-back b ps start h r.start_bounds) ∙ ap (take len) (bytes_of-back b ps start h)

pub old_in_buffers : (b : Buffers) (ps : List Piece) (start len : ℕ) → AreInBuffers b ps → IsRange (bytes_of b ps) start (start + len)
    → AreInBuffers b (front (back ps start) len)
old_in_buffers b ps start len h r = AreInBuffers-front b (back ps start) len (AreInBuffers-back b ps start h r.start_bounds) (back_bounds b ps start len h r)

-- ---- and back

pub length-splice : (text new : List ℕ) (start len : ℕ) → start + len ≤ length text
    → length (splice text start (start + len) new) + len ≡ length text + length new
length-splice text new start len h =
    omega (
      arith,
      length-append (take start text ++ new) (drop (start + len) text),
      length-append (take start text) new,
      length-take-le start text (omega arith),
      length-drop (start + len) text,
    )

-- the bytes before and after the inserted ones
pub splice_before : (text new : List ℕ) (start stop : ℕ) → start ≤ length text → take start (splice text start stop new) ≡ take start text
splice_before text new start stop h =
    ap (take start) (append_assoc (take start text) new (drop stop text))
    ∙ take_at (take start text) (new ++ drop stop text) start (length-take-le start text h)

pub splice_after : (text new : List ℕ) (start stop : ℕ) → start ≤ length text → drop (start + length new) (splice text start stop new) ≡ drop stop text
splice_after text new start stop h =
    drop_at (take start text ++ new) (drop stop text) (start + length new)
    (length-append (take start text) new ∙ ap (λ n. n + length new) (length-take-le start text h))

pub splice_back : (text new : List ℕ) (start len : ℕ) → start + len ≤ length text
    → splice (splice text start (start + len) new) start (start + length new) (take len (drop start text)) ≡ text
splice_back text new start len h =
    rw (splice_before text new start (start + len) (omega arith), splice_after text new start (start + len) (omega arith))
    (append_assoc (take start text) (take len (drop start text)) (drop (start + len) text)
    ∙ ap (λ xs. take start text ++ (take len (drop start text) ++ xs)) (sym (drop-drop len start text))
    ∙ ap (λ xs. take start text ++ xs) (take-append-drop len (drop start text))
    ∙ take-append-drop start text)

pub splice_leads : (text new : List ℕ) (start len place : ℕ) → IsUtf8 text → IsUtf8 new → IsRange text start (start + len)
    → IsChange text (record { start = start; removed = len; added = length new; place = place }) (splice text start (start + len) new)
splice_leads text new start len place utf8 more range = record {
  old_range = range;
  new_range = IsRange-splice text new start len utf8 more range;
  same_before = splice_before text new start (start + len) range.start_bounds.0;
  same_after = splice_after text new start (start + len) range.start_bounds.0;
  grown = length-splice text new start len range.stop_bounds.0;
}

-- ---- growth

abbrev pub grown : Buffers → List ℕ → Buffers
grown b more = record b { added = b.added ++ more }

in_buffers_longer : (b : Buffers) (more : List ℕ) (which : Buffer) (n : ℕ) → n ≤ length (buffer_bytes b which) → n ≤ length (buffer_bytes (grown b more) which)
in_buffers_longer b more Opened n h = h
in_buffers_longer b more Added n h = omega (arith, length-append b.added more)

stretch_kept : (xs more : List ℕ) (start len : ℕ) → start + len ≤ length xs → take len (drop start (xs ++ more)) ≡ take len (drop start xs)
stretch_kept xs more start len h =
    ap (take len) (drop-append-le start xs more (omega arith)) ∙ take-append-le len (drop start xs) more (omega (arith, length-drop start xs))

stretch_grown : (b : Buffers) (more : List ℕ) (which : Buffer) (start len : ℕ) → start + len ≤ length (buffer_bytes b which)
    → take len (drop start (buffer_bytes (grown b more) which)) ≡ take len (drop start (buffer_bytes b which))
stretch_grown b more Opened start len h = refl
stretch_grown b more Added start len h = stretch_kept b.added more start len h

IsInBuffer-grown : (b : Buffers) (more : List ℕ) (p : Piece) → IsInBuffer b p → IsInBuffer (grown b more) p
IsInBuffer-grown b more p h = record {
  inside = in_buffers_longer b more p.buffer (p.start + p.len) h.inside;
  utf8 = subst IsUtf8 (sym (stretch_grown b more p.buffer p.start p.len h.inside)) h.utf8;
}

pub AreInBuffers-grown : (b : Buffers) (more : List ℕ) (ps : List Piece) → AreInBuffers b ps → AreInBuffers (grown b more) ps
AreInBuffers-grown b more [] h = h
AreInBuffers-grown b more (p ∷ ps) h = (IsInBuffer-grown b more p h.0, AreInBuffers-grown b more ps h.1)

pub bytes_of-grown : (b : Buffers) (more : List ℕ) (ps : List Piece) → AreInBuffers b ps → bytes_of (grown b more) ps ≡ bytes_of b ps
bytes_of-grown b more [] h = refl
bytes_of-grown b more (p ∷ ps) h =
    ap (λ xs. xs ++ bytes_of (grown b more) ps) (stretch_grown b more p.buffer p.start p.len h.0.inside)
    ∙ ap (λ xs. piece_bytes b p ++ xs) (bytes_of-grown b more ps h.1)

swap-grown : (b : Buffers) (more text : List ℕ) (s : Step) → AreInBuffers b s.span → after_swap (grown b more) text s ≡ after_swap b text s
swap-grown b more text s h = ap (splice text s.start (s.start + s.len)) (bytes_of-grown b more s.span h)

pub past_of-grown : (b : Buffers) (more text : List ℕ) (ss : List Step) → AreSteps b text ss → past_of (grown b more) text ss ≡ past_of b text ss
past_of-grown b more text [] h = refl
past_of-grown b more text (s ∷ ss) h =
    rw (swap-grown b more text s h.1)
    (ap (λ (es : List Edit). record {
      before = record { text = after_swap b text s; place = s.before };
      after = record { text = text; place = s.after };
      start = s.start;
      removed = total s.span;
      added = s.len;
    } ∷ es) (past_of-grown b more (after_swap b text s) ss h.3))

pub AreSteps-grown : (b : Buffers) (more text : List ℕ) (ss : List Step) → AreSteps b text ss → AreSteps (grown b more) text ss
AreSteps-grown b more text [] h = h
AreSteps-grown b more text (s ∷ ss) h =
    rw (swap-grown b more text s h.1) (h.0, AreInBuffers-grown b more s.span h.1, h.2, AreSteps-grown b more (after_swap b text s) ss h.3)
