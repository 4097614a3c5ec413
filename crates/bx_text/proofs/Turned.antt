-- A step taken back or made again: the text after it, and the step that undoes it.
use Rattle.std.proofs.Common.{◌≡◌, ℕ, ◌+◌, ◌<◌, ◌≤◌, List, [], ◌∷◌, ◌++◌, length, take, drop, reverse, ◌^◌, IfSome, refl, ap, sym, subst, ◌∙◌, arith}
use Rattle.std.proofs.lemmas.List.{length-take-le, length-drop, reverse-append}
use Rattle.bx_text.specs.declared.pieces.piece.Piece.{Piece}
use Rattle.bx_text.specs.pieces.Pieces.{total, front, back}
use Rattle.bx_text.specs.declared.step.Step.{Step}
use Rattle.bx_text.specs.Buffers.{Buffers, bytes_of, AreInBuffers}
use Rattle.bx_text.specs.Edits.{Edit, splice, undone, redone, largest_text}
use Rattle.bx_text.specs.Changes.{IsRange, IsChange, next_undo, next_redo}
use Rattle.bx_text.specs.Steps.{after_swap, past_of, future_of, AreSteps, turned_pieces, turned_step, Turns}
use Rattle.bx_text.proofs.Characters.{IsRange-splice}
use Rattle.bx_text.proofs.Bytes.{length-bytes_of, IsUtf8-bytes_of}
use Rattle.bx_text.proofs.Versions.{swap_bytes, swap_in_buffers, old_bytes, old_in_buffers, length-splice, splice_back, splice_leads}

module _ (b : Buffers) (ps : List Piece) (s : Step) (in_buffers : AreInBuffers b ps) (range : IsRange (bytes_of b ps) s.start (s.start + s.len))
    (span_in_buffers : AreInBuffers b s.span) where
  pub turned_bytes : bytes_of b (turned_pieces ps s) ≡ after_swap b (bytes_of b ps) s
  turned_bytes = swap_bytes b ps s.span s.start s.len in_buffers range.start_bounds

  pub turned_in_buffers : AreInBuffers b (turned_pieces ps s)
  turned_in_buffers = swap_in_buffers b ps s.span s.start s.len in_buffers span_in_buffers range

  pub turned_total : total (front (back ps s.start) s.len) ≡ s.len
  turned_total =
      sym (length-bytes_of b (front (back ps s.start) s.len) (old_in_buffers b ps s.start s.len in_buffers range))
      ∙ ap length (old_bytes b ps s.start s.len in_buffers range)
      ∙ length-take-le s.len (drop s.start (bytes_of b ps)) (omega (arith, length-drop s.start (bytes_of b ps), range.stop_bounds.0))

  pub turned_back : after_swap b (bytes_of b (turned_pieces ps s)) (turned_step ps s) ≡ bytes_of b ps
  turned_back =
      ap (λ (t : List ℕ). splice t s.start (s.start + total s.span) (bytes_of b (front (back ps s.start) s.len))) turned_bytes
      ∙ ap (splice (after_swap b (bytes_of b ps) s) s.start (s.start + total s.span)) (old_bytes b ps s.start s.len in_buffers range)
      ∙ ap (λ n. splice (after_swap b (bytes_of b ps) s) s.start (s.start + n) (take s.len (drop s.start (bytes_of b ps))))
      (sym (length-bytes_of b s.span span_in_buffers))
      ∙ splice_back (bytes_of b ps) (bytes_of b s.span) s.start s.len range.stop_bounds.0

  pub turned_steps : (steps others : List Step) → length (bytes_of b ps) ≤ largest_text → AreSteps b (bytes_of b ps) others
      → AreSteps b (bytes_of b (turned_pieces ps s)) (turned_step ps s ∷ others)
  turned_steps steps others short h = (
    subst (λ t. IsRange t s.start (s.start + total s.span)) (sym turned_bytes)
        (subst (λ n. IsRange (after_swap b (bytes_of b ps) s) s.start (s.start + n)) (length-bytes_of b s.span span_in_buffers)
        (IsRange-splice (bytes_of b ps) (bytes_of b s.span) s.start s.len (IsUtf8-bytes_of b ps in_buffers) (IsUtf8-bytes_of b s.span span_in_buffers) range)),
    old_in_buffers b ps s.start s.len in_buffers range,
    rw turned_back short,
    rw turned_back h,
  )

  pub turned_future : (others : List Step)
      → future_of b (bytes_of b (turned_pieces ps s)) (turned_step ps s ∷ others)
      ≡ record {
        before = record { text = after_swap b (bytes_of b ps) s; place = s.before };
        after = record { text = bytes_of b ps; place = s.after };
        start = s.start;
        removed = total s.span;
        added = s.len;
      } ∷ future_of b (bytes_of b ps) others
  turned_future others = rw (turned_back, turned_total, turned_bytes) refl

  pub turned_past : (others : List Step)
      → past_of b (bytes_of b (turned_pieces ps s)) (turned_step ps s ∷ others)
      ≡ record {
        before = record { text = bytes_of b ps; place = s.before };
        after = record { text = after_swap b (bytes_of b ps) s; place = s.after };
        start = s.start;
        removed = s.len;
        added = total s.span;
      } ∷ past_of b (bytes_of b ps) others
  turned_past others = rw (turned_back, turned_total, turned_bytes) refl

  -- the latest edit is taken back
  pub undone_is : (ss fs : List Step)
      → record {
        text = bytes_of b (turned_pieces ps s);
        past = past_of b (bytes_of b (turned_pieces ps s)) ss;
        future = future_of b (bytes_of b (turned_pieces ps s)) (turned_step ps s ∷ fs);
      } ≡ undone (record { text = bytes_of b ps; past = past_of b (bytes_of b ps) (s ∷ ss); future = future_of b (bytes_of b ps) fs })
  undone_is ss fs = rw (turned_future fs, turned_bytes) refl

  -- the next edit is made again
  pub redone_is : (ss fs : List Step)
      → record {
        text = bytes_of b (turned_pieces ps s);
        past = past_of b (bytes_of b (turned_pieces ps s)) (turned_step ps s ∷ ss);
        future = future_of b (bytes_of b (turned_pieces ps s)) fs;
      } ≡ redone (record { text = bytes_of b ps; past = past_of b (bytes_of b ps) ss; future = future_of b (bytes_of b ps) (s ∷ fs) })
  redone_is ss fs = rw (turned_past ss, turned_bytes) refl

-- ---- the lists of steps, the last of which is the next

reverse_last : (rest items : List Step) (s : Step) → items ≡ rest ++ s ∷ [] → reverse items ≡ s ∷ reverse rest
reverse_last rest items s e = ap reverse e ∙ reverse-append rest (s ∷ [])

-- the span of a step fits beside the text
pub span_short : (b : Buffers) (ps : List Piece) (items rest : List Step) (s : Step) → AreInBuffers b ps → length (bytes_of b ps) ≤ largest_text
    → AreSteps b (bytes_of b ps) (reverse items) → items ≡ rest ++ s ∷ [] → total ps + total s.span < 2 ^ 64
span_short b ps items rest s in_buffers short steps e =
    let h : AreSteps b (bytes_of b ps) (s ∷ reverse rest) = subst (AreSteps b (bytes_of b ps)) (reverse_last rest items s e) steps in
    let range : IsRange (bytes_of b ps) s.start (s.start + s.len) = h.0 in
    let after : length (after_swap b (bytes_of b ps) s) ≤ largest_text = h.2 in
    omega (
      arith,
      length-splice (bytes_of b ps) (bytes_of b s.span) s.start s.len range.stop_bounds.0,
      length-bytes_of b s.span h.1,
      length-bytes_of b ps in_buffers,
    )

pub record IsTurned (b : Buffers) (P : List Piece) (from to : List Step) : Type 0 where
  pub in_buffers : AreInBuffers b P
  pub short : length (bytes_of b P) ≤ largest_text
  pub from_steps : AreSteps b (bytes_of b P) (reverse from)
  pub to_steps : AreSteps b (bytes_of b P) (reverse to)

pub turned_sound : (b : Buffers) (ps : List Piece) (from to : List Step) (P : List Piece) (from' to' : List Step) → AreInBuffers b ps
    → length (bytes_of b ps) ≤ largest_text
    → AreSteps b (bytes_of b ps) (reverse from) → AreSteps b (bytes_of b ps) (reverse to) → Turns ps from to P from' to' → IsTurned b P from' to'
turned_sound b ps from to P from' to' in_buffers short from_steps to_steps t =
    let s = t.0 in
    let h : AreSteps b (bytes_of b ps) (s ∷ reverse from') = subst (AreSteps b (bytes_of b ps)) (reverse_last from' from s t.1) from_steps in
    let bytes = turned_bytes b ps s in_buffers h.0 h.1 in
    let back : reverse to' ≡ turned_step ps s ∷ reverse to = reverse_last to to' (turned_step ps s) t.3 in
    rw t.2
    (record {
      in_buffers = turned_in_buffers b ps s in_buffers h.0 h.1;
      short = rw bytes h.2;
      from_steps = rw bytes h.3;
      to_steps = rw back (turned_steps b ps s in_buffers h.0 h.1 [] (reverse to) short to_steps);
    })

pub undone_view : (b : Buffers) (ps : List Piece) (from to : List Step) (P : List Piece) (from' to' : List Step) → AreInBuffers b ps
    → AreSteps b (bytes_of b ps) (reverse from) → Turns ps from to P from' to'
    → record { text = bytes_of b P; past = past_of b (bytes_of b P) (reverse from'); future = future_of b (bytes_of b P) (reverse to') }
    ≡ undone (record { text = bytes_of b ps; past = past_of b (bytes_of b ps) (reverse from); future = future_of b (bytes_of b ps) (reverse to) })
undone_view b ps from to P from' to' in_buffers from_steps t =
    let s = t.0 in
    let next = reverse_last from' from s t.1 in
    let h : AreSteps b (bytes_of b ps) (s ∷ reverse from') = subst (AreSteps b (bytes_of b ps)) next from_steps in
    rw (t.2, reverse_last to to' (turned_step ps s) t.3, next) (undone_is b ps s in_buffers h.0 h.1 (reverse from') (reverse to))

pub redone_view : (b : Buffers) (ps : List Piece) (from to : List Step) (P : List Piece) (from' to' : List Step) → AreInBuffers b ps
    → AreSteps b (bytes_of b ps) (reverse from) → Turns ps from to P from' to'
    → record { text = bytes_of b P; past = past_of b (bytes_of b P) (reverse to'); future = future_of b (bytes_of b P) (reverse from') }
    ≡ redone (record { text = bytes_of b ps; past = past_of b (bytes_of b ps) (reverse to); future = future_of b (bytes_of b ps) (reverse from) })
redone_view b ps from to P from' to' in_buffers from_steps t =
    let s = t.0 in
    let next = reverse_last from' from s t.1 in
    let h : AreSteps b (bytes_of b ps) (s ∷ reverse from') = subst (AreSteps b (bytes_of b ps)) next from_steps in
    rw (t.2, reverse_last to to' (turned_step ps s) t.3, next) (redone_is b ps s in_buffers h.0 h.1 (reverse to) (reverse from'))

-- the change that a step makes
step_leads : (b : Buffers) (ps : List Piece) (s : Step) (place : ℕ) → AreInBuffers b ps → IsRange (bytes_of b ps) s.start (s.start + s.len)
    → AreInBuffers b s.span
    → IsChange (bytes_of b ps) (record { start = s.start; removed = s.len; added = total s.span; place = place }) (bytes_of b (turned_pieces ps s))
step_leads b ps s place in_buffers range span_in_buffers =
    rw (turned_bytes b ps s in_buffers range span_in_buffers, ← length-bytes_of b s.span span_in_buffers)
    (splice_leads (bytes_of b ps) (bytes_of b s.span) s.start s.len place (IsUtf8-bytes_of b ps in_buffers) (IsUtf8-bytes_of b s.span span_in_buffers) range)

pub undone_leads : (b : Buffers) (ps : List Piece) (from to : List Step) (future : List Edit) (P : List Piece) (from' to' : List Step) → AreInBuffers b ps
    → AreSteps b (bytes_of b ps) (reverse from) → Turns ps from to P from' to'
    → IfSome (next_undo (record { text = bytes_of b ps; past = past_of b (bytes_of b ps) (reverse from); future = future }))
    (λ c. IsChange (bytes_of b ps) c (bytes_of b P))
undone_leads b ps from to future P from' to' in_buffers from_steps t =
    let s = t.0 in
    let next = reverse_last from' from s t.1 in
    let h : AreSteps b (bytes_of b ps) (s ∷ reverse from') = subst (AreSteps b (bytes_of b ps)) next from_steps in
    rw (next, t.2) (step_leads b ps s s.before in_buffers h.0 h.1)

pub redone_leads : (b : Buffers) (ps : List Piece) (from to : List Step) (past : List Edit) (P : List Piece) (from' to' : List Step) → AreInBuffers b ps
    → AreSteps b (bytes_of b ps) (reverse from) → Turns ps from to P from' to'
    → IfSome (next_redo (record { text = bytes_of b ps; past = past; future = future_of b (bytes_of b ps) (reverse from) }))
    (λ c. IsChange (bytes_of b ps) c (bytes_of b P))
redone_leads b ps from to past P from' to' in_buffers from_steps t =
    let s = t.0 in
    let next = reverse_last from' from s t.1 in
    let h : AreSteps b (bytes_of b ps) (s ∷ reverse from') = subst (AreSteps b (bytes_of b ps)) next from_steps in
    rw (next, t.2) (step_leads b ps s s.after in_buffers h.0 h.1)
