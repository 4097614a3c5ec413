-- One edit: the text after it, and the step that takes it back.
use Rattle.std.proofs.Common.{◌≡◌, ℕ, ◌+◌, ◌-◌, ◌≤◌, List, [], ◌∷◌, ◌++◌, length, take, drop, refl, ap, sym, subst, ◌∙◌, arith}
use Rattle.std.proofs.lemmas.List.{length-take-le, length-drop}
use Rattle.bx_text.specs.declared.pieces.piece.Piece.{Piece}
use Rattle.bx_text.specs.pieces.Pieces.{total, front, back}
use Rattle.bx_text.specs.declared.step.Step.{Step}
use Rattle.std.specs.Str.{IsUtf8}
use Rattle.bx_text.specs.Buffers.{Buffers, bytes_of, AreInBuffers, with_added}
use Rattle.bx_text.specs.Edits.{Edit, edit_of, replaced, splice, largest_text}
use Rattle.bx_text.specs.Changes.{IsRange}
use Rattle.bx_text.specs.Steps.{after_swap, past_of, AreSteps}
use Rattle.bx_text.proofs.Characters.{IsRange-splice}
use Rattle.bx_text.proofs.Bytes.{length-bytes_of, IsUtf8-bytes_of, bytes_of-append, bytes_of-front, AreInBuffers-append, AreInBuffers-front}
use Rattle.bx_text.proofs.Pushed.{bytes_of-with_added, AreInBuffers-with_added}
use Rattle.bx_text.proofs.Versions.{grown, last_bytes, last_in_buffers, old_bytes}
use Rattle.bx_text.proofs.Versions.{old_in_buffers, length-splice, splice_back, AreInBuffers-grown, bytes_of-grown}
use Rattle.bx_text.proofs.Versions.{past_of-grown, AreSteps-grown}

-- the edit

abbrev pub pieces_after : Buffers → List Piece → List ℕ → ℕ → ℕ → List Piece
pieces_after b ps more start len = with_added (front ps start) (length b.added) (length more) ++ back (back ps start) len

abbrev pub step_back : List Piece → List ℕ → ℕ → ℕ → ℕ → ℕ → Step
step_back ps more start len before after = record { start = start; span = front (back ps start) len; len = length more; before = before; after = after }

module _ (b : Buffers) (ps : List Piece) (more : List ℕ) (start len before after : ℕ) (in_buffers : AreInBuffers b ps) (utf8 : IsUtf8 more)
    (range : IsRange (bytes_of b ps) start (start + len)) where
  text : List ℕ
  text = bytes_of b ps

  front_in_buffers : AreInBuffers b (front ps start)
  front_in_buffers = AreInBuffers-front b ps start in_buffers range.start_bounds

  behind_in_buffers : AreInBuffers b (back (back ps start) len)
  behind_in_buffers = last_in_buffers b ps start len in_buffers range

  pub bytes_after : bytes_of (grown b more) (pieces_after b ps more start len) ≡ splice (bytes_of b ps) start (start + len) more
  bytes_after =
      bytes_of-append (grown b more) (with_added (front ps start) (length b.added) (length more)) (back (back ps start) len)
      ∙ ap (λ xs. xs ++ bytes_of (grown b more) (back (back ps start) len))
      (bytes_of-with_added b (front ps start) more front_in_buffers ∙ ap (λ xs. xs ++ more) (bytes_of-front b ps start in_buffers))
      ∙ ap (λ xs. (take start (bytes_of b ps) ++ more) ++ xs)
      (bytes_of-grown b more (back (back ps start) len) behind_in_buffers ∙ last_bytes b ps start len in_buffers range.start_bounds)

  pub in_buffers_after : AreInBuffers (grown b more) (pieces_after b ps more start len)
  in_buffers_after =
      AreInBuffers-append (grown b more) (with_added (front ps start) (length b.added) (length more)) (back (back ps start) len)
      (AreInBuffers-with_added b (front ps start) more front_in_buffers utf8)
      (AreInBuffers-grown b more (back (back ps start) len) behind_in_buffers)

  pub old_text : bytes_of (grown b more) (front (back ps start) len) ≡ take len (drop start (bytes_of b ps))
  old_text = bytes_of-grown b more (front (back ps start) len) (old_in_buffers b ps start len in_buffers range) ∙ old_bytes b ps start len in_buffers range

  pub old_total : total (front (back ps start) len) ≡ len
  old_total =
      sym (length-bytes_of b (front (back ps start) len) (old_in_buffers b ps start len in_buffers range))
      ∙ ap length (old_bytes b ps start len in_buffers range)
      ∙ length-take-le len (drop start (bytes_of b ps)) (omega (arith, length-drop start (bytes_of b ps), range.stop_bounds.0))

  pub back_again : after_swap (grown b more) (bytes_of (grown b more) (pieces_after b ps more start len)) (step_back ps more start len before after)
      ≡ bytes_of b ps
  back_again =
      ap (λ (t : List ℕ). splice t start (start + length more) (bytes_of (grown b more) (front (back ps start) len))) bytes_after
      ∙ ap (splice (splice (bytes_of b ps) start (start + len) more) start (start + length more)) old_text
      ∙ splice_back (bytes_of b ps) more start len range.stop_bounds.0

  pub past_after : (ss : List Step) → AreSteps b (bytes_of b ps) ss
      → past_of (grown b more) (bytes_of (grown b more) (pieces_after b ps more start len)) (step_back ps more start len before after ∷ ss)
      ≡ edit_of (bytes_of b ps) start (start + len) more before after ∷ past_of b (bytes_of b ps) ss
  past_after ss steps =
      let removed : (start + len) - start ≡ len = omega arith in
      rw (back_again, bytes_after, old_total, removed, past_of-grown b more (bytes_of b ps) ss steps) refl

  pub steps_after : (ss : List Step) → length (bytes_of b ps) ≤ largest_text → AreSteps b (bytes_of b ps) ss
      → AreSteps (grown b more) (bytes_of (grown b more) (pieces_after b ps more start len)) (step_back ps more start len before after ∷ ss)
  steps_after ss short steps = (
    subst (λ t. IsRange t start (start + length more)) (sym bytes_after)
        (IsRange-splice (bytes_of b ps) more start len (IsUtf8-bytes_of b ps in_buffers) utf8 range),
    AreInBuffers-grown b more (front (back ps start) len) (old_in_buffers b ps start len in_buffers range),
    rw back_again short,
    rw back_again (AreSteps-grown b more (bytes_of b ps) ss steps),
  )

-- the model of the text after the edit
pub edited_after : (b : Buffers) (ps : List Piece) (more : List ℕ) (start len before after : ℕ) → AreInBuffers b ps → IsUtf8 more
    → IsRange (bytes_of b ps) start (start + len)
    → (ss : List Step) (future : List Edit) → AreSteps b (bytes_of b ps) ss
    → (B : Buffers) (P : List Piece) (S : List Step) → B ≡ grown b more → P ≡ pieces_after b ps more start len
    → S ≡ step_back ps more start len before after ∷ ss
    → record { text = bytes_of B P; past = past_of B (bytes_of B P) S; future = [] }
    ≡ replaced (record { text = bytes_of b ps; past = past_of b (bytes_of b ps) ss; future = future }) start (start + len) more before after
edited_after b ps more start len before after in_buffers utf8 range ss future steps B P S eB eP eS =
    rw (eB, eP, eS)
    (ap (λ (es : List Edit). record { text = bytes_of (grown b more) (pieces_after b ps more start len); past = es; future = [] })
    (past_after b ps more start len before after in_buffers utf8 range ss steps)
    ∙ ap (λ (t : List ℕ). record { text = t; past = edit_of (bytes_of b ps) start (start + len) more before after ∷ past_of b (bytes_of b ps) ss; future = [] })
    (bytes_after b ps more start len before after in_buffers utf8 range))

pub record IsReplaced (B : Buffers) (P : List Piece) (S : List Step) : Type 0 where
  pub in_buffers : AreInBuffers B P
  pub short : length (bytes_of B P) ≤ largest_text
  pub steps : AreSteps B (bytes_of B P) S

pub sound_after : (b : Buffers) (ps : List Piece) (more : List ℕ) (start len before after : ℕ) → AreInBuffers b ps → IsUtf8 more
    → IsRange (bytes_of b ps) start (start + len)
    → (ss : List Step) → length (bytes_of b ps) ≤ largest_text → length (bytes_of b ps) + length more ≤ largest_text + len → AreSteps b (bytes_of b ps) ss
    → (B : Buffers) (P : List Piece) (S : List Step) → B ≡ grown b more → P ≡ pieces_after b ps more start len
    → S ≡ step_back ps more start len before after ∷ ss
    → IsReplaced B P S
sound_after b ps more start len before after in_buffers utf8 range ss short fits steps B P S eB eP eS =
    let count : length (bytes_of (grown b more) (pieces_after b ps more start len)) + len ≡ length (bytes_of b ps) + length more =
    ap (λ (t : List ℕ). length t + len) (bytes_after b ps more start len before after in_buffers utf8 range)
    ∙ length-splice (bytes_of b ps) more start len range.stop_bounds.0 in
    rw (eB, eP, eS)
    (record {
      in_buffers = in_buffers_after b ps more start len before after in_buffers utf8 range;
      short = omega (arith, count);
      steps = steps_after b ps more start len before after in_buffers utf8 range ss short steps;
    })
