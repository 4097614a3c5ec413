-- Two edits made one after the other.
use Rattle.std.proofs.Common.{◌≡◌, ℕ, ◌+◌, ◌≤◌, List, [], ◌∷◌, ◌++◌, length, reverse, ap, sym, subst, ◌∙◌, arith}
use Rattle.std.proofs.lemmas.List.{reverse-append}
use Rattle.std.specs.Str.{IsCharBoundary, IsUtf8}
use Rattle.bx_text.specs.declared.pieces.piece.Piece.{Piece}
use Rattle.bx_text.specs.pieces.Pieces.{front, back}
use Rattle.bx_text.specs.declared.pairs.Replacement.{Replacement}
use Rattle.bx_text.specs.declared.step.Step.{Step}
use Rattle.bx_text.specs.Buffers.{Buffers, bytes_of, with_added}
use Rattle.bx_text.specs.Edits.{Edit, Edited, largest_text, splice, merged}
use Rattle.bx_text.specs.Changes.{IsChange, IsRange}
use Rattle.bx_text.specs.Replacements.{change_made, made, text_after}
use Rattle.bx_text.specs.Steps.{past_of}
use Rattle.bx_text.proofs.Bytes.{IsUtf8-bytes_of}
use Rattle.bx_text.proofs.Merged.{merged_leads, new_bounds_before}
use Rattle.bx_text.proofs.Replaced.{IsReplaced, edited_after, pieces_after, sound_after, step_back}
use Rattle.bx_text.proofs.Versions.{grown, length-splice, splice_leads}

-- what one edit does to the buffers, the pieces and the past
pub record IsMade (b : Buffers) (ps : List Piece) (past : List Step) (r : Replacement) (B : Buffers) (P : List Piece) (S : List Step) : Type 0 where
  pub buffers : B ≡ grown b r.text.now
  pub pieces : P ≡ pieces_after b ps r.text.now r.start r.len
  pub steps : reverse S ≡ step_back ps r.text.now r.start r.len r.before r.after ∷ reverse past

pub is_made : (opened added added' : List ℕ) (ps P : List Piece) (past S : List Step) (r : Replacement) (at : ℕ)
    → added' ≡ added ++ r.text.now → P ≡ with_added (front ps r.start) at (length r.text.now) ++ back (back ps r.start) r.len → at ≡ length added
    → S ≡ past ++ record { start = r.start; span = front (back ps r.start) r.len; len = length r.text.now; before = r.before; after = r.after } ∷ []
    → IsMade (record { opened = opened; added = added }) ps past r (record { opened = opened; added = added' }) P S
is_made opened added added' ps P past S r at buffer pieces place steps = record {
  buffers = ap (λ (x : List ℕ). record { opened = opened; added = x }) buffer;
  pieces = pieces ∙ ap (λ n. with_added (front ps r.start) n (length r.text.now) ++ back (back ps r.start) r.len) place;
  steps = ap reverse steps
      ∙ reverse-append past (record {
        start = r.start;
        span = front (back ps r.start) r.len;
        len = length r.text.now;
        before = r.before;
        after = r.after;
      } ∷ []);
}

module _ (b : Buffers) (ps : List Piece) (past : List Step) (r : Replacement) (B : Buffers) (P : List Piece) (S : List Step)
    (made_so : IsMade b ps past r B P S) (sound : IsReplaced b ps (reverse past)) (utf8 : IsUtf8 r.text.now)
    (range : IsRange (bytes_of b ps) r.start (r.start + r.len)) where
  pub made_sound : length (bytes_of b ps) + length r.text.now ≤ largest_text + r.len → IsReplaced B P (reverse S)
  made_sound fits =
      sound_after b ps r.text.now r.start r.len r.before r.after sound.in_buffers utf8 range (reverse past) sound.short fits sound.steps
      B P (reverse S) made_so.buffers made_so.pieces made_so.steps

  pub made_view : (future : List Edit)
      → record { text = bytes_of B P; past = past_of B (bytes_of B P) (reverse S); future = [] }
      ≡ made (record { text = bytes_of b ps; past = past_of b (bytes_of b ps) (reverse past); future = future }) r
  made_view future =
      edited_after b ps r.text.now r.start r.len r.before r.after sound.in_buffers utf8 range (reverse past) future sound.steps
      B P (reverse S) made_so.buffers made_so.pieces made_so.steps

  pub made_text : bytes_of B P ≡ text_after (bytes_of b ps) r
  made_text = ap (λ (e : Edited). e.text) (made_view [])

  pub made_leads : IsChange (bytes_of b ps) (change_made r) (bytes_of B P)
  made_leads = subst (IsChange (bytes_of b ps) (change_made r)) (sym made_text)
      (splice_leads (bytes_of b ps) r.text.now r.start r.len r.after (IsUtf8-bytes_of b ps sound.in_buffers) utf8 range)

  pub made_length : length (bytes_of B P) + r.len ≡ length (bytes_of b ps) + length r.text.now
  made_length = ap (λ t. length t + r.len) made_text ∙ length-splice (bytes_of b ps) r.text.now r.start r.len range.stop_bounds.0

-- ---- two edits

module _ (b B C : Buffers) (ps P Q : List Piece) (past S T : List Step) (r q : Replacement)
    (first : IsMade b ps past r B P S) (second : IsMade B P S q C Q T) (sound : IsReplaced b ps (reverse past))
    (first_utf8 : IsUtf8 r.text.now) (second_utf8 : IsUtf8 q.text.now)
    (first_range : IsRange (bytes_of b ps) r.start (r.start + r.len))
    (second_range : IsRange (text_after (bytes_of b ps) r) q.start (q.start + q.len))
    (fits : length (bytes_of b ps) + length r.text.now ≤ largest_text + r.len)
    (both_fit : length (bytes_of b ps) + length r.text.now + length q.text.now ≤ largest_text + r.len + q.len) where
  between : IsReplaced B P (reverse S)
  between = made_sound b ps past r B P S first sound first_utf8 first_range fits

  range_between : IsRange (bytes_of B P) q.start (q.start + q.len)
  range_between = subst (λ t. IsRange t q.start (q.start + q.len)) (sym (made_text b ps past r B P S first sound first_utf8 first_range)) second_range

  pub twice_sound : IsReplaced C Q (reverse T)
  twice_sound = made_sound B P S q C Q T second between second_utf8 range_between
      (omega (arith, made_length b ps past r B P S first sound first_utf8 first_range, both_fit))

  pub twice_view : (future : List Edit)
      → record { text = bytes_of C Q; past = past_of C (bytes_of C Q) (reverse T); future = [] }
      ≡ made (made (record { text = bytes_of b ps; past = past_of b (bytes_of b ps) (reverse past); future = future }) r) q
  twice_view future =
      made_view B P S q C Q T second between second_utf8 range_between []
      ∙ ap (λ (e : Edited). made e q) (made_view b ps past r B P S first sound first_utf8 first_range future)

  pub twice_leads : IsChange (bytes_of b ps) (merged (change_made r) (change_made q)) (bytes_of C Q)
  twice_leads =
      merged_leads (bytes_of b ps) (bytes_of B P) (bytes_of C Q) (change_made r) (change_made q)
      (made_leads b ps past r B P S first sound first_utf8 first_range)
      (made_leads B P S q C Q T second between second_utf8 range_between)

  -- the two changes are small
  pub first_small : r.start + length r.text.now ≤ largest_text
  first_small = omega (arith, fits, first_range.stop_bounds.0)

  pub second_small : q.start + q.len ≤ largest_text
  second_small = omega (arith, range_between.stop_bounds.0, between.short)

-- the start of a text is still a boundary after an edit further on
pub wrap_range : (text back : List ℕ) (start stop : ℕ) → IsUtf8 text → IsUtf8 back → IsRange text start stop
    → IsRange (splice text stop (stop + 0) back) start (start + 0)
wrap_range text back start stop utf8 more r =
    let behind : IsRange text stop (stop + 0) = record {
      start_bounds = r.stop_bounds;
      stop_bounds = (let e : stop ≡ stop + 0 = omega arith in subst (IsCharBoundary text) e r.stop_bounds);
      in_order = omega arith;
    } in
    let new : List ℕ = splice text stop (stop + 0) back in
    let bounds : IsCharBoundary new start =
    new_bounds_before text (record { start = stop; removed = 0; added = length back; place = 0 }) new
    (splice_leads text back stop 0 0 utf8 more behind) start r.in_order r.start_bounds in
    record {
      start_bounds = bounds;
      stop_bounds = (let e : start ≡ start + 0 = omega arith in subst (IsCharBoundary new) e bounds);
      in_order = omega arith;
    }
