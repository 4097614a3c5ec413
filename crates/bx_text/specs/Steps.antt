-- The past and the future of a text, as the program stores them: a step of the past has the pieces from before an edit, a step
-- of the future those from after it. So each version of the text follows from the present text.
use Rattle.std.specs.Prelude.{◌^◌, ◌<◌, ◌++◌, ◌≡◌, ℕ, ◌+◌, ◌≤◌, List, [], ◌∷◌, length, reverse}
use Rattle.std.specs.Str.{IsUtf8}
use Rattle.bx_text.specs.declared.pieces.piece.Piece.{Piece}
use Rattle.bx_text.specs.pieces.Pieces.{total, front, back}
use Rattle.bx_text.specs.declared.change.Change.{Change}
use Rattle.bx_text.specs.declared.step.Step.{Step}
use Rattle.bx_text.specs.declared.step.Way.{Way}
use Rattle.bx_text.specs.declared.step.Way.TheVariants.{Back, Again}
use Rattle.bx_text.specs.Buffers.{Buffers, bytes_of, AreInBuffers}
use Rattle.bx_text.specs.Edits.{Edit, Edited, splice, largest_text, redone_times, undone_times}
use Rattle.bx_text.specs.Changes.{IsRange}

-- the text with the step's bytes replaced by its pieces
abbrev pub after_swap : Buffers → List ℕ → Step → List ℕ
after_swap b text s = splice text s.start (s.start + s.len) (bytes_of b s.span)

-- the edits that led to a text, the latest first
abbrev pub past_of : Buffers → List ℕ → List Step → List Edit
past_of b text [] = []
past_of b text (s ∷ ss) =
    record {
      before = record { text = after_swap b text s; place = s.before };
      after = record { text = text; place = s.after };
      start = s.start;
      removed = total s.span;
      added = s.len;
    } ∷ past_of b (after_swap b text s) ss

-- the edits that lead on from a text, the next first
abbrev pub future_of : Buffers → List ℕ → List Step → List Edit
future_of b text [] = []
future_of b text (s ∷ ss) =
    record {
      before = record { text = text; place = s.before };
      after = record { text = after_swap b text s; place = s.after };
      start = s.start;
      removed = s.len;
      added = total s.span;
    } ∷ future_of b (after_swap b text s) ss

-- each step applies to the text at its turn
abbrev pub AreSteps : Buffers → List ℕ → List Step → Type 0
AreSteps b text [] = Unit {0}
AreSteps b text (s ∷ ss) =
    IsRange text s.start (s.start + s.len) × AreInBuffers b s.span × (length (after_swap b text s) ≤ largest_text) × AreSteps b (after_swap b text s) ss

-- the pieces and the span of the last step have fewer than 2^64 bytes together, so that `usize` counts them
abbrev pub IsShort : List Piece → List Step → Type 0
IsShort ps steps = (s : Step) (rest : List Step) → steps ≡ rest ++ s ∷ [] → total ps + total s.span < 2 ^ 64

-- the pieces after a step
abbrev pub turned_pieces : List Piece → Step → List Piece
turned_pieces ps s = front ps s.start ++ (s.span ++ back (back ps s.start) s.len)

-- the step that reverses it: its span is the pieces that were replaced
abbrev pub turned_step : List Piece → Step → Step
turned_step ps s = record { start = s.start; span = front (back ps s.start) s.len; len = total s.span; before = s.before; after = s.after }

-- a step is turned: the last of one list is applied, and the step that reverses it is appended to the other
abbrev pub Turns : List Piece → List Step → List Step → List Piece → List Step → List Step → Type 0
Turns ps from to ps' from' to' =
    (s : Step) × (from ≡ from' ++ s ∷ []) × (ps' ≡ turned_pieces ps s) × (to' ≡ to ++ turned_step ps s ∷ [])

-- the cursor's place after a step, and the change that the step makes
abbrev pub place_of : Way → Step → ℕ
place_of Back s = s.before
place_of Again s = s.after

abbrev pub step_change : Way → Step → Change
step_change way s = record { start = s.start; removed = s.len; added = total s.span; place = place_of way s }

-- the steps, the last first, apply to some text one after another
pub record Apply (steps : List Step) : Type 0 where
  pub buffers : Buffers
  pub text : List ℕ
  pub utf8 : IsUtf8 text
  pub short : length text ≤ largest_text
  pub applied : AreSteps buffers text (reverse steps)

-- ---- many turns

-- The state while steps are turned one after another: the pieces of the text, the steps to turn (`from`) and those that reverse
-- the turned ones (`to`). In both lists the next comes last.
pub record Turning : Type 0 where
  pub pieces : List Piece
  pub from : List Step
  pub to : List Step

-- the text in such a state: in an undo the steps of its past are turned, in a redo those of its future
abbrev pub in_undo : Buffers → Turning → Edited
in_undo b t = record {
  text = bytes_of b t.pieces;
  past = past_of b (bytes_of b t.pieces) (reverse t.from);
  future = future_of b (bytes_of b t.pieces) (reverse t.to);
}

abbrev pub in_redo : Buffers → Turning → Edited
in_redo b t = record {
  text = bytes_of b t.pieces;
  past = past_of b (bytes_of b t.pieces) (reverse t.to);
  future = future_of b (bytes_of b t.pieces) (reverse t.from);
}

-- its pieces lie in the buffers, and all its steps apply
pub record IsTurning (b : Buffers) (t : Turning) : Type 0 where
  pub in_buffers : AreInBuffers b t.pieces
  pub short : length (bytes_of b t.pieces) ≤ largest_text
  pub from_steps : AreSteps b (bytes_of b t.pieces) (reverse t.from)
  pub to_steps : AreSteps b (bytes_of b t.pieces) (reverse t.to)

-- all its steps can be turned, in some buffers that memory holds
pub record CanTurn (t : Turning) : Type 0 where
  pub buffers : Buffers
  pub opened_in_memory : length buffers.opened < 2 ^ 64
  pub added_in_memory : length buffers.added < 2 ^ 64
  pub turning : IsTurning buffers t

-- n steps were turned, which undoes n edits or redoes them
pub record HasTurned (b : Buffers) (n : ℕ) (old new : Turning) : Type 0 where
  pub sound : IsTurning b new
  pub undone : in_undo b new ≡ undone_times n (in_undo b old)
  pub redone : in_redo b new ≡ redone_times n (in_redo b old)
  pub left : length new.from + n ≡ length old.from

-- n steps were turned, whatever the buffers in which they can be
abbrev pub HaveTurned : ℕ → Turning → Turning → Type 0
HaveTurned n old new = (b : Buffers) → IsTurning b old → HasTurned b n old new
