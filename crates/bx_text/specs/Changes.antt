-- The ranges of a text, the changes that undo and redo make of its bytes, and two edits in place of one.
use Rattle.std.specs.Prelude.{◌≡◌, ℕ, ◌+◌, ◌≤◌, List, [], ◌∷◌, length, take, drop, Option, Some, None, IsCharBoundary}
use Rattle.bx_text.specs.declared.change.Change.{Change}
use Rattle.bx_text.specs.Edits.{Edit, Edited, change_back, change_of, inserted, removed}

-- two edits: the bytes from start to stop are removed, and new is put in at an offset of the text without them; between is
-- the place after the first
abbrev pub exchanged : Edited → ℕ → ℕ → ℕ → List ℕ → ℕ → ℕ → ℕ → Edited
exchanged t start stop at new before between after = inserted (removed t start stop before between) at new between after

-- the offsets are character boundaries, in order
pub record IsRange (text : List ℕ) (start stop : ℕ) : Type 0 where
  pub start_bounds : IsCharBoundary text start
  pub stop_bounds : IsCharBoundary text stop
  pub in_order : start ≤ stop

-- the change by an undo of the first of a past's edits, and by a redo of the first of a future's; None if there is none
abbrev pub first_back : List Edit → Option Change
first_back [] = None
first_back (e ∷ es) = Some (change_back e)

abbrev pub first_again : List Edit → Option Change
first_again [] = None
first_again (e ∷ es) = Some (change_of e)

-- the changes that the next undo and the next redo of a text make
abbrev pub next_undo : Edited → Option Change
next_undo t = first_back t.past

abbrev pub next_redo : Edited → Option Change
next_redo t = first_again t.future

-- a change from one text to another: they agree outside its bytes, which lie between character boundaries
pub record IsChange (old : List ℕ) (c : Change) (new : List ℕ) : Type 0 where
  pub old_range : IsRange old c.start (c.start + c.removed)
  pub new_range : IsRange new c.start (c.start + c.added)
  pub same_before : take c.start new ≡ take c.start old
  pub same_after : drop (c.start + c.added) new ≡ drop (c.start + c.removed) old
  pub grown : length new + c.removed ≡ length old + c.added
