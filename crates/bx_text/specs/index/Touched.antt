-- The paragraphs of the old text that a change touches, between which the index scans the new text. `ucd` is Unicode's data.
use Rattle.std.specs.Prelude.{◌≡◌, ℕ, ◌+◌, ◌-◌, List, [], ◌∷◌, ◌++◌, IsUtf8}
use Rattle.bx_ucd.specs.Data.{Data}
use Rattle.bx_text.specs.declared.change.Change.{Change}
use Rattle.bx_text.specs.Changes.{IsChange}
use Rattle.bx_text.specs.declared.index.lengths.Lengths.{Lengths}
use Rattle.bx_text.specs.declared.index.paragraph_span.ParagraphSpan.{ParagraphSpan}
use Rattle.bx_text.specs.index.Paragraphs.{lengths}
use Rattle.bx_text.specs.index.Flat.{IsSpanAround}

-- The paragraphs of the old text are `front`, each of which ends with a separator, and then `behind`. The byte before the
-- change is in the paragraph `first`, and the text after the change begins in the paragraph `last`.
pub record IsTouched (ucd : Data) (old : List ℕ) (change : Change) (new : List ℕ) (front : List Lengths) (behind : Lengths)
    (first last : ParagraphSpan) : Type 0 where
  pub old_utf8 : IsUtf8 old
  pub new_utf8 : IsUtf8 new
  pub is_change : IsChange old change new
  pub were : front ++ behind ∷ [] ≡ lengths ucd old
  pub first_is : IsSpanAround front (change.start - 1) first
  pub last_is : IsSpanAround front (change.start + change.removed) last
