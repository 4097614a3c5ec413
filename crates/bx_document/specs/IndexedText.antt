-- The text of a document, without its view.
use Rattle.bx_text.specs.Edits.{Edited}

-- the value of an `IndexedText` (`src/indexed_text.rt`): Unicode's tables, which tell separators, and the text with its past and future
pub record IndexedTextState (D : Type 0) : Type 0 where
  pub tables : D
  pub content : Edited
