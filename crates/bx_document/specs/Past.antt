-- The places recorded with the edits of a text's past and future, to which undo and redo lead the cursor.
use Rattle.std.specs.Prelude.{All, Option}
use Rattle.bx_ucd.specs.Data.{Data}
use Rattle.bx_text.specs.Edits.{Edit, Edited, redone, undone}
use Rattle.bx_text.specs.declared.change.Change.{Change}
use Rattle.bx_text.specs.Changes.{next_redo, next_undo}
use Rattle.bx_view.specs.Places.{IsTextPlace}
use Rattle.bx_document.specs.declared.history.HistoryStep.{HistoryStep}
use Rattle.bx_document.specs.declared.history.HistoryStep.TheVariants.{Undo, Redo}

-- the places of the edit `e` are places of the texts before and after it; `ucd` is what the tables say
pub record HasPlaces (ucd : Data) (e : Edit) : Type 0 where
  pub before : IsTextPlace ucd e.before.text e.before.place
  pub after : IsTextPlace ucd e.after.text e.after.place

-- each edit of the past and the future has such places
pub record KeepsPlaces (ucd : Data) (content : Edited) : Type 0 where
  pub past : All (HasPlaces ucd) content.past
  pub future : All (HasPlaces ucd) content.future

-- the text after a step, with its past and future; unchanged if there is nothing to undo or redo
abbrev pub stepped : HistoryStep → Edited → Edited
stepped Undo t = undone t
stepped Redo t = redone t

-- the change that a step makes, if there is one
abbrev pub next_change : HistoryStep → Edited → Option Change
next_change Undo t = next_undo t
next_change Redo t = next_redo t
