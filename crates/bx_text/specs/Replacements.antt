-- Edits as the code is told of them (`Replacement`), and the changes that they make.
use Rattle.std.specs.Prelude.{ℕ, ◌+◌, ◌-◌, List, length}
use Rattle.bx_text.specs.declared.change.Change.{Change}
use Rattle.bx_text.specs.declared.pairs.Replacement.{Replacement}
use Rattle.bx_text.specs.Edits.{Edited, replaced, splice}

-- a text after the edit `r`, with its past
abbrev pub made : Edited → Replacement → Edited
made t r = replaced t r.start (r.start + r.len) r.text.now r.before r.after

-- a text's bytes after the edit `r`
abbrev pub text_after : List ℕ → Replacement → List ℕ
text_after text r = splice text r.start (r.start + r.len) r.text.now

-- the change that the edit `r` makes
abbrev pub change_made : Replacement → Change
change_made r = record { start = r.start; removed = r.len; added = length r.text.now; place = r.after }

-- the removal of the bytes from start to stop, and the insertion of `added` bytes at an offset, as changes
abbrev pub change_removed : ℕ → ℕ → ℕ → Change
change_removed start stop place = record { start = start; removed = stop - start; added = 0; place = place }

abbrev pub change_inserted : ℕ → ℕ → ℕ → Change
change_inserted at added place = record { start = at; removed = 0; added = added; place = place }
