-- An edit of a paragraph's body, which puts a text in the place of the bytes `start..stop`, and its result.
use Rattle.std.specs.Prelude.{◌≤◌, ℕ, List}
use Rattle.std.specs.List.{splice}
use Rattle.std.specs.Str.{IsCharBoundary}
use Rattle.bx_paragraph.specs.declared.body_edit.BodyEdit.{BodyEdit}

-- the edited body
abbrev pub changed : BodyEdit → List ℕ
changed e = splice e.body.now e.start e.stop e.inserted.now

-- an edit whose ends are character boundaries
pub record IsEdit (e : BodyEdit) : Type 0 where
  pub start : IsCharBoundary e.body.now e.start
  pub stop : IsCharBoundary e.body.now e.stop
  pub order : e.start ≤ e.stop
