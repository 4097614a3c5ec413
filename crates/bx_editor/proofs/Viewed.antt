-- The value of an editor's fields, and what holds of them, also once the document is another.
use Rattle.std.specs.Prelude.{◌≡◌, ◌≤◌, true, IfSome, List, Option, chars, length}
use Rattle.bx_common.specs.Characters.{is_side}
use Rattle.bx_ucd.specs.declared.data.BidiData.{Ghosts}
use Rattle.bx_document.specs.Document.{DocumentState}
use Rattle.bx_view.specs.Places.{IsTextPlace}
use Rattle.bx_rows.specs.RowPicture.{Glyph}
use Rattle.bx_editor.specs.Answers.{IsAnswer}
use Rattle.bx_editor.specs.Clicks.{IsPressed}
use Rattle.bx_editor.specs.InputLines.{StandsInLine}
use Rattle.bx_editor.specs.Status.{IsDrawn}
use Rattle.bx_editor.specs.Origin.{BeganAt, StandsAt}
use Rattle.bx_editor.specs.Functions.{EditorState}
use Rattle.bx_editor.specs.declared.editor.Editor.TheInside.{Inside}
use Rattle.bx_editor.specs.declared.editor.Editor.TheView.{view, invariant}

module _ {D : Type 0} (g : Ghosts D) (i : Inside D) where
  abbrev pub value : EditorState D
  value = view D g i

  abbrev pub value_with : DocumentState D → EditorState D
  value_with t = view D g (record i { document = t })

  abbrev pub holds_with : DocumentState D → Type 0
  holds_with t = invariant D g (record i { document = t })

-- what holds of the fields, by their value and the name's glyphs
abbrev pub holds_of : {D : Type 0} → Ghosts D → Option (List Glyph) → EditorState D → Type 0
holds_of g drawn s =
    let d = g.data s.tables in
    let e = s.editor in
    IsTextPlace d e.content.text e.place × (is_side e.height ≡ true) × IfSome e.mark (IsTextPlace d e.content.text)
    × IfSome e.pressed (IsPressed d e.content.text) × (length (chars e.query) ≤ 64) × (length (chars e.replacement) ≤ 64) × IsAnswer e.prompt e.answer
    × StandsInLine d e.prompt e.search_state e.query e.replacement e.answer e.input_cursor × IsDrawn d e.name drawn
    × BeganAt d e.content.text e.search_state e.origin × StandsAt d e.purpose e.query e.content.text e.search_state e.at e.count
