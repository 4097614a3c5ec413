-- A key that is refused while a paste is under way: the document is a copy of what it was, and all else is as it was.
use Rattle.std.proofs.Common.{◌≡◌, ℕ, List, ap, ◌∙◌}
use Rattle.std.specs.Prelude.{Option}
use Rattle.bx_text.specs.Edits.{Edited}
use Rattle.bx_ucd.specs.declared.data.BidiData.{Ghosts}
use Rattle.bx_document.specs.Document.{DocumentState}
use Rattle.bx_editor.specs.Editor.{Editor}
use Rattle.bx_editor.specs.Functions.{EditorState, as_before}
use Rattle.bx_editor.specs.declared.editor.Editor.TheInside.{Inside}
use Rattle.bx_editor.proofs.Pasted.{back-again}
use Rattle.bx_editor.proofs.Viewed.{value}

-- `i` is the editor before the key, and `j` the one that the key left
module _ {D : Type 0} (g : Ghosts D) (i j : Inside D) where
  abbrev was : EditorState D
  was = value g i

  abbrev now : EditorState D
  now = value g j

  -- with this document, and all else as before
  abbrev pub with_document : DocumentState D → EditorState D
  with_document t = record {
    tables = t.tables;
    editor = record (as_before was.editor now.editor) { content = t.document.content; base = t.document.base; width = t.document.w };
  }

  pub all-restored : (t : DocumentState D) (text : Edited) (called : Option (List ℕ)) (left : EditorState D)
      → t ≡ record j.document { document = record j.document.document { content = text } } → text ≡ i.document.document.content → now ≡ left
      → as_before (record was.editor { pasted = called }) left.editor ≡ record was.editor { pasted = called } → left.tables ≡ i.document.tables
      → with_document t ≡ was
  all-restored t text called left restored copied view back tables =
      let e : Editor = was.editor in
      let editor : as_before e now.editor ≡ e =
      back-again e now.editor called (ap (λ (s : EditorState D). as_before (record e { pasted = called }) s.editor) view ∙ back) in
      ap with_document restored
      ∙ ap (λ x. (let s : EditorState D = record { tables = now.tables; editor = record (as_before e now.editor) { content = x } } in s)) copied
      ∙ ap (λ (x : Editor). (let s : EditorState D = record { tables = now.tables; editor = x } in s)) editor
      ∙ ap (λ t. (let s : EditorState D = record { tables = t; editor = e } in s)) (ap (λ (s : EditorState D). s.tables) view ∙ tables)
