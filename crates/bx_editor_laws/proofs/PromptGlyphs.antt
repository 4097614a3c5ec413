-- All glyphs of a prompt, and of what is typed behind its words, are shown in their columns.
use Rattle.std.proofs.Common.{◌≡◌, ◌+◌, ◌-◌, ◌∷◌, ◌++◌}
use Rattle.std.proofs.Common.{ℕ, Bool, true, false, nat_le, nat_lt, List, [], Option, Some, None, All, IsUtf8, IfSome, refl, arith, if◌then◌else◌}
use Rattle.std.proofs.lemmas.List.Elements.{All-append, All-nil, All-rest, All-weaker}
use Rattle.bx_common.specs.Characters.{are_ascii_printable}
use Rattle.bx_common.specs.declared.base.Base.TheVariants.{Auto}
use Rattle.bx_document.specs.InputLine.{ShownLine, glyphs_or, input_line, line_cell, line_glyphs, line_rows, shown_line, shown_with}
use Rattle.bx_rows.proofs.FaceGlyphs.{IsOneGlyph, letters-all-one}
use Rattle.bx_rows.proofs.PictureLaws.{own-one}
use Rattle.bx_rows.specs.RowPicture.{Glyph, letter_glyphs}
use Rattle.bx_ucd.specs.Data.{Data}
use Rattle.bx_view.proofs.GlyphCells.{HasFaces, rows-faced}
use Rattle.bx_view.specs.TextRows.{TextRow, row_at}
use Rattle.bx_editor.specs.declared.questions.answers.Prompt.{Prompt}
use Rattle.bx_editor.specs.declared.questions.answers.Prompt.TheVariants.{Off, Line, Name, Code, File, Overwrite}
use Rattle.bx_editor.specs.Editor.{Editor}
use Rattle.bx_editor.specs.Status.{prompt_text, typed_glyphs}
use Rattle.bx_editor_laws.specs.AskingLaws.{IsShown}

-- ---- the glyphs of an input line

shown-one : (gs : List Glyph) → All IsOneGlyph gs → All IsShown gs
shown-one gs all = All-weaker IsOneGlyph IsShown (λ g one. record { one = one.0; columns = one.1 }) gs all

first-faced : (d : Data) (rows : List TextRow) → All (λ r. HasFaces d 500 r.row) rows → HasFaces d 500 (row_at rows 0).row
first-faced d [] faces = All-nil _
first-faced d (r ∷ rs) faces = faces 0 r (omega arith)

line-shown : (d : Data) (line : List ℕ) → IsUtf8 line → All IsShown (line_glyphs d line)
line-shown d line utf8 =
    let rows = line_rows d line in
    let r = (row_at rows 0).row in
    shown-one (line_glyphs d line) (own-one d 500 r.body r.each r.units r.levels (first-faced d rows (rows-faced d Auto 500 line utf8)))

-- ---- the part that has room

module _ (all : List Glyph) (shown : All IsShown all) where
  abbrev Part : Option ShownLine → Type 0
  Part part = All IsShown (glyphs_or all part)

  either : (b : Bool) (p q : Option ShownLine) → Part p → Part q → Part (if b then p else q)
  either true p q h k = h
  either false p q h k = k

  part-shown : (w before : ℕ) (gs : List Glyph) (cell : ℕ) → All IsShown gs → Part (shown_line w before gs cell)
  part-shown w before [] cell h =
      either (nat_le (before + cell) w) (Some (record { glyphs = []; column = before + cell })) None (All-nil IsShown) shown
  part-shown w before (g ∷ gs) cell h =
      let fewer = shown_line w before gs (cell - g.columns) in
      let whole : Option ShownLine = Some (record { glyphs = g ∷ gs; column = before + cell }) in
      either (nat_le (before + cell) w) whole (if nat_lt g.columns cell then fewer else None) h
      (either (nat_lt g.columns cell) fewer None (part-shown w before gs (cell - g.columns) (All-rest IsShown g gs (g ∷ gs) refl h)) shown)

  with-cell : (w before : ℕ) (cell : Option ℕ) → Part (shown_with w before all cell)
  with-cell w before None = shown
  with-cell w before (Some cell) = part-shown w before all cell shown

typed-shown : (d : Data) (e : Editor) (before : ℕ) (line : List ℕ) → IsUtf8 line
    → All IsShown (glyphs_or (line_glyphs d line) (input_line d e.width before line e.input_cursor))
typed-shown d e before line utf8 = with-cell (line_glyphs d line) (line-shown d line utf8) e.width before (line_cell d line e.input_cursor)

-- ---- a prompt

words-printable : (prompt : Prompt) → are_ascii_printable (prompt_text prompt) ≡ true
words-printable Off = refl
words-printable Line = refl
words-printable Name = refl
words-printable Code = refl
words-printable File = refl
words-printable Overwrite = refl

behind-words : (d : Data) (e : Editor) (text : List ℕ) (line : Option (List ℕ)) → IfSome line IsUtf8 → All IsShown (typed_glyphs d e text line)
behind-words d e text None utf8 = All-nil IsShown
behind-words d e text (Some line) utf8 = typed-shown d e _ line utf8

pub prompt-shown : (d : Data) (e : Editor) (prompt : Prompt) (text : List ℕ) (line : Option (List ℕ)) → IfSome line IsUtf8
    → All IsShown (letter_glyphs (prompt_text prompt) ++ typed_glyphs d e text line)
prompt-shown d e prompt text line utf8 =
    let words = letter_glyphs (prompt_text prompt) in
    All-append IsShown words (typed_glyphs d e text line) (shown-one words (letters-all-one (prompt_text prompt) (words-printable prompt)))
    (behind-words d e text line utf8)
