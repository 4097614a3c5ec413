-- The status row: its characters, and its place in a grid.
use Rattle.std.proofs.Common.{◌≡◌, ℕ, ◌+◌, ◌*◌, ◌%◌, ◌^◌, ◌<◌, ◌≤◌, Bool, true, nat_le, ◌&&◌, false, List, [], ◌∷◌, ◌++◌, length, take}
use Rattle.std.proofs.Common.{decimal, Option, Some, None, refl, ap, ap₂, sym, ◌∙◌, arith}
use Rattle.std.specs.Prelude.{codes, if◌then◌else◌, option_map}
use Rattle.std.proofs.lemmas.Bool.Decides.{nat_tests}
use Rattle.std.proofs.lemmas.Fmt.{decimal_by_steps}
use Rattle.std.proofs.lemmas.List.{append-nil, drop_all}
use Rattle.std.proofs.lemmas.List.Folds.{list_all-append}
use Rattle.bx_common.specs.Characters.{are_ascii_printable, is_ascii_printable}
use Rattle.bx_common.specs.declared.base.Base.TheVariants.{Auto, Ltr, Rtl}
use Rattle.bx_keys.specs.declared.notice.Notice as told
use Rattle.bx_keys.specs.declared.notice.Notice.TheVariants as notices
use Rattle.bx_store.specs.declared.cause.SaveCause.{SaveCause}
use Rattle.bx_store.specs.declared.cause.SaveCause.TheVariants as causes
use Rattle.bx_ucd.specs.Data.{Data}
use Rattle.bx_grid.specs.Columns.{Col}
use Rattle.bx_grid.specs.Grid.{GridState}
use Rattle.bx_rows.specs.RowPicture.{Glyph}
use Rattle.bx_editor.specs.declared.questions.answers.Prompt.{Prompt}
use Rattle.bx_editor.specs.declared.questions.answers.Prompt.TheVariants as prompts
use Rattle.bx_document.specs.InputLine.{column_shown, glyphs_or, input_line, line_glyphs}
use Rattle.bx_document.specs.Shown.{with_rows}
use Rattle.bx_editor.specs.declared.message.Message.{Message}
use Rattle.bx_editor.specs.declared.message.Message.TheVariants.{Saved, SaveFailed, TextFull, NothingToUndo, NothingToRedo, Unsaved, Direction, MarkSet, MarkOff}
use Rattle.bx_editor.specs.declared.message.Message.TheVariants.{Copied, LineCopied, Cut, NothingToCopy, NothingToPut, ViewOnly, FromStart, FromEnd, NotFound, NoLetter, Help}
use Rattle.bx_editor.specs.declared.message.Message.TheVariants.{MoreHelp, MoreThanOneLine, NoSuchCharacter, Pasting, Replaced, Told, TooLongForClipboard, Notice}
use Rattle.bx_editor.specs.Editor.{Editor}
use Rattle.bx_editor.specs.InputLines.{input_line_of}
use Rattle.bx_editor.specs.Status.{IsDrawn, failed_text, left_side, letter_glyphs, message_text, name_end, name_glyphs, notice_text, prompt_text, shown_text, status_line}
use Rattle.bx_editor.specs.Status.{typed_column, typed_glyphs}

-- ---- all its characters are from SPACE to TILDE

pub printable-append : (xs ys : List ℕ) → are_ascii_printable xs ≡ true → are_ascii_printable ys ≡ true → are_ascii_printable (xs ++ ys) ≡ true
printable-append xs ys h k = list_all-append is_ascii_printable xs ys ∙ ap₂ (λ a b. a && b) h k

digit : (n : ℕ) → n < 10 → are_ascii_printable ((48 + n) ∷ []) ≡ true
digit n h =
    let low : nat_le 0x20 (48 + n) ≡ true = grind (arith, nat_tests) in
    let high : nat_le (48 + n) 0x7E ≡ true = grind (arith, nat_tests) in
    ap₂ (λ a b. (a && b) && true) low high

decimal-printable : (n : ℕ) → n < 2 ^ 64 → are_ascii_printable (decimal n) ≡ true
decimal-printable n h = decimal_by_steps (λ _ ds. are_ascii_printable ds ≡ true) (λ k low. digit k low)
    (λ k ds ten p. printable-append ds ((48 + k % 10) ∷ []) p (digit (k % 10) (omega arith))) n h

failed-printable : (cause : Option SaveCause) → are_ascii_printable (failed_text cause) ≡ true
failed-printable None = refl
failed-printable (Some causes.NoSpace) = refl
failed-printable (Some causes.NotPermitted) = refl
failed-printable (Some causes.FolderGone) = refl
failed-printable (Some causes.ReadOnly) = refl
failed-printable (Some causes.TooLarge) = refl
failed-printable (Some causes.OutOfMemory) = refl
failed-printable (Some causes.Changed) = refl
failed-printable (Some causes.NotPlain) = refl
failed-printable (Some causes.CutOff) = refl
failed-printable (Some causes.Exists) = refl
failed-printable (Some causes.Other) = refl

notice-printable : (notice : told.Notice) → are_ascii_printable (notice_text notice) ≡ true
notice-printable notices.NoSpace = refl
notice-printable notices.FolderGone = refl
notice-printable notices.NotPermitted = refl
notice-printable notices.ReadOnly = refl
notice-printable notices.Unkept = refl
notice-printable notices.KeptAgain = refl
notice-printable notices.Recovered = refl
notice-printable notices.RecoveredAside = refl
notice-printable notices.InPlace = refl

pub message-printable : (m : Message) → are_ascii_printable (message_text m) ≡ true
message-printable Saved = refl
message-printable (SaveFailed cause) = failed-printable cause
message-printable TextFull = refl
message-printable NothingToUndo = refl
message-printable NothingToRedo = refl
message-printable Unsaved = refl
message-printable (Direction Auto) = refl
message-printable (Direction Ltr) = refl
message-printable (Direction Rtl) = refl
message-printable MarkSet = refl
message-printable MarkOff = refl
message-printable Copied = refl
message-printable LineCopied = refl
message-printable Cut = refl
message-printable NothingToCopy = refl
message-printable NothingToPut = refl
message-printable ViewOnly = refl
message-printable FromStart = refl
message-printable FromEnd = refl
message-printable NotFound = refl
message-printable NoLetter = refl
message-printable Help = refl
message-printable MoreHelp = refl
message-printable MoreThanOneLine = refl
message-printable NoSuchCharacter = refl
message-printable Pasting = refl
message-printable TooLongForClipboard = refl
message-printable (Replaced n) = refl
message-printable Told = refl
message-printable (Notice notice) = notice-printable notice

pub replaced-printable : (told : List ℕ) (n : ℕ) → n < 2 ^ 64 → are_ascii_printable (shown_text told (Replaced n)) ≡ true
replaced-printable told n h = printable-append (decimal n) (codes " replaced") (decimal-printable n h) refl

mark-printable : (changed : Bool) → are_ascii_printable (if changed then codes "* " else codes "- ") ≡ true
mark-printable true = refl
mark-printable false = refl

pub status-printable : (changed : Bool) (paragraph unit : ℕ) → paragraph < 2 ^ 64 → unit < 2 ^ 64
    → are_ascii_printable (status_line changed paragraph unit) ≡ true
status-printable changed paragraph unit h k =
    let behind = codes ":" ++ decimal unit in
    printable-append (if changed then codes "* " else codes "- ") (decimal paragraph ++ behind) (mark-printable changed)
    (printable-append (decimal paragraph) behind (decimal-printable paragraph h)
    (printable-append (codes ":") (decimal unit) refl (decimal-printable unit k)))

pub status-some : (changed : Bool) (paragraph unit : ℕ) (more : List ℕ) → 1 ≤ length (status_line changed paragraph unit ++ more)
status-some true paragraph unit more = omega arith
status-some false paragraph unit more = omega arith

-- ---- a prompt behind it

pub prompt-printable : (prompt : Prompt) → are_ascii_printable (prompt_text prompt) ≡ true
prompt-printable prompts.Off = refl
prompt-printable prompts.Line = refl
prompt-printable prompts.Name = refl
prompt-printable prompts.Code = refl
prompt-printable prompts.File = refl
prompt-printable prompts.Overwrite = refl

-- ---- the row's end

-- what stands there, by the name's glyphs
pub end-is : (d : Data) (rtl : Bool) (name : Option (List ℕ)) (drawn : Option (List Glyph)) → drawn ≡ option_map (name_glyphs d) name
    → option_map (λ glyphs. (glyphs, rtl)) drawn ≡ name_end d rtl name
end-is d rtl None drawn is = ap (option_map (λ glyphs. (glyphs, rtl))) is
end-is d rtl (Some name) drawn is = ap (option_map (λ glyphs. (glyphs, rtl))) is

-- the glyphs that were drawn are the name's
pub drawn-is : (d : Data) (name : Option (List ℕ)) (drawn : Option (List Glyph)) → drawn ≡ option_map (name_glyphs d) name → IsDrawn d name drawn
drawn-is d name None is = tt
drawn-is d name (Some glyphs) is = sym is

-- ---- the left side, by the input line that the prompt shows

module _ (d : Data) (e : Editor) (text : List ℕ) where
  pub left-alone : None ≡ input_line_of e → letter_glyphs text ≡ left_side d e text
  left-alone none = sym (append-nil (letter_glyphs text)) ∙ ap (λ o. letter_glyphs text ++ typed_glyphs d e text o) none

  pub left-with : (line : List ℕ) → Some line ≡ input_line_of e
      → letter_glyphs text ++ glyphs_or (line_glyphs d line) (input_line d e.width (length text) line e.input_cursor) ≡ left_side d e text
  left-with line is = ap (λ o. letter_glyphs text ++ typed_glyphs d e text o) is

  pub column-alone : None ≡ input_line_of e → None ≡ typed_column d e text (input_line_of e)
  column-alone none = ap (typed_column d e text) none

  pub column-with : (line : List ℕ) → Some line ≡ input_line_of e
      → column_shown (input_line d e.width (length text) line e.input_cursor) ≡ typed_column d e text (input_line_of e)
  column-with line is = ap (typed_column d e text) is

-- ---- the columns in a grid

-- a last row of columns is put
pub last-row : (g : GridState) (row : ℕ) (columns : List Col) → length g.columns ≡ g.height * g.width → g.height ≡ row + 1 → length columns ≡ g.width
    → with_rows g row columns ≡ record g { columns = take (row * g.width) g.columns ++ columns }
last-row g row columns size e wide =
    let one : (row + 1) * g.width ≡ row * g.width + g.width = omega arith in
    let all : length g.columns ≤ row * g.width + length columns = omega (arith, size, ap (λ h. h * g.width) e, one, wide) in
    ap (λ cs. record g { columns = cs })
    (ap (λ cs. (take (row * g.width) g.columns ++ columns) ++ cs) (drop_all (row * g.width + length columns) g.columns all)
    ∙ append-nil (take (row * g.width) g.columns ++ columns))
