-- The status row: whether there are unsaved changes, the cursor's position, a message, and the prompt of a search or of a
-- question with what is typed there; at its end the file's name and the direction of the cursor's paragraph. `d` is Unicode's data, `e` the editor.
use Rattle.std.specs.Prelude.{ℕ, ◌+◌, nat_le, Bool, List, [], ◌++◌, Option, Some, None, codes, decimal, if◌then◌else◌, ◌==◌, length, chars}
use Rattle.std.specs.Prelude.{◌≡◌, option_map, slice_range}
use Rattle.bx_common.specs.declared.base.Base.TheVariants.{Auto, Ltr, Rtl}
use Rattle.bx_keys.specs.declared.notice.Notice as told
use Rattle.bx_keys.specs.declared.notice.Notice.TheVariants as notices
use Rattle.bx_store.specs.declared.cause.SaveCause.{SaveCause}
use Rattle.bx_store.specs.declared.cause.SaveCause.TheVariants.{Changed, Exists}
use Rattle.bx_store.specs.Faults.{cause_text}
pub use Rattle.bx_view.specs.Numbers.{paragraph_number, unit_number}
use Rattle.bx_view.specs.Moves.{step_logical}
use Rattle.bx_view.specs.declared.moves.Logical.TheVariants.{Forward}
use Rattle.bx_grid.specs.Columns.{Col}
use Rattle.bx_rows.specs.RowPicture.{Glyph}
pub use Rattle.bx_rows.specs.RowPicture.{letter_glyphs}
pub use Rattle.bx_document.specs.Drawing.{glyph_row}
use Rattle.bx_document.specs.InputLine.{column_shown, glyphs_or, input_line, line_glyphs}
pub use Rattle.bx_document.specs.StatusRow.{name_glyphs, with_some_end}
use Rattle.bx_paragraph.specs.Slots.{reads_on}
use Rattle.bx_paragraph.specs.declared.moves.Visual.TheVariants.{Left}
use Rattle.bx_view.specs.TextRows.{row_at, row_of}
use Rattle.bx_editor.specs.InputLines.{input_line_of}
use Rattle.bx_document.specs.PlaceLevel.{place_level}
use Rattle.bx_editor.specs.declared.search_state.SearchPurpose.{SearchPurpose}
use Rattle.bx_editor.specs.declared.search_state.SearchPurpose.TheVariants.{Find, Replace}
use Rattle.bx_editor.specs.declared.message.Message.{Message}
use Rattle.bx_editor.specs.declared.message.Message.TheVariants.{Saved, SaveFailed, TextFull, NothingToUndo, NothingToRedo, Unsaved, Direction, MarkSet, MarkOff}
use Rattle.bx_editor.specs.declared.message.Message.TheVariants.{Copied, LineCopied, Cut, NothingToCopy, NothingToPut, ViewOnly, FromStart, FromEnd, NotFound, NoLetter, Help}
use Rattle.bx_editor.specs.declared.message.Message.TheVariants.{MoreHelp, MoreThanOneLine, NoSuchCharacter, Pasting, Replaced, Told, TooLongForClipboard, Notice}
use Rattle.bx_editor.specs.declared.search_state.SearchState.{SearchState}
use Rattle.bx_editor.specs.declared.search_state.SearchState.TheVariants.{Off, Begun, Typed, WithBegun, WithTyped, Replacing}
use Rattle.bx_ucd.specs.Data.{Data}
use Rattle.bx_editor.specs.declared.questions.answers.Prompt.{Prompt}
use Rattle.bx_editor.specs.declared.questions.answers.Prompt.TheVariants as prompts
use Rattle.bx_editor.specs.questions.Told.{told_text}
use Rattle.bx_editor.specs.Editor.{Editor, rows}

-- the characters of the unit at the place with their classes, and its level; the text's end is told in words
abbrev pub told_at_place : Data → Editor → List ℕ
told_at_place d e =
    if e.place == length e.content.text
    then codes "end of text"
    else
    told_text d (chars (slice_range e.content.text e.place (step_logical (rows d e) Forward e.place))) (place_level d e.base e.content.text e.place)

-- a failed save: the message has a colon and the cause, if the store tells one; the two causes after which the user decides have words
-- of their own
abbrev pub failed_text : Option SaveCause → List ℕ
failed_text None = codes "save failed"
failed_text (Some Changed) = codes "file changed on disk"
failed_text (Some Exists) = codes "not saved, file exists: ^O again"
failed_text (Some cause) = codes "save failed: " ++ cause_text cause

-- the words of a notice of the host
abbrev pub notice_text : told.Notice → List ℕ
notice_text notices.NoSpace = codes "no crash copy: no space"
notice_text notices.FolderGone = codes "no crash copy: folder gone"
notice_text notices.NotPermitted = codes "no crash copy: not permitted"
notice_text notices.ReadOnly = codes "no crash copy: read-only disk"
notice_text notices.Unkept = codes "no crash copy"
notice_text notices.KeptAgain = codes "crash copy again"
notice_text notices.Recovered = codes "recovered"
notice_text notices.RecoveredAside = codes "recovered to a new file, named on exit"
notice_text notices.InPlace = codes "saves overwrite it in place"

-- the words of a message; what is before or in place of them is in `shown_text`
abbrev pub message_text : Message → List ℕ
message_text Saved = codes "saved"
message_text (SaveFailed cause) = failed_text cause
message_text TextFull = codes "text full"
message_text NothingToUndo = codes "nothing to undo"
message_text NothingToRedo = codes "nothing to redo"
message_text Unsaved = codes "unsaved: ^Q again"
message_text (Direction Auto) = codes "direction auto"
message_text (Direction Ltr) = codes "direction ltr"
message_text (Direction Rtl) = codes "direction rtl"
message_text MarkSet = codes "mark set"
message_text MarkOff = codes "mark cleared"
message_text Copied = codes "copied"
message_text LineCopied = codes "line copied"
message_text Cut = []
message_text NothingToCopy = codes "nothing to copy"
message_text NothingToPut = codes "nothing to paste"
message_text ViewOnly = codes "view only"
message_text FromStart = codes "from the start"
message_text FromEnd = codes "from the end"
message_text NotFound = codes "not found"
message_text NoLetter = codes "no letter to find"
message_text Help = codes "^S save ^Q quit ^Z undo ^F find ^X cut ^C copy ^V paste F2 ltr/rtl"
message_text MoreHelp = codes "F4 replace ^G line ^K insert ^T info ^Y redo ^B back ^A all ^O save as"
message_text MoreThanOneLine = codes "more than one line"
message_text NoSuchCharacter = codes "no such character"
message_text Pasting = codes "pasting"
message_text TooLongForClipboard = codes "too long for the clipboard"
message_text (Replaced n) = codes " replaced"
message_text (Notice notice) = notice_text notice
message_text Told = []

-- a message as it is shown: `told` is what stands at the cursor's place, and the number of replaced matches stands before the words
abbrev pub shown_text : List ℕ → Message → List ℕ
shown_text told Told = told
shown_text told (Replaced n) = decimal n ++ message_text (Replaced n)
shown_text told message = message_text message

-- the message after a blank, if there is one; that text was cut is not told
abbrev pub message_part : List ℕ → Option Message → List ℕ
message_part told None = []
message_part told (Some Cut) = []
message_part told (Some message) = codes " " ++ shown_text told message

-- a star if there are unsaved changes, and the numbers of a paragraph and of a unit in it, both from 1
abbrev pub status_line : Bool → ℕ → ℕ → List ℕ
status_line changed paragraph unit =
    (if changed then codes "* " else codes "- ") ++ (decimal paragraph ++ (codes ":" ++ decimal unit))

-- an editor's status line, with the numbers of the cursor's place, and its message
abbrev pub status_text : Data → Editor → List ℕ
status_text d e =
    status_line e.changed (paragraph_number d e.content.text e.place + 1) (unit_number d e.content.text e.place)
    ++ message_part (told_at_place d e) e.message

-- ---- the words of a prompt

-- the prompt of a search: before the query, before the replacement, or for the match that is shown
abbrev pub query_prompt : SearchPurpose → List ℕ
query_prompt Find = codes " find: "
query_prompt Replace = codes " replace: "

abbrev pub search_prompt : SearchPurpose → SearchState → List ℕ
search_prompt purpose Off = []
search_prompt purpose Begun = query_prompt purpose
search_prompt purpose Typed = query_prompt purpose
search_prompt purpose WithBegun = codes " with: "
search_prompt purpose WithTyped = codes " with: "
search_prompt purpose Replacing = codes " Enter replace F3 next F4 rest ^C end"

-- the prompt of a question
abbrev pub prompt_text : Prompt → List ℕ
prompt_text prompts.Off = []
prompt_text prompts.Line = codes " line: "
prompt_text prompts.Name = codes " insert: i I f isolate P end l r a mark n j joiner e E o O p u code"
prompt_text prompts.Code = codes " insert: U+"
prompt_text prompts.File = codes " save as: "
prompt_text prompts.Overwrite = codes " overwrite it? y or n"

-- the prompt of a question, or without one that of a search
abbrev pub prompt_words : Editor → Prompt → List ℕ
prompt_words e prompts.Off = search_prompt e.purpose e.search_state
prompt_words e prompt = prompt_text prompt

-- the words of the row: what is told, and the prompt
abbrev pub row_text : Data → Editor → List ℕ
row_text d e = status_text d e ++ prompt_words e e.prompt

-- ---- the input line behind them, and the row's end

-- the glyphs of an input line behind a text, if there is one
abbrev pub typed_glyphs : Data → Editor → List ℕ → Option (List ℕ) → List Glyph
typed_glyphs d e text None = []
typed_glyphs d e text (Some line) = glyphs_or (line_glyphs d line) (input_line d e.width (length text) line e.input_cursor)

-- the column of the cursor in an input line behind a text, if there is one and it has room
abbrev pub typed_column : Data → Editor → List ℕ → Option (List ℕ) → Option ℕ
typed_column d e text None = None
typed_column d e text (Some line) = column_shown (input_line d e.width (length text) line e.input_cursor)

-- a text, and behind it the input line
abbrev pub left_side : Data → Editor → List ℕ → List Glyph
left_side d e text = letter_glyphs text ++ typed_glyphs d e text (input_line_of e)

-- the place's paragraph is read from right to left
abbrev pub is_rtl : Data → Editor → Bool
is_rtl d e = reads_on Left (row_at (rows d e) (row_of (rows d e) e.place)).row

-- what stands at the row's end, in a session with a name: the name's glyphs, and a direction
abbrev pub name_end : Data → Bool → Option (List ℕ) → Option (List Glyph × Bool)
name_end d rtl None = None
name_end d rtl (Some name) = Some (name_glyphs d name, rtl)

-- glyphs of a name, if they were drawn, are the name's
abbrev pub IsDrawn : Data → Option (List ℕ) → Option (List Glyph) → Type 0
IsDrawn d name None = Unit {0}
IsDrawn d name (Some glyphs) = option_map (name_glyphs d) name ≡ Some glyphs

-- the glyphs of a status row from left to right
abbrev pub row_glyphs : Data → Editor → List ℕ → Bool → List Glyph
row_glyphs d e text rtl = with_some_end e.width (left_side d e text) (name_end d rtl e.name)

-- the glyphs of an editor's status row
abbrev pub status_glyphs : Data → Editor → List Glyph
status_glyphs d e = row_glyphs d e (row_text d e) (is_rtl d e)

-- the columns of the status row, which only a window of at least two rows has
abbrev pub status_columns : Data → Editor → List Col
status_columns d e = if nat_le 2 e.height then glyph_row e.width (status_glyphs d e) else []

-- the column of the cursor in the status row, if it is there
abbrev pub input_column : Data → Editor → Option ℕ
input_column d e = if nat_le 2 e.height then typed_column d e (row_text d e) (input_line_of e) else None
