-- UnicodeData.txt, the file of characters, from which only the forms of letters are read (its fields are those of UAX #44).
use Rattle.std.specs.Prelude.{ℕ, ◌==◌, ◌||◌, nat_lt, List, [], ◌∷◌, length, filter, slice_index_or, codes, bytes_eq, if◌then◌else◌, Option, Some, None, Ok, Err}
use Rattle.std.specs.List.{slice_split, list_all}
use Rattle.bx_ucd.specs.Lines.{Line, is_blank, before_comment, fields, and_then, lines_by}
use Rattle.bx_ucd.specs.Codes.{character_of}
use Rattle.bx_ucd.specs.Control.{is_control}
use Rattle.bx_ucd.specs.declared.error.Cause.TheVariants.{BadLine, ControlInMirror}
use Rattle.bx_ucd.specs.declared.joining.Form.{Form}
use Rattle.bx_ucd.specs.declared.joining.Form.TheVariants.{Isolated, Initial, Medial, Final}
use Rattle.bx_ucd.specs.declared.characters_file.FormEntry.{FormEntry}

-- the parts between `;`
abbrev pub semicolon_parts : List ℕ → List (List ℕ)
semicolon_parts text = slice_split (λ b. b == 0x3B) text

-- the words of a text: its parts between blanks that are not empty
abbrev pub words : List ℕ → List (List ℕ)
words text = filter (λ word. nat_lt 0 (length word)) (slice_split is_blank text)

-- the form that a tag names
abbrev pub form_tagged : List ℕ → Option Form
form_tagged tag = if bytes_eq tag (codes "<isolated>") then Some Isolated else
    (if bytes_eq tag (codes "<initial>") then Some Initial else
    (if bytes_eq tag (codes "<medial>") then Some Medial else (if bytes_eq tag (codes "<final>") then Some Final else None)))

-- the entry of a letter and of the character `shown`, which is this form of it; neither may be a control
abbrev pub form_between : Form → ℕ → ℕ → Line FormEntry
form_between form shown letter = if is_control shown || is_control letter then Err ControlInMirror else Ok
    (Some (record { letter = letter; form = form; shown = shown }))

-- that entry, from the fields with the codes of the character and of the letter; without a form there is none
abbrev pub form_entry : Option Form → List ℕ → List ℕ → Line FormEntry
form_entry None character letter = Ok None
form_entry (Some form) character letter = and_then (character_of character) (λ s. and_then (character_of letter) (λ l. form_between form s l))

-- the words of a decomposition: a tag and a letter give a form, any others give none
abbrev pub decomposition_entry : List ℕ → List (List ℕ) → Line FormEntry
decomposition_entry character (tag ∷ letter ∷ []) = form_entry (form_tagged tag) character letter
decomposition_entry character _ = Ok None

-- fifteen fields, of which the first is the character and the sixth its decomposition
abbrev pub character_entry : List (List ℕ) → Line FormEntry
character_entry fs = if length fs == 15 then decomposition_entry (slice_index_or fs 0 []) (words (slice_index_or fs 5 [])) else Err BadLine

-- the entry of a line; a line that is blank before its comment has none
abbrev pub character_line : List ℕ → Line FormEntry
character_line line = if list_all is_blank (before_comment line) then Ok None else character_entry (fields (before_comment line))

-- the lines of the file
abbrev pub character_lines : List ℕ → List (Line FormEntry)
character_lines bytes = lines_by character_line bytes
