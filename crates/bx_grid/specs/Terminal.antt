-- The terminal `t`: its state, the state after a token, and the state after reading bytes. A position `p` is a row and a column,
-- from 0.
use Rattle.std.specs.Prelude.{ℕ, ◌+◌, ◌-◌, ◌*◌, Bool, true, false, ◌&&◌, nat_le, nat_lt, ◌==◌, List, [], ◌∷◌, ◌++◌, length, replicate, Option, Some, None}
use Rattle.std.specs.Prelude.{if◌then◌else◌}
use Rattle.bx_bytes.specs.Utf8.{are_printable}
use Rattle.bx_bytes.specs.declared.fate.Fate.{Fate}
use Rattle.bx_bytes.specs.declared.fate.Fate.TheVariants.{Waits, Ends, Breaks}
use Rattle.bx_grid.specs.Columns.{Col, Unknown, blank, put, run_columns}
use Rattle.bx_grid.specs.declared.command.Command.{Command}
use Rattle.bx_grid.specs.declared.command.Command.TheVariants.{Move, Clear, Erase, Render, Clip, Other}
use Rattle.bx_grid.specs.Tokens.{fate, escape_command}

-- the state of a terminal, as far as it is known
pub record Terminal : Type 0 where
  -- the number of rows
  pub height : ℕ
  -- the number of columns in a row
  pub width : ℕ
  -- row by row
  pub columns : List Col
  -- the row and the column, from 0, or unknown
  pub position : Option (ℕ × ℕ)
  -- whether the rendition is negative, or unknown
  pub negative : Option Bool
  -- the characters of a printable run that later characters may extend
  pub run : List ℕ
  -- the bytes of a character, a sequence or a string that is half read
  pub half_read : List ℕ

-- a terminal of this size, in rows and columns, with unknown content
abbrev pub unknown_terminal : ℕ → ℕ → Terminal
unknown_terminal height width = record {
  height = height;
  width = width;
  columns = replicate (height * width) Unknown;
  position = None;
  negative = None;
  run = [];
  half_read = [];
}

-- nothing is known of the terminal, and nothing is half read
abbrev pub all_unknown : Terminal → Terminal
all_unknown t = unknown_terminal t.height t.width

-- ---- sequences and strings: where the model does not say what a terminal does, all becomes unknown

-- CSI H: to a line and a column, counted from 1
abbrev pub after_move : Terminal → ℕ → ℕ → Terminal
after_move t line column =
    if nat_le 1 line && nat_le line t.height && nat_le 1 column && nat_le column t.width
    then record t { position = Some (line - 1, column - 1) }
    else all_unknown t

-- CSI 2 J, in a known normal rendition
abbrev pub after_clear : Terminal → Option Bool → Terminal
after_clear t (Some false) = record t { columns = replicate (t.height * t.width) blank; position = None }
after_clear t _ = all_unknown t

-- CSI K, at a known position in a known normal rendition: from the cursor to the row's end
abbrev pub after_erase : Terminal → Option (ℕ × ℕ) → Option Bool → Terminal
after_erase t (Some p) (Some false) = record t { columns = put t.width t.columns p.0 p.1 (replicate (t.width - p.1) blank); position = None }
after_erase t _ _ = all_unknown t

-- CSI m: from now on in this rendition
abbrev pub after_rendition : Terminal → Bool → Terminal
after_rendition t negative = record t { negative = Some negative }

-- after any command; a clip changes nothing that is seen
abbrev pub after_command : Terminal → Command → Terminal
after_command t (Move line column) = after_move t line column
after_command t Clear = after_clear t t.negative
after_command t Erase = after_erase t t.position t.negative
after_command t (Render negative) = after_rendition t negative
after_command t Clip = t
after_command t Other = all_unknown t

-- ---- printable runs

-- the position at a column of a row of this width; past the row's end it is unknown
abbrev pub within : ℕ → ℕ → ℕ → Option (ℕ × ℕ)
within width row column = if nat_lt column width then Some (row, column) else None

-- the terminal with glyphs, of the columns `new`, put from a position on; where they do not fit in the row, all is unknown
abbrev pub glyphs_put : Terminal → ℕ × ℕ → List Col → Terminal
glyphs_put t p new =
    if nat_le 1 (length new) && nat_le (p.1 + length new) t.width
    then record t { columns = put t.width t.columns p.0 p.1 new; position = within t.width p.0 (p.1 + length new); run = [] }
    else all_unknown t

-- a run put at a position in a rendition, if both are known
abbrev pub run_put : Terminal → Option (ℕ × ℕ) → Option Bool → List ℕ → Terminal
run_put t position negative [] = t
run_put t (Some p) (Some negative) (b ∷ bs) = glyphs_put t p (run_columns negative (b ∷ bs))
run_put t _ _ (b ∷ bs) = all_unknown t

-- the run's glyphs are put, if it is not empty
abbrev pub run_ended : Terminal → Terminal
run_ended t = run_put t t.position t.negative t.run

-- ---- reading

-- a printable character extends the run; any other makes the terminal's state unknown
abbrev pub character_read : Terminal → List ℕ → Terminal
character_read t bs = if are_printable bs then record t { run = t.run ++ bs; half_read = [] } else all_unknown t

-- a whole character, a whole sequence or a whole string
abbrev pub token_read : Terminal → List ℕ → Terminal
token_read t [] = t
token_read t (b ∷ rest) = if b == 0x1B then after_command (record t { half_read = [] }) (escape_command rest) else character_read t (b ∷ rest)

-- a byte other than ESC where no token is half read, by the fate of the byte alone
abbrev pub after_first_byte_as : Terminal → ℕ → Fate → Terminal
after_first_byte_as t b Waits = record t { half_read = b ∷ [] }
after_first_byte_as t b Ends = token_read t (b ∷ [])
after_first_byte_as t b Breaks = all_unknown t

-- a byte where no token is half read; an escape ends a run
abbrev pub after_first_byte : Terminal → ℕ → Terminal
after_first_byte t b = if b == 0x1B then record (run_ended t) { half_read = b ∷ [] } else after_first_byte_as t b (fate (b ∷ []))

-- a byte after a half-read token, by the fate of the token with it; if it breaks the token, the state becomes unknown, and the
-- byte is read as a first one
abbrev pub after_next_byte : Terminal → ℕ → Fate → Terminal
after_next_byte t b Waits = record t { half_read = t.half_read ++ b ∷ [] }
after_next_byte t b Ends = token_read t (t.half_read ++ b ∷ [])
after_next_byte t b Breaks = after_first_byte (all_unknown t) b

-- a byte after these half-read bytes
abbrev pub read_after : Terminal → ℕ → List ℕ → Terminal
read_after t b [] = after_first_byte t b
read_after t b (h ∷ half_read) = after_next_byte t b (fate (h ∷ half_read ++ b ∷ []))

-- the terminal after one more byte
abbrev pub byte_read : Terminal → ℕ → Terminal
byte_read t b = read_after t b t.half_read

-- all bytes are read, in order
abbrev pub reads : Terminal → List ℕ → Terminal
reads t [] = t
reads t (b ∷ bs) = reads (byte_read t b) bs

-- a window of another size, whose content is unknown; half-read bytes stay
abbrev pub after_resize : Terminal → ℕ → ℕ → Terminal
after_resize t height width = record (unknown_terminal height width) { run = t.run; half_read = t.half_read }
