-- The effects of reading on the columns of a terminal `t`: each glyph that it puts, and each erasure. `bx_paint` says by them
-- what a painting sends. A position `p` is a row and a column, from 0.
use Rattle.std.specs.Prelude.{ℕ, ◌+◌, ◌*◌, Bool, true, false, ◌&&◌, nat_le, ◌==◌, List, [], ◌∷◌, ◌++◌, length, Option, Some, None, if◌then◌else◌}
use Rattle.bx_grid.specs.Columns.{Col, Unknown, Glyph, run_columns}
use Rattle.bx_grid.specs.Tokens.{fate, escape_command}
use Rattle.bx_grid.specs.Terminal.{Terminal, all_unknown, byte_read}
use Rattle.bx_bytes.specs.Utf8.{are_printable}
use Rattle.bx_bytes.specs.declared.fate.Fate.{Fate}
use Rattle.bx_bytes.specs.declared.fate.Fate.TheVariants.{Waits, Ends, Breaks}
use Rattle.bx_grid.specs.declared.command.Command.{Command}
use Rattle.bx_grid.specs.declared.command.Command.TheVariants.{Move, Clear, Erase, Render, Clip, Other}

-- what reading makes of the columns; indices count them row by row, from 0
pub data Effect : Type 0 where
  -- a glyph, from an index on
  Puts : (index : ℕ) (text : List ℕ) (negative : Bool) → Effect
  -- from an index to the row's end
  Erases : (index : ℕ) → Effect
  -- all columns become blanks
  Clears : Effect
  -- all columns become unknown
  Forgets : Effect

-- the glyphs of columns, the first of them at an index
abbrev pub glyphs_at : ℕ → List Col → List Effect
glyphs_at index [] = []
glyphs_at index (Unknown ∷ cs) = glyphs_at (index + 1) cs
glyphs_at index (Glyph text columns offset negative ∷ cs) =
    if offset == 0 then Puts index text negative ∷ glyphs_at (index + 1) cs else glyphs_at (index + 1) cs

-- glyphs with the columns `new`, put from a position on; where they do not fit in the row, all is unknown
abbrev pub put_effects : Terminal → ℕ × ℕ → List Col → List Effect
put_effects t p new =
    if nat_le 1 (length new) && nat_le (p.1 + length new) t.width then glyphs_at (p.0 * t.width + p.1) new else Forgets ∷ []

-- a run put at a position, in a rendition
abbrev pub run_effects : Terminal → Option (ℕ × ℕ) → Option Bool → List ℕ → List Effect
run_effects t position negative [] = []
run_effects t (Some p) (Some negative) (b ∷ bs) = put_effects t p (run_columns negative (b ∷ bs))
run_effects t (Some p) None (b ∷ bs) = Forgets ∷ []
run_effects t None negative (b ∷ bs) = Forgets ∷ []

-- the effects of the run that is not shown yet
abbrev pub pending_effects : Terminal → List Effect
pending_effects t = run_effects t t.position t.negative t.run

-- an erasure from this position to the row's end, in this rendition; like each command it forgets all where the terminal's state
-- becomes unknown (`Terminal.antt`)
abbrev pub erase_effects : Terminal → Option (ℕ × ℕ) → Option Bool → List Effect
erase_effects t (Some p) (Some false) = Erases (p.0 * t.width + p.1) ∷ []
erase_effects t (Some p) (Some true) = Forgets ∷ []
erase_effects t (Some p) None = Forgets ∷ []
erase_effects t None negative = Forgets ∷ []

-- an erasure of the screen, in this rendition
abbrev pub clear_effects : Option Bool → List Effect
clear_effects (Some false) = Clears ∷ []
clear_effects (Some true) = Forgets ∷ []
clear_effects None = Forgets ∷ []

-- a move to a line and a column, counted from 1: only one out of the window has an effect
abbrev pub move_effects : Terminal → ℕ → ℕ → List Effect
move_effects t line column =
    if nat_le 1 line && nat_le line t.height && nat_le 1 column && nat_le column t.width then [] else Forgets ∷ []

-- the effects of a command
abbrev pub command_effects : Terminal → Command → List Effect
command_effects t (Move line column) = move_effects t line column
command_effects t Clear = clear_effects t.negative
command_effects t Erase = erase_effects t t.position t.negative
command_effects t (Render negative) = []
command_effects t Clip = []
command_effects t Other = Forgets ∷ []

-- a whole character, sequence or string: a printable character only extends the run
abbrev pub token_effects : Terminal → List ℕ → List Effect
token_effects t [] = []
token_effects t (b ∷ rest) =
    if b == 0x1B then command_effects t (escape_command rest)
    else if are_printable (b ∷ rest) then [] else Forgets ∷ []

-- a byte other than ESC where no token is half read, by the fate of the byte alone
abbrev pub first_byte_effects_as : Terminal → ℕ → Fate → List Effect
first_byte_effects_as t b Waits = []
first_byte_effects_as t b Ends = token_effects t (b ∷ [])
first_byte_effects_as t b Breaks = Forgets ∷ []

-- a byte where no token is half read; an ESC (0x1B) ends a run
abbrev pub first_byte_effects : Terminal → ℕ → List Effect
first_byte_effects t b = if b == 0x1B then pending_effects t else first_byte_effects_as t b (fate (b ∷ []))

-- a byte after a half-read token, by the fate of the token with it
abbrev pub next_byte_effects : Terminal → ℕ → Fate → List Effect
next_byte_effects t b Waits = []
next_byte_effects t b Ends = token_effects t (t.half_read ++ b ∷ [])
next_byte_effects t b Breaks = Forgets ∷ first_byte_effects (all_unknown t) b

-- a byte after these half-read bytes
abbrev pub effects_after : Terminal → ℕ → List ℕ → List Effect
effects_after t b [] = first_byte_effects t b
effects_after t b (h ∷ half_read) = next_byte_effects t b (fate (h ∷ half_read ++ b ∷ []))

-- a token takes effect at its end
abbrev pub byte_effects : Terminal → ℕ → List Effect
byte_effects t b = effects_after t b t.half_read

-- all effects of reading these bytes
abbrev pub effects : Terminal → List ℕ → List Effect
effects t [] = []
effects t (b ∷ bs) = byte_effects t b ++ effects (byte_read t b) bs
