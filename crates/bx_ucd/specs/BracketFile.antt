-- BidiBrackets.txt, the file of paired brackets: what its lines say, and which are refused.
use Rattle.std.specs.Prelude.{ℕ, List, [], ◌∷◌, codes, bytes_eq, if◌then◌else◌, Result, Ok, Err}
use Rattle.bx_ucd.specs.Lines.{Line, and_then, plain, line_by, lines_by}
use Rattle.bx_ucd.specs.Codes.{character_of}
use Rattle.bx_ucd.specs.declared.error.Cause.{Cause}
use Rattle.bx_ucd.specs.declared.error.Cause.TheVariants.{BadLine, UnknownValue}
use Rattle.bx_ucd.specs.declared.data.Side.{Side}
use Rattle.bx_ucd.specs.declared.data.Side.TheVariants.{Opener, Closer}
use Rattle.bx_ucd.specs.declared.bracket_file.BracketEntry.{BracketEntry}

-- the side named `o`, an opener, or `c`, a closer
abbrev pub side_of : List ℕ → Result Side Cause
side_of name = if bytes_eq name (codes "o") then Ok Opener else if bytes_eq name (codes "c") then Ok Closer else Err UnknownValue

-- three fields: the bracket, its counterpart, the side
abbrev pub bracket_entry : List (List ℕ) → Result BracketEntry Cause
bracket_entry (bracket ∷ paired ∷ side ∷ []) =
    and_then (character_of bracket)
    (λ b. and_then (character_of paired) (λ p. and_then (side_of side) (λ s. Ok (record { bracket = b; paired = p; side = s }))))
bracket_entry _ = Err BadLine

-- the entry of a line
abbrev pub bracket_line : List ℕ → Line BracketEntry
bracket_line line = line_by plain bracket_entry line

-- the lines of the file
abbrev pub bracket_lines : List ℕ → List (Line BracketEntry)
bracket_lines bytes = lines_by bracket_line bytes
