-- BidiMirroring.txt, the file of mirrored characters: what its lines say, and which are refused.
use Rattle.std.specs.Prelude.{ℕ, ◌||◌, List, [], ◌∷◌, if◌then◌else◌, Result, Ok, Err}
use Rattle.bx_ucd.specs.Lines.{Line, and_then, plain, line_by, lines_by}
use Rattle.bx_ucd.specs.Codes.{character_of}
use Rattle.bx_ucd.specs.Control.{is_control}
use Rattle.bx_ucd.specs.declared.error.Cause.{Cause}
use Rattle.bx_ucd.specs.declared.error.Cause.TheVariants.{BadLine, ControlInMirror}
use Rattle.bx_ucd.specs.declared.mirroring_file.MirrorEntry.{MirrorEntry}

-- a character and its mirror, neither of which may be a control
abbrev pub mirror_between : ℕ → ℕ → Result MirrorEntry Cause
mirror_between character mirror = if is_control character || is_control mirror then Err ControlInMirror else Ok
    (record { character = character; mirror = mirror })

-- two fields: the character and its mirror
abbrev pub mirror_entry : List (List ℕ) → Result MirrorEntry Cause
mirror_entry (character ∷ mirror ∷ []) = and_then (character_of character) (λ c. and_then (character_of mirror) (λ m. mirror_between c m))
mirror_entry _ = Err BadLine

-- the entry of a line
abbrev pub mirror_line : List ℕ → Line MirrorEntry
mirror_line line = line_by plain mirror_entry line

-- the lines of the file
abbrev pub mirror_lines : List ℕ → List (Line MirrorEntry)
mirror_lines bytes = lines_by mirror_line bytes
