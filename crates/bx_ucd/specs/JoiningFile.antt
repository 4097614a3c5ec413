-- ArabicShaping.txt, the file of joining types: what its lines say, and which are refused.
use Rattle.std.specs.Prelude.{ℕ, List, [], ◌∷◌, codes, bytes_eq, if◌then◌else◌, Result, Ok, Err}
use Rattle.bx_ucd.specs.Lines.{Line, and_then, plain, line_by, lines_by}
use Rattle.bx_ucd.specs.Codes.{character_of}
use Rattle.bx_ucd.specs.declared.error.Cause.{Cause}
use Rattle.bx_ucd.specs.declared.error.Cause.TheVariants.{BadLine, UnknownValue}
use Rattle.bx_ucd.specs.declared.joining.Joining.{Joining}
use Rattle.bx_ucd.specs.declared.joining.Joining.TheVariants.{R, L, D, C, U, T}
use Rattle.bx_ucd.specs.declared.joining_file.JoiningEntry.{JoiningEntry}

-- the joining type with the short name `R`, `L`, `D`, `C`, `U` or `T`
abbrev pub joining_named : List ℕ → Result Joining Cause
joining_named name = if bytes_eq name (codes "R") then Ok R else
    (if bytes_eq name (codes "L") then Ok L else
    (if bytes_eq name (codes "D") then Ok D else
    (if bytes_eq name (codes "C") then Ok C else
    (if bytes_eq name (codes "U") then Ok U else (if bytes_eq name (codes "T") then Ok T else Err UnknownValue)))))

-- four fields: the character, its name, its joining type, its joining group
abbrev pub joining_entry : List (List ℕ) → Result JoiningEntry Cause
joining_entry (character ∷ name ∷ joining ∷ group ∷ []) =
    and_then (character_of character) (λ c. and_then (joining_named joining) (λ j. Ok (record { character = c; joining = j })))
joining_entry _ = Err BadLine

-- the entry of a line
abbrev pub joining_line : List ℕ → Line JoiningEntry
joining_line line = line_by plain joining_entry line

-- the lines of the file
abbrev pub joining_lines : List ℕ → List (Line JoiningEntry)
joining_lines bytes = lines_by joining_line bytes
