-- DerivedBidiClass.txt, the file of classes: what its lines say, and which are refused.
use Rattle.std.specs.Prelude.{ℕ, ◌||◌, List, [], ◌∷◌, length, drop, find, codes, bytes_eq, nat_eq, if◌then◌else◌, Option, Some, None, option_map}
use Rattle.std.specs.Prelude.{option_and_then, ok_or, Result, Ok, Err}
use Rattle.std.specs.List.{starts_with}
use Rattle.std.specs.Option.{option_or}
use Rattle.std.specs.Result.{result_ok}
use Rattle.bx_ucd.specs.Lines.{Line, without_leading_blanks, fields, and_then, line_by, lines_by}
use Rattle.bx_ucd.specs.Codes.{range_of}
use Rattle.bx_ucd.specs.declared.error.Cause.{Cause}
use Rattle.bx_ucd.specs.declared.error.Cause.TheVariants.{BadLine, UnknownValue}
use Rattle.bx_ucd.specs.declared.class.Class.{Class}
use Rattle.bx_ucd.specs.declared.class.Class.TheVariants.{L, R, AL, EN, ES, ET, AN, CS, NSM, BN, B, S, WS, ON, LRE, LRO, RLE, RLO, PDF, LRI, RLI, FSI, PDI}
use Rattle.bx_ucd.specs.declared.class_file.ClassRange.{ClassRange}
use Rattle.bx_ucd.specs.declared.class_file.ClassEntry.{ClassEntry}
use Rattle.bx_ucd.specs.declared.class_file.ClassEntry.TheVariants.{Given, Default}

-- the short and the long name of a class, and the class
abbrev pub Named : Type 0
Named = List ℕ × List ℕ × Class

-- the class with exactly this short or long name
abbrev pub class_among : List Named → List ℕ → Option Class
class_among names name = option_map (λ n. n.2) (find (λ n. bytes_eq name n.0 || bytes_eq name n.1) names)

-- the strong classes
abbrev pub strong_names : List Named
strong_names =
    (codes "L", codes "Left_To_Right", L)
    ∷ (codes "R", codes "Right_To_Left", R)
    ∷ (codes "AL", codes "Arabic_Letter", AL)
    ∷ []

-- the weak classes
abbrev pub weak_names : List Named
weak_names =
    (codes "EN", codes "European_Number", EN)
    ∷ (codes "ES", codes "European_Separator", ES)
    ∷ (codes "ET", codes "European_Terminator", ET)
    ∷ (codes "AN", codes "Arabic_Number", AN)
    ∷ (codes "CS", codes "Common_Separator", CS)
    ∷ (codes "NSM", codes "Nonspacing_Mark", NSM)
    ∷ (codes "BN", codes "Boundary_Neutral", BN)
    ∷ []

-- the neutral classes
abbrev pub neutral_names : List Named
neutral_names =
    (codes "B", codes "Paragraph_Separator", B)
    ∷ (codes "S", codes "Segment_Separator", S)
    ∷ (codes "WS", codes "White_Space", WS)
    ∷ (codes "ON", codes "Other_Neutral", ON)
    ∷ []

-- the explicit formatting classes
abbrev pub formatting_names : List Named
formatting_names =
    (codes "LRE", codes "Left_To_Right_Embedding", LRE)
    ∷ (codes "LRO", codes "Left_To_Right_Override", LRO)
    ∷ (codes "RLE", codes "Right_To_Left_Embedding", RLE)
    ∷ (codes "RLO", codes "Right_To_Left_Override", RLO)
    ∷ (codes "PDF", codes "Pop_Directional_Format", PDF)
    ∷ (codes "LRI", codes "Left_To_Right_Isolate", LRI)
    ∷ (codes "RLI", codes "Right_To_Left_Isolate", RLI)
    ∷ (codes "FSI", codes "First_Strong_Isolate", FSI)
    ∷ (codes "PDI", codes "Pop_Directional_Isolate", PDI)
    ∷ []

-- the class of a name
abbrev pub class_named : List ℕ → Option Class
class_named name =
    option_or (option_or (option_or (class_among strong_names name) (class_among weak_names name)) (class_among neutral_names name))
    (class_among formatting_names name)

-- two fields: a range and a class
abbrev pub class_range : List (List ℕ) → Result ClassRange Cause
class_range (range ∷ name ∷ []) = and_then (range_of range) (λ r. and_then (ok_or (class_named name) UnknownValue) (λ c. Ok (record { range = r; class = c })))
class_range _ = Err BadLine

-- the bytes after a prefix, if they begin with it
abbrev pub after_prefix : List ℕ → List ℕ → Option (List ℕ)
after_prefix prefix bs = if starts_with nat_eq bs prefix then Some (drop (length prefix) bs) else None

-- the rest of a line after `#` and `@missing:`, each with any blanks before it
abbrev pub missing : List ℕ → Option (List ℕ)
missing line = option_and_then (λ comment. after_prefix (codes "@missing:") (without_leading_blanks comment))
    (after_prefix (codes "#") (without_leading_blanks line))

-- the default that a comment gives, if two well-formed fields follow
abbrev pub default_of : List ℕ → Option ClassEntry
default_of line = option_map Default (option_and_then (λ text. result_ok (class_range (fields text))) (missing line))

-- a data line
abbrev pub given_of : List (List ℕ) → Result ClassEntry Cause
given_of fs = and_then (class_range fs) (λ r. Ok (Given r))

-- the entry of a line
abbrev pub class_line : List ℕ → Line ClassEntry
class_line line = line_by default_of given_of line

-- the lines of the file
abbrev pub class_lines : List ℕ → List (Line ClassEntry)
class_lines bytes = lines_by class_line bytes
