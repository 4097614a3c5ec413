-- The properties of a code by the entries of the files: the last line for the code always decides.
use Rattle.std.specs.Prelude.{ℕ, Bool, ◌==◌, List, reverse, find, filter_map, Option, Some, None, option_map, unwrap_or}
use Rattle.std.specs.Option.{option_or}
use Rattle.bx_ucd.specs.Codes.{covers}
use Rattle.bx_ucd.specs.declared.class.Class.{Class}
use Rattle.bx_ucd.specs.declared.class.Class.TheVariants.{L}
use Rattle.bx_ucd.specs.declared.data.Side.{Side}
use Rattle.bx_ucd.specs.declared.class_file.ClassRange.{ClassRange}
use Rattle.bx_ucd.specs.declared.class_file.ClassEntry.{ClassEntry}
use Rattle.bx_ucd.specs.declared.class_file.ClassEntry.TheVariants.{Given, Default}
use Rattle.bx_ucd.specs.declared.bracket_file.BracketEntry.{BracketEntry}
use Rattle.bx_ucd.specs.declared.mirroring_file.MirrorEntry.{MirrorEntry}

-- the last item that passes the test
abbrev pub find_last : {A : Type 0} → (A → Bool) → List A → Option A
find_last test xs = find test (reverse xs)

-- the range of a data line
abbrev pub given : ClassEntry → Option ClassRange
given (Given r) = Some r
given (Default r) = None

-- the range of a default
abbrev pub default : ClassEntry → Option ClassRange
default (Given r) = None
default (Default r) = Some r

-- the class of the last range that covers the code
abbrev pub class_by_ranges : List ClassRange → ℕ → Option Class
class_by_ranges ranges code = option_map (λ r. r.class) (find_last (λ r. covers r.range code) ranges)

-- the class of the last data line that covers the code, else of the last default (`@missing` line) that does, else L
abbrev pub class_by_lines : List ClassEntry → ℕ → Class
class_by_lines entries code = unwrap_or (option_or (class_by_ranges (filter_map given entries) code) (class_by_ranges (filter_map default entries) code)) L

-- the side of a bracket and its counterpart, by the last line for it
abbrev pub bracket_by_lines : List BracketEntry → ℕ → Option (Side × ℕ)
bracket_by_lines entries code = option_map (λ e. (e.side, e.paired)) (find_last (λ e. e.bracket == code) entries)

-- the mirror of a character, by the last line for it
abbrev pub mirror_by_lines : List MirrorEntry → ℕ → Option ℕ
mirror_by_lines entries code = option_map (λ e. e.mirror) (find_last (λ e. e.character == code) entries)
