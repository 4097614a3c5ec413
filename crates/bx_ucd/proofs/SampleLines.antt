-- The lines of the sample file of classes give every code the class that the small tables give.
use Rattle.std.proofs.Common.{◌≡◌, ℕ, Bool, true, false, List, [], ◌∷◌, ◌++◌, map, None, refl, ap, ◌∙◌, sym, arith}
use Rattle.std.specs.Prelude.{◌&&◌, ◌||◌, nat_lt, filter_map, option_map, unwrap_or, if◌then◌else◌}
use Rattle.std.specs.List.{list_all}
use Rattle.bx_ucd.specs.Codes.{covers}
use Rattle.bx_ucd.specs.Lines.{entries}
use Rattle.bx_ucd.specs.ClassFile.{class_lines}
use Rattle.bx_ucd.specs.Answers.{find_last, given, default, class_by_ranges}
use Rattle.bx_ucd.specs.Reading.{class_in_file}
use Rattle.bx_ucd.specs.SmallTables.{class, look_up, rows}
use Rattle.bx_ucd.specs.declared.class.Class.{Class}
use Rattle.bx_ucd.specs.declared.class.Class.TheVariants.{L, R}
use Rattle.bx_ucd.specs.declared.codes.CodeRange.{CodeRange}
use Rattle.bx_ucd.specs.declared.class_file.ClassRange.{ClassRange}
use Rattle.bx_ucd.specs.declared.sample.TheConstants.{CLASSES}
use Rattle.bx_ucd.proofs.AnswerLemmas.{find_last-cons, class_by_ranges-cons, data_over_defaults}

-- ---- ranges with no code in common

-- one ends before the other begins
abbrev is_apart : CodeRange → CodeRange → Bool
is_apart r s = nat_lt r.high s.low || nat_lt s.high r.low

abbrev are_apart : List ClassRange → Bool
are_apart [] = true
are_apart (r ∷ rs) = list_all (λ s. is_apart r.range s.range) rs && are_apart rs

only_one : (r s : CodeRange) (code : ℕ) → is_apart r s ≡ true → covers r code ≡ true → covers s code ≡ false
only_one r s code apart covered = grind arith

-- where a range covers the code, none that is apart from it does
no_other : (r : ClassRange) (rs : List ClassRange) (code : ℕ) → list_all (λ s. is_apart r.range s.range) rs ≡ true → covers r.range code ≡ true
    → find_last (λ s. covers s.range code) rs ≡ None
no_other r [] code apart covered = refl
no_other r (s ∷ rs) code apart covered =
    let here : covers s.range code ≡ false = only_one r.range s.range code (grind arith) covered in
    let later : find_last (λ s. covers s.range code) rs ≡ None = no_other r rs code (grind arith) covered in
    find_last-cons (λ s. covers s.range code) s rs ∙ rw (here, later) refl

-- a range as the small tables write it
abbrev row : ClassRange → ℕ × ℕ × Class
row r = (r.range.low, r.range.high, r.class)

-- ranges that are apart answer the same from the first as from the last
in_either_order : (rs : List ClassRange) (rest : List (ℕ × ℕ × Class)) (code : ℕ) → are_apart rs ≡ true
    → look_up (map row rs ++ rest) code ≡ unwrap_or (class_by_ranges rs code) (look_up rest code)
in_either_order [] rest code apart = refl
in_either_order (r ∷ rs) rest code apart =
    go (covers r.range code) (in_either_order rs rest code (grind arith)) refl ∙ sym (class_by_ranges-cons r rs code (look_up rest code))
  where
    go : (b : Bool) → look_up (map row rs ++ rest) code ≡ unwrap_or (class_by_ranges rs code) (look_up rest code) → covers r.range code ≡ b
        → elim b [ true ↦ r.class | false ↦ look_up (map row rs ++ rest) code ]
        ≡ unwrap_or (class_by_ranges rs code) (if b then r.class else look_up rest code)
    go true later covered = sym (ap (λ o. unwrap_or (option_map (λ r. r.class) o) r.class) (no_other r rs code (grind arith) covered))
    go false later other = later

-- ---- the small files

abbrev data_lines : List ClassRange
data_lines = filter_map given (entries (class_lines CLASSES.now))

abbrev default_lines : List ClassRange
default_lines = filter_map default (entries (class_lines CLASSES.now))

-- the rows of the small tables after the data lines
abbrev default_rows : List (ℕ × ℕ × Class)
default_rows = (0x590, 0x5ff, R) ∷ []

small_rows : rows ≡ map row data_lines ++ default_rows
small_rows = refl

data_lines_apart : are_apart data_lines ≡ true
data_lines_apart = refl

abbrev hebrew : ClassRange
hebrew = record { range = record { low = 0x590; high = 0x5ff }; class = R }

abbrev all : ClassRange
all = record { range = record { low = 0; high = 0x10FFFF }; class = L }

two_defaults : (is_hebrew is_any : Bool) → elim is_hebrew [ true ↦ R | false ↦ L ] ≡ (if is_hebrew then R else (if is_any then L else L))
two_defaults true is_any = refl
two_defaults false true = refl
two_defaults false false = refl

default_agrees : (code : ℕ) → look_up default_rows code ≡ unwrap_or (class_by_ranges default_lines code) L
default_agrees code =
    two_defaults (covers hebrew.range code) (covers all.range code)
    ∙ sym (class_by_ranges-cons all (hebrew ∷ []) code L ∙ class_by_ranges-cons hebrew [] code (if covers all.range code then L else L))

-- the data lines are tried from the last, and then the defaults
pub classes_agree : (code : ℕ) → class code ≡ class_in_file CLASSES.now code
classes_agree code =
    ap (λ rs. look_up rs code) small_rows
    ∙ in_either_order data_lines default_rows code data_lines_apart
    ∙ ap (unwrap_or (class_by_ranges data_lines code)) (default_agrees code)
    ∙ data_over_defaults (class_by_ranges data_lines code) (class_by_ranges default_lines code) L
