-- No line of the class file covers a code past 10FFFF.
use Rattle.std.proofs.Common.{◌≡◌, ◌<◌, ◌≤◌, ℕ, Bool, true, false, List, [], ◌∷◌, Option, Some, None, Result, Ok, Err, refl, sym, ap, ◌∙◌, map, length, arith}
use Rattle.std.proofs.Common.{leb}
use Rattle.std.specs.Prelude.{◌&&◌, ◌==◌, nat_le, if◌then◌else◌, IfSome, IfOk, filter_map, option_map, option_and_then, unwrap_or}
use Rattle.std.specs.List.{cons_option, list_all, slice_split}
use Rattle.std.specs.Char.{is_digit}
use Rattle.std.specs.Str.Parse.{digits_value}
use Rattle.std.specs.Option.{option_or}
use Rattle.std.specs.Result.{result_ok}
use Rattle.std.specs.Str.Lines.{lines}
use Rattle.std.proofs.lemmas.Bool.{leb-true, lt-leb}
use Rattle.bx_ucd.specs.Lines.{Line, is_blank, before_comment, fields, and_then, entry}
use Rattle.bx_ucd.specs.Codes.{code_of, covers, range_of_codes, range_of}
use Rattle.bx_ucd.specs.ClassFile.{class_range, missing, default_of, given_of, class_line}
use Rattle.bx_ucd.specs.Answers.{find_last, given, default, class_by_ranges}
use Rattle.bx_ucd.specs.Reading.{class_in_file}
use Rattle.bx_ucd.specs.declared.error.Cause.{Cause}
use Rattle.bx_ucd.specs.declared.error.Cause.TheVariants.{BadCode, BadRange}
use Rattle.bx_ucd.specs.declared.codes.CodeRange.{CodeRange}
use Rattle.bx_ucd.specs.declared.class.Class.{Class}
use Rattle.bx_ucd.specs.declared.class.Class.TheVariants.{L}
use Rattle.bx_ucd.specs.declared.class_file.ClassRange.{ClassRange}
use Rattle.bx_ucd.specs.declared.class_file.ClassEntry.{ClassEntry}
use Rattle.bx_ucd.specs.declared.class_file.ClassEntry.TheVariants.{Given, Default}
use Rattle.bx_ucd.proofs.AnswerLemmas.{find_last-cons}

abbrev IsBounded : ClassRange → Type 0
IsBounded r = r.range.high ≤ 0x10FFFF

abbrev SaysBounded : ClassEntry → Type 0
SaysBounded (Given r) = IsBounded r
SaysBounded (Default r) = IsBounded r

-- ---- codes and ranges are bounded

ok_then : {A B : Type 0} (Q : A → Type 0) (P : B → Type 0) (r : Result A Cause) (next : A → Result B Cause) → IfOk r Q → ((a : A) → Q a → IfOk (next a) P)
    → IfOk (and_then r next) P
ok_then Q P (Ok a) next first each = each a first
ok_then Q P (Err cause) next first each = tt

code_if : (long digits last : Bool) (value : ℕ) → last ≡ nat_le value 0x10FFFF
    → IfOk (let r : Result ℕ Cause = if long && (digits && last) then Ok value else Err BadCode in r) (λ code. code ≤ 0x10FFFF)
code_if false digits last value is = tt
code_if true false last value is = tt
code_if true true false value is = tt
code_if true true true value is = leb-true value 0x10FFFF (sym is)

code_bounded : (field : List ℕ) → IfOk (code_of field) (λ code. code ≤ 0x10FFFF)
code_bounded field =
    code_if (nat_le 4 (length field) && nat_le (length field) 6) (list_all (λ b. is_digit b 16) field) (nat_le (digits_value 16 field) 0x10FFFF)
    (digits_value 16 field) refl

between_bounded : (low high : ℕ) (down : Bool) → high ≤ 0x10FFFF
    → IfOk (let r : Result CodeRange Cause = if down then Err BadRange else Ok (record { low = low; high = high }) in r) (λ range. range.high ≤ 0x10FFFF)
between_bounded low high true bounded = tt
between_bounded low high false bounded = bounded

range_bounded : (parts : List (List ℕ)) → IfOk (range_of_codes parts) (λ range. range.high ≤ 0x10FFFF)
range_bounded [] = tt
range_bounded (code ∷ []) = ok_then (λ c. c ≤ 0x10FFFF) (λ range. range.high ≤ 0x10FFFF) (code_of code) _ (code_bounded code) (λ c bounded. bounded)
range_bounded (low ∷ [] ∷ []) = tt
range_bounded (low ∷ (b ∷ gap) ∷ rest) = tt
range_bounded (low ∷ [] ∷ high ∷ []) =
    ok_then (λ l. l ≤ 0x10FFFF) (λ range. range.high ≤ 0x10FFFF) (code_of low) _ (code_bounded low)
    (λ l low_bounded. ok_then (λ h. h ≤ 0x10FFFF) (λ range. range.high ≤ 0x10FFFF) (code_of high) _ (code_bounded high)
    (λ h bounded. between_bounded l h _ bounded))
range_bounded (low ∷ [] ∷ high ∷ more ∷ rest) = tt

range_of_bounded : (field : List ℕ) → IfOk (range_of field) (λ range. range.high ≤ 0x10FFFF)
range_of_bounded field = range_bounded (slice_split (λ b. b == 0x2E) field)

named_bounded : (range : CodeRange) (class : Result Class Cause) → range.high ≤ 0x10FFFF
    → IfOk (let r : Result ClassRange Cause = and_then class (λ c. Ok (record { range = range; class = c })) in r) IsBounded
named_bounded range (Ok c) bounded = bounded
named_bounded range (Err cause) bounded = tt

class_range_bounded : (fs : List (List ℕ)) → IfOk (class_range fs) IsBounded
class_range_bounded [] = tt
class_range_bounded (range ∷ []) = tt
class_range_bounded (range ∷ name ∷ []) =
    ok_then (λ r. r.high ≤ 0x10FFFF) IsBounded (range_of range) _ (range_of_bounded range) (λ r bounded. named_bounded r _ bounded)
class_range_bounded (range ∷ name ∷ third ∷ rest) = tt

-- ---- entries are bounded

given_some : (r : Result ClassRange Cause) → IfOk r IsBounded
    → IfSome (entry (and_then (and_then r (λ range. Ok (Given range))) (λ e. Ok (Some e)))) SaysBounded
given_some (Ok range) bounded = bounded
given_some (Err cause) bounded = tt

default_some : (r : Result ClassRange Cause) → IfOk r IsBounded → IfSome (option_map Default (result_ok r)) SaysBounded
default_some (Ok range) bounded = bounded
default_some (Err cause) bounded = tt

default_after : (text : Option (List ℕ)) → IfSome (option_map Default (option_and_then (λ text. result_ok (class_range (fields text))) text)) SaysBounded
default_after None = tt
default_after (Some text) = default_some (class_range (fields text)) (class_range_bounded (fields text))

line_bounded : (line : List ℕ) → IfSome (entry (class_line line)) SaysBounded
line_bounded line = go (list_all is_blank (before_comment line))
  where
    go : (blank : Bool) → IfSome (entry
        (let r : Line ClassEntry = if blank then Ok (default_of line) else and_then (given_of (fields (before_comment line))) (λ e. Ok (Some e)) in r))
        SaysBounded
    go true = default_after (missing line)
    go false = given_some (class_range (fields (before_comment line))) (class_range_bounded (fields (before_comment line)))

-- ---- so nothing covers a code past the last

and_false : (b c : Bool) → c ≡ false → (b && c) ≡ false
and_false true c is = is
and_false false c is = refl

not_covered : (r : ClassRange) (code : ℕ) → IsBounded r → 0x10FFFF < code → covers r.range code ≡ false
not_covered r code bounded past = and_false (leb r.range.low code) (leb code r.range.high) (lt-leb code r.range.high (omega arith))

found_none : (o : Option ClassRange) (rs : List ClassRange) (code : ℕ) → IfSome o IsBounded → 0x10FFFF < code → find_last (λ r. covers r.range code) rs ≡ None
    → find_last (λ r. covers r.range code) (cons_option o rs) ≡ None
found_none None rs code bounded past none = none
found_none (Some r) rs code bounded past none =
    find_last-cons (λ r. covers r.range code) r rs
    ∙ ap (λ o. option_or o (if covers r.range code then Some r else None)) none
    ∙ ap (λ b. if b then Some r else None) (not_covered r code bounded past)

found_none_said : (kind : ClassEntry → Option ClassRange) → ((e : ClassEntry) → SaysBounded e → IfSome (kind e) IsBounded)
    → (o : Option ClassEntry) (es : List ClassEntry) (code : ℕ) → IfSome o SaysBounded → 0x10FFFF < code
    → find_last (λ r. covers r.range code) (filter_map kind es) ≡ None → find_last (λ r. covers r.range code) (filter_map kind (cons_option o es)) ≡ None
found_none_said kind bounds None es code bounded past none = none
found_none_said kind bounds (Some e) es code bounded past none = found_none (kind e) (filter_map kind es) code (bounds e bounded) past none

none_found : (kind : ClassEntry → Option ClassRange) → ((e : ClassEntry) → SaysBounded e → IfSome (kind e) IsBounded) → (ls : List (List ℕ)) (code : ℕ)
    → 0x10FFFF < code
    → find_last (λ r. covers r.range code) (filter_map kind (filter_map entry (map class_line ls))) ≡ None
none_found kind bounds [] code past = refl
none_found kind bounds (l ∷ ls) code past =
    found_none_said kind bounds (entry (class_line l)) (filter_map entry (map class_line ls)) code (line_bounded l) past (none_found kind bounds ls code past)

given_bounds : (e : ClassEntry) → SaysBounded e → IfSome (given e) IsBounded
given_bounds (Given r) bounded = bounded
given_bounds (Default r) bounded = tt

default_bounds : (e : ClassEntry) → SaysBounded e → IfSome (default e) IsBounded
default_bounds (Given r) bounded = tt
default_bounds (Default r) bounded = bounded

-- a code past the last is of class L
pub class_past_last : (bytes : List ℕ) (code : ℕ) → 0x10FFFF < code → class_in_file bytes code ≡ L
class_past_last bytes code past =
    ap (λ o. unwrap_or (option_or (option_map (λ r. r.class) o) (class_by_ranges (filter_map default (filter_map entry (map class_line (lines bytes)))) code))
    L) (none_found given given_bounds (lines bytes) code past)
    ∙ ap (λ o. unwrap_or (option_map (λ r. r.class) o) L) (none_found default default_bounds (lines bytes) code past)
