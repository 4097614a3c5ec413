-- The lines of a data file, their fields and their entries.
use Rattle.std.specs.Prelude.{◌≡◌, ◌⊎◌, ℕ, ◌+◌, ◌-◌, Bool, ◌||◌, ◌==◌, List, [], ◌∷◌, map, length, take, drop, filter_map, Option, Some, None, Result, Ok, Err}
use Rattle.std.specs.Prelude.{if◌then◌else◌}
use Rattle.std.specs.List.{slice_split, before_first, prefix_len, suffix_len, list_all}
use Rattle.std.specs.Str.Lines.{lines}
use Rattle.bx_ucd.specs.declared.error.Cause.{Cause}
use Rattle.bx_ucd.specs.declared.error.Cause.TheVariants.{OutOfMemory}
use Rattle.bx_ucd.specs.declared.error.UcdFile.{UcdFile}
use Rattle.bx_ucd.specs.declared.error.UcdError.{UcdError}

-- ---- the parts of a line

-- a space or a tab
abbrev pub is_blank : ℕ → Bool
is_blank b = b == 0x20 || b == 0x09

-- without leading blanks
abbrev pub without_leading_blanks : List ℕ → List ℕ
without_leading_blanks bs = drop (prefix_len is_blank bs) bs

-- without trailing blanks
abbrev pub without_trailing_blanks : List ℕ → List ℕ
without_trailing_blanks bs = take (length bs - suffix_len is_blank bs) bs

-- without blanks at either end
abbrev pub trimmed : List ℕ → List ℕ
trimmed bs = without_trailing_blanks (without_leading_blanks bs)

-- the part before the first `#`, or all
abbrev pub before_comment : List ℕ → List ℕ
before_comment line = before_first (λ b. b == 0x23) line

-- the parts between `;`, each trimmed
abbrev pub fields : List ℕ → List (List ℕ)
fields text = map trimmed (slice_split (λ b. b == 0x3B) text)

-- ---- the entry of a line

-- what a line gives: an entry, no entry, or the cause why it is refused
abbrev pub Line : Type 0 → Type 0
Line A = Result (Option A) Cause

-- the next step applied to the value, or the first refusal
abbrev pub and_then : {A B : Type 0} → Result A Cause → (A → Result B Cause) → Result B Cause
and_then (Ok a) next = next a
and_then (Err cause) next = Err cause

-- a line that is blank before its comment has the entry of its comment; any other line is read by its fields
abbrev pub line_by : {A : Type 0} → (List ℕ → Option A) → (List (List ℕ) → Result A Cause) → List ℕ → Line A
line_by comment entry line =
    if list_all is_blank (before_comment line) then Ok (comment line) else and_then (entry (fields (before_comment line))) (λ a. Ok (Some a))

-- the entry of a comment: none, in all files but the file of classes
abbrev pub plain : {A : Type 0} → List ℕ → Option A
plain line = None

-- the lines of a file
abbrev pub lines_by : {A : Type 0} → (List ℕ → Line A) → List ℕ → List (Line A)
lines_by line bytes = map line (lines bytes)

-- the entry of a line, if it has one
abbrev pub entry : {A : Type 0} → Line A → Option A
entry (Ok said) = said
entry (Err cause) = None

-- the entries, in the order of the lines
abbrev pub entries : {A : Type 0} → List (Line A) → List A
entries ls = filter_map entry ls

-- the first refused line, where the lines are counted from n
abbrev pub refusal_from : {A : Type 0} → UcdFile → ℕ → List (Line A) → Option UcdError
refusal_from file n [] = None
refusal_from file n (Ok said ∷ ls) = refusal_from file (n + 1) ls
refusal_from file n (Err cause ∷ ls) = Some (record { file = file; line = n; cause = cause })

-- the first refused line of a file
abbrev pub first_refusal : {A : Type 0} → UcdFile → List (Line A) → Option UcdError
first_refusal file ls = refusal_from file 1 ls

-- an allocation failed while the file was read; the line is 0
abbrev pub no_memory_in : UcdFile → UcdError
no_memory_in file = record { file = file; line = 0; cause = OutOfMemory }

-- the error is the first refused line of a file, or an allocation that failed while it was read
abbrev pub TellsRefusal : UcdFile → UcdError → Option UcdError → Type 0
TellsRefusal file e refusal = (refusal ≡ Some e) ⊎ (e ≡ no_memory_in file)
