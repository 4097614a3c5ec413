-- No control character is a mirror. An entry that each line gives has a property, if it has it by each line.
use Rattle.std.proofs.Common.{◌≡◌, ℕ, Bool, true, false, List, [], ◌∷◌, Option, Some, None, Result, Ok, Err, refl, sym, subst, map}
use Rattle.std.specs.Prelude.{◌||◌, ◌==◌, if◌then◌else◌, IfSome, IfOk, filter_map, option_map}
use Rattle.std.specs.List.{cons_option, list_all}
use Rattle.std.specs.Option.{option_or, ForSome}
use Rattle.std.specs.Str.Lines.{lines}
use Rattle.bx_ucd.specs.Lines.{Line, is_blank, before_comment, fields, and_then, plain, entry, entries}
use Rattle.bx_ucd.specs.Codes.{character_of}
use Rattle.bx_ucd.specs.Control.{is_control}
use Rattle.bx_ucd.specs.MirroringFile.{mirror_entry, mirror_line, mirror_lines}
use Rattle.bx_ucd.specs.Answers.{find_last, mirror_by_lines}
use Rattle.bx_ucd.specs.declared.error.Cause.{Cause}
use Rattle.bx_ucd.specs.declared.error.Cause.TheVariants.{ControlInMirror}
use Rattle.bx_ucd.specs.declared.mirroring_file.MirrorEntry.{MirrorEntry}
use Rattle.bx_ucd.proofs.AnswerLemmas.{find_last-cons}

-- ---- entries of any kind

pub ok_after : {A B : Type 0} (P : B → Type 0) (r : Result A Cause) (next : A → Result B Cause) → ((a : A) → IfOk (next a) P) → IfOk (and_then r next) P
ok_after P (Ok a) next each = each a
ok_after P (Err cause) next each = tt

module _ {E : Type 0} (P : E → Type 0) where
  either : (later : Option E) (b : Bool) (e : E) → IfSome later P → P e → IfSome (option_or later (if b then Some e else None)) P
  either (Some l) b e first second = first
  either None true e first second = second
  either None false e first second = tt

  one_more : (test : E → Bool) (o : Option E) (es : List E) → IfSome o P → IfSome (find_last test es) P → IfSome (find_last test (cons_option o es)) P
  one_more test None es first later = later
  one_more test (Some e) es first later =
      subst (λ o. IfSome o P) (sym (find_last-cons test e es)) (either (find_last test es) (test e) e later first)

  -- the last entry of some lines that passes a test
  pub found : (read : List ℕ → Line E) → ((line : List ℕ) → IfSome (entry (read line)) P) → (test : E → Bool) (ls : List (List ℕ))
      → IfSome (find_last test (filter_map entry (map read ls))) P
  found read each test [] = tt
  found read each test (l ∷ ls) = one_more test (entry (read l)) (filter_map entry (map read ls)) (each l) (found read each test ls)

-- a property of a part of what is found
pub part_if_found : {E : Type 0} (part : E → ℕ) (o : Option E) → IfSome o (λ e. is_control (part e) ≡ false)
    → ForSome (option_map part o) (λ m. is_control m ≡ false)
part_if_found part None h = λ m e. cc
part_if_found part (Some e) h = λ m is. let same : part e ≡ m = cc in rw (← same) h

-- ---- mirrors

abbrev HasNoControl : MirrorEntry → Type 0
HasNoControl e = is_control e.mirror ≡ false

between : (first second : Bool) (e : MirrorEntry) → is_control e.mirror ≡ second
    → IfOk (let r : Result MirrorEntry Cause = if first || second then Err ControlInMirror else Ok e in r) HasNoControl
between true second e is = tt
between false true e is = tt
between false false e is = is

entry_no_control : (fs : List (List ℕ)) → IfOk (mirror_entry fs) HasNoControl
entry_no_control [] = tt
entry_no_control (a ∷ []) = tt
entry_no_control (a ∷ b ∷ []) =
    ok_after HasNoControl (character_of a) _
    (λ c. ok_after HasNoControl (character_of b) _ (λ m. between (is_control c) (is_control m) (record { character = c; mirror = m }) refl))
entry_no_control (a ∷ b ∷ c ∷ fs) = tt

some_of : (r : Result MirrorEntry Cause) → IfOk r HasNoControl → IfSome (entry (and_then r (λ e. Ok (Some e)))) HasNoControl
some_of (Ok e) h = h
some_of (Err cause) h = tt

line_no_control : (line : List ℕ) → IfSome (entry (mirror_line line)) HasNoControl
line_no_control line = go (list_all is_blank (before_comment line))
  where
    go : (b : Bool) → IfSome (entry
        (let r : Line MirrorEntry = if b then Ok (plain line) else and_then (mirror_entry (fields (before_comment line))) (λ e. Ok (Some e)) in r)) HasNoControl
    go true = tt
    go false = some_of (mirror_entry (fields (before_comment line))) (entry_no_control (fields (before_comment line)))

pub no_mirror_is_control : (bytes : List ℕ) (code : ℕ) → ForSome (mirror_by_lines (entries (mirror_lines bytes)) code) (λ m. is_control m ≡ false)
no_mirror_is_control bytes code =
    part_if_found (λ e. e.mirror) _ (found HasNoControl mirror_line line_no_control (λ e. e.character == code) (lines bytes))
