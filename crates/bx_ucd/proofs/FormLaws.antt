-- No control character is a form.
use Rattle.std.proofs.Common.{◌≡◌, ◌==◌, ℕ, Bool, true, false, List, [], ◌∷◌, length, Option, Some, None, Ok, Err, refl}
use Rattle.std.specs.Prelude.{◌||◌, if◌then◌else◌, IfSome, IfOk, slice_index_or}
use Rattle.std.specs.List.{list_all}
use Rattle.std.specs.Option.{ForSome}
use Rattle.std.specs.Str.Lines.{lines}
use Rattle.bx_ucd.specs.Lines.{Line, is_blank, before_comment, fields, entry, entries}
use Rattle.bx_ucd.specs.Codes.{character_of}
use Rattle.bx_ucd.specs.Control.{is_control}
use Rattle.bx_ucd.specs.CharactersFile.{character_entry, character_line, character_lines, decomposition_entry, form_entry, form_tagged, words}
use Rattle.bx_ucd.specs.Joining.{form_by_lines, is_for}
use Rattle.bx_ucd.specs.declared.error.Cause.TheVariants.{BadLine, ControlInMirror}
use Rattle.bx_ucd.specs.declared.characters_file.FormEntry.{FormEntry}
use Rattle.bx_ucd.specs.declared.joining.Form.{Form}
use Rattle.bx_ucd.proofs.LawLemmas.{found, ok_after, part_if_found}

abbrev HasNoControl : FormEntry → Type 0
HasNoControl e = is_control e.shown ≡ false

abbrev SaysNoControl : Option FormEntry → Type 0
SaysNoControl o = IfSome o HasNoControl

between : (first second : Bool) (e : FormEntry) → is_control e.shown ≡ first
    → IfOk (let r : Line FormEntry = if first || second then Err ControlInMirror else Ok (Some e) in r) SaysNoControl
between true second e is = tt
between false true e is = tt
between false false e is = is

form_no_control : (form : Option Form) (character letter : List ℕ) → IfOk (form_entry form character letter) SaysNoControl
form_no_control None character letter = tt
form_no_control (Some form) character letter =
    ok_after SaysNoControl (character_of character) _
    (λ s. ok_after SaysNoControl (character_of letter) _
    (λ l. between (is_control s) (is_control l) (record { letter = l; form = form; shown = s }) refl))

decomposition_no_control : (character : List ℕ) (ws : List (List ℕ)) → IfOk (decomposition_entry character ws) SaysNoControl
decomposition_no_control character [] = tt
decomposition_no_control character (tag ∷ []) = tt
decomposition_no_control character (tag ∷ letter ∷ []) = form_no_control (form_tagged tag) character letter
decomposition_no_control character (tag ∷ letter ∷ more ∷ ws) = tt

entry_no_control : (fs : List (List ℕ)) → IfOk (character_entry fs) SaysNoControl
entry_no_control fs = go (length fs == 15)
  where
    go : (b : Bool) → IfOk
        (let r : Line FormEntry = if b then decomposition_entry (slice_index_or fs 0 []) (words (slice_index_or fs 5 [])) else Err BadLine in r) SaysNoControl
    go true = decomposition_no_control (slice_index_or fs 0 []) (words (slice_index_or fs 5 []))
    go false = tt

some_of : (r : Line FormEntry) → IfOk r SaysNoControl → IfSome (entry r) HasNoControl
some_of (Ok said) h = h
some_of (Err cause) h = tt

line_no_control : (line : List ℕ) → IfSome (entry (character_line line)) HasNoControl
line_no_control line = go (list_all is_blank (before_comment line))
  where
    go : (b : Bool) → IfSome (entry (let r : Line FormEntry = if b then Ok None else character_entry (fields (before_comment line)) in r)) HasNoControl
    go true = tt
    go false = some_of (character_entry (fields (before_comment line))) (entry_no_control (fields (before_comment line)))

pub no_form_is_control : (bytes : List ℕ) (letter : ℕ) (form : Form)
    → ForSome (form_by_lines (entries (character_lines bytes)) letter form) (λ m. is_control m ≡ false)
no_form_is_control bytes letter form =
    part_if_found (λ e. e.shown) _ (found HasNoControl character_line line_no_control (is_for letter form) (lines bytes))
