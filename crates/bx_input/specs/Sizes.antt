-- Sizes of the window, as terminals tell them that are asked: CSI 8 ; rows ; columns t. Fill follows their key. `ps` are the bytes after
-- CSI 8 ;, `bs` are bytes, `h` are rows, `w` are columns.
use Rattle.std.specs.Prelude.{ℕ, Bool, false, ◌&&◌, ◌==◌, List, [], ◌∷◌, Option, Some, None, is_some, if◌then◌else◌}
use Rattle.std.specs.List.{slice_split}
use Rattle.std.specs.Str.Parse.{digits_value}
use Rattle.bx_bytes.specs.declared.fate.Fate.{Fate}
use Rattle.bx_bytes.specs.declared.fate.Fate.TheVariants.{Waits, Ends, Breaks}
use Rattle.bx_keys.specs.Keys.{is_side_in_digits, final_byte, before_final}
use Rattle.bx_keys.specs.declared.key.Key.{Key}
use Rattle.bx_keys.specs.declared.key.Key.TheVariants.{Size, Fill}
use Rattle.bx_input.specs.Mouse.{begins_report}

-- the bytes begin with CSI 8 ;
abbrev pub opens_size : List ℕ → Bool
opens_size (a ∷ b ∷ c ∷ d ∷ bs) = ((a == 0x1B && b == 0x5B) && c == 0x38) && d == 0x3B
opens_size _ = false

-- two numbers are the sides of a window
abbrev pub size_of_numbers : List (List ℕ) → Option Key
size_of_numbers (h ∷ w ∷ []) =
    if is_side_in_digits h && is_side_in_digits w then Some (Size (digits_value 10 h) (digits_value 10 w)) else None
size_of_numbers _ = None

-- the key of the size that these bytes are, if they are one
abbrev pub size_of : List ℕ → Option Key
size_of ps = if final_byte ps == 0x74 then size_of_numbers (slice_split (λ b. b == 0x3B) (before_final ps)) else None

-- whether they are a size (Ends), begin one (Waits) or neither (Breaks); as many digits and semicolons wait as of a mouse report
abbrev pub size_fate : List ℕ → Fate
size_fate ps = if is_some (size_of ps) then Ends else if begins_report ps then Waits else Breaks

-- the keys of a size, which has this key
abbrev pub sized : Key → List Key
sized key = key ∷ Fill ∷ []
