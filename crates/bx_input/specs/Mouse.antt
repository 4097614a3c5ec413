-- Mouse reports, in the form that the host asks terminals for (mode 1006 of xterm): CSI < button ; column ; row and a final M, or a
-- final m for a released button. `ps` are the bytes after CSI <, `bs` are bytes.
use Rattle.std.specs.Prelude.{ℕ, Bool, false, ◌&&◌, ◌||◌, nat_le, ◌==◌, List, [], ◌∷◌, length, Option, Some, None, is_some, if◌then◌else◌}
use Rattle.std.specs.List.{list_all, slice_split}
use Rattle.std.specs.Char.{is_ascii_digit}
use Rattle.std.specs.Str.Parse.{digits_value}
use Rattle.bx_bytes.specs.declared.fate.Fate.{Fate}
use Rattle.bx_bytes.specs.declared.fate.Fate.TheVariants.{Waits, Ends, Breaks}
use Rattle.bx_keys.specs.Keys.{is_number, is_side_in_digits, final_byte, before_final}
use Rattle.bx_keys.specs.declared.key.Key.{Key}
use Rattle.bx_keys.specs.declared.key.Key.TheVariants.{Select, Point, Drag, ScrollBack, ScrollOn}

-- a report: the number of its button, and the cell's column and row
pub record Report : Type 0 where
  pub button : ℕ
  pub column : ℕ
  pub row : ℕ
  pub is_release : Bool

-- ---- which bytes are a report

-- the bytes begin with CSI <
abbrev pub opens_report : List ℕ → Bool
opens_report (a ∷ b ∷ c ∷ bs) = (a == 0x1B && b == 0x5B) && c == 0x3C
opens_report _ = false

-- a digit or a semicolon
abbrev pub is_number_byte : ℕ → Bool
is_number_byte b = is_ascii_digit b || b == 0x3B

-- bytes that a report may go on from: three numbers of three digits have eleven bytes with their semicolons
abbrev pub begins_report : List ℕ → Bool
begins_report ps = nat_le (length ps) 11 && list_all is_number_byte ps

-- three numbers of one to three digits are a report, if column and row are from 1 to 500
abbrev pub report_of_numbers : Bool → List (List ℕ) → Option Report
report_of_numbers is_release (button ∷ column ∷ row ∷ []) =
    if is_number button && (is_side_in_digits column && is_side_in_digits row)
    then Some (record { button = digits_value 10 button; column = digits_value 10 column; row = digits_value 10 row; is_release = is_release })
    else None
report_of_numbers is_release _ = None

-- the report that these bytes are, if they are one
abbrev pub report_of : List ℕ → Option Report
report_of ps =
    if final_byte ps == 0x4D || final_byte ps == 0x6D
    then report_of_numbers (final_byte ps == 0x6D) (slice_split (λ b. b == 0x3B) (before_final ps))
    else None

-- whether they are a report (Ends), begin one (Waits) or neither (Breaks)
abbrev pub report_fate : List ℕ → Fate
report_fate ps = if is_some (report_of ps) then Ends else if begins_report ps then Waits else Breaks

-- ---- the keys of a report

-- A press of the first button (0) points, and with Shift (4) selects. A move while it is down (32), with Shift too (36), drags. 64
-- and 65 are the wheel, which scrolls back and on. Other buttons, moves and modifiers give nothing.
abbrev pub pressed : ℕ → ℕ → ℕ → List Key
pressed button row column =
    if button == 0 then Point row column ∷ []
    else if button == 4 then Select ∷ Point row column ∷ []
    else if button == 32 || button == 36 then Drag row column ∷ []
    else if button == 64 then ScrollBack ∷ []
    else if button == 65 then ScrollOn ∷ []
    else []

-- the keys of a report; a button that is let go gives none
abbrev pub reported : Report → List Key
reported r = if r.is_release then [] else pressed r.button r.row r.column
