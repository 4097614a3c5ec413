-- The tokens of a terminal's input that a list of bytes may begin, and the commands of sequences and strings.
use Rattle.std.specs.Prelude.{ℕ, Bool, true, false, ◌&&◌, nat_le, ◌==◌, List, [], ◌∷◌, Option, Some, None, if◌then◌else◌, ◌≡◌, ◌↔◌, ◌++◌}
use Rattle.std.specs.Str.{all_ascii_digits, bytes_eq}
use Rattle.bx_common.specs.Characters.{is_ascii_printable}
use Rattle.bx_bytes.specs.Pattern.{fate_in}
use Rattle.bx_bytes.specs.Utf8.{characters}
use Rattle.bx_bytes.specs.declared.fate.Fate.{Fate}
use Rattle.bx_bytes.specs.declared.fate.Fate.TheVariants.{Waits, Ends, Breaks}
use Rattle.bx_grid.specs.declared.command.Command.{Command}
use Rattle.bx_grid.specs.declared.command.Command.TheVariants.{Move, Clear, Erase, Render, Clip, Other}
use Rattle.std.specs.Str.Parse.{digits_value}
use Rattle.std.specs.Prelude.{take, drop, codes, is_ok}
use Rattle.base64.specs.Engines.{standard}
use Rattle.base64.specs.GeneralPurpose.{IsBytes, encode_of, decode_of}

-- the bytes of a control sequence after CSI, ESC and `[` (ECMA-48, 5.4): parameter bytes, intermediate bytes, a final byte
abbrev pub is_param : ℕ → Bool
is_param b = nat_le 0x30 b && nat_le b 0x3F

abbrev pub is_intermediate : ℕ → Bool
is_intermediate b = nat_le 0x20 b && nat_le b 0x2F

abbrev pub is_final : ℕ → Bool
is_final b = nat_le 0x40 b && nat_le b 0x7E

-- the bytes before the first that is not a parameter, and those from it on
abbrev pub params : List ℕ → List ℕ
params [] = []
params (b ∷ rest) = if is_param b then b ∷ params rest else []

abbrev pub after_params : List ℕ → List ℕ
after_params [] = []
after_params (b ∷ rest) = if is_param b then after_params rest else b ∷ rest

-- the bytes from the first that is not an intermediate byte on
abbrev pub after_intermediates : List ℕ → List ℕ
after_intermediates [] = []
after_intermediates (b ∷ rest) = if is_intermediate b then after_intermediates rest else b ∷ rest

-- the state of a sequence, by its bytes after the intermediate ones
abbrev pub final_fate : List ℕ → Fate
final_fate [] = Waits
final_fate (b ∷ []) = if is_final b then Ends else Breaks
final_fate (b ∷ c ∷ rest) = Breaks

-- the text of a string and the bytes after it, by its bytes after OSC, ESC and `]`: the text is printable ASCII, and BEL, byte 07,
-- ends the string (so in xterm; ECMA-48, 5.6, lets a string have more bytes, and another end)
abbrev pub string_text : List ℕ → List ℕ
string_text [] = []
string_text (b ∷ rest) = if is_ascii_printable b then b ∷ string_text rest else []

abbrev pub after_text : List ℕ → List ℕ
after_text [] = []
after_text (b ∷ rest) = if is_ascii_printable b then after_text rest else b ∷ rest

-- the state of a string, by its bytes after the text
abbrev pub bell_fate : List ℕ → Fate
bell_fate [] = Waits
bell_fate (b ∷ []) = if b == 0x07 then Ends else Breaks
bell_fate (b ∷ c ∷ rest) = Breaks

-- the state of a sequence or a string, by its bytes after ESC
abbrev pub escape_fate : List ℕ → Fate
escape_fate [] = Waits
escape_fate (b ∷ body) =
    if b == 0x5B then final_fate (after_intermediates (after_params body))
    else if b == 0x5D then bell_fate (after_text body)
    else Breaks

-- the state of a token after some bytes: a control sequence (ECMA-48: CSI, parameter bytes, intermediate bytes, a final
-- byte), a string or a character in UTF-8
abbrev pub fate : List ℕ → Fate
fate [] = Waits
fate (b ∷ rest) = if b == 0x1B then escape_fate rest else fate_in characters (b ∷ rest)

-- a decimal number by its digits, 1 where there are none (ECMA-48's default for CUP); None where a byte is no digit
abbrev pub number : List ℕ → Option ℕ
number [] = Some 1
number (d ∷ ds) = if all_ascii_digits (d ∷ ds) then Some (digits_value 10 (d ∷ ds)) else None

-- the bytes before the first semicolon, or all; and those after it, or none
abbrev pub before_semicolon : List ℕ → List ℕ
before_semicolon [] = []
before_semicolon (b ∷ bs) = if b == 0x3B then [] else b ∷ before_semicolon bs

abbrev pub after_semicolon : List ℕ → List ℕ
after_semicolon [] = []
after_semicolon (b ∷ bs) = if b == 0x3B then bs else after_semicolon bs

-- a move to a line and a column, counted from 1, if both are numbers
abbrev pub move_to : Option ℕ → Option ℕ → Command
move_to (Some line) (Some column) = Move line column
move_to _ _ = Other

-- the bytes are this one byte
abbrev pub is_only : ℕ → List ℕ → Bool
is_only b (c ∷ []) = b == c
is_only b _ = false

-- there is no byte, or the digit 0 alone
abbrev pub is_absent_or_zero : List ℕ → Bool
is_absent_or_zero [] = true
is_absent_or_zero (b ∷ bs) = is_only 0x30 (b ∷ bs)

-- The command of parameter bytes and a final byte: H (CUP) with two numbers; J (ED) with 2; K (EL) with none or 0; m (SGR) with
-- none, 0 or 7. Any other is `Other`.
abbrev pub command_of : List ℕ → ℕ → Command
command_of ps final =
    if final == 0x48 then move_to (number (before_semicolon ps)) (number (after_semicolon ps))
    else if final == 0x4A then (if is_only 0x32 ps then Clear else Other)
    else if final == 0x4B then (if is_absent_or_zero ps then Erase else Other)
    else if final == 0x6D then
    (if is_absent_or_zero ps then Render false
    else if is_only 0x37 ps then Render true
    else Other)
    else Other

-- the command of a sequence, by its parameter bytes and those after them: `Other` if it has intermediate bytes
abbrev pub command_at : List ℕ → List ℕ → Command
command_at ps (b ∷ []) = command_of ps b
command_at ps _ = Other

-- the command of the bytes after CSI
abbrev pub command : List ℕ → Command
command body = command_at (params body) (after_params body)

-- the bytes are the base64 of some bytes or of none: the standard alphabet, with padding, the unused bits zero
unfoldable pub is_base64 : List ℕ → Bool
is_base64 bytes = is_ok (decode_of standard bytes)

-- a string of this text is a clip, which hands a terminal bytes for the system's clipboard (`52;c;` in xterm), as base64 (RFC 4648,
-- section 4)
abbrev pub is_clip : List ℕ → Bool
is_clip text = bytes_eq (take 5 text) (codes "52;c;") && is_base64 (drop 5 text)

-- these are exactly the encodings of bytes
abbrev pub AreBase64 : Type 0
AreBase64 = (text : List ℕ) → IsBytes text → (is_base64 text ≡ true) ↔ ((bytes : List ℕ) × IsBytes bytes × (encode_of standard bytes ≡ text))

-- the clip of these bytes: OSC, `52;c;` and their base64, BEL
unfoldable pub clip_bytes : List ℕ → List ℕ
clip_bytes held = 0x1B ∷ 0x5D ∷ ((codes "52;c;" ++ encode_of standard held) ++ 0x07 ∷ [])

-- the command of a string's text
abbrev pub string_command : List ℕ → Command
string_command text = if is_clip text then Clip else Other

-- the command of a sequence or a string, by its bytes after ESC
abbrev pub escape_command : List ℕ → Command
escape_command [] = Other
escape_command (b ∷ body) = if b == 0x5B then command body else string_command (string_text body)
