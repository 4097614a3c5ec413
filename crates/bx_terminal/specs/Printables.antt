-- Texts without controls, which the code shows at once (`src/text.rt`).
use Rattle.std.specs.Prelude.{◌≡◌, ◌≤◌, ◌<◌, ◌==◌, List, ℕ, Bool, true, length, take, get_or, if◌then◌else◌}
use Rattle.std.specs.Str.{IsUtf8}
use Rattle.bx_bytes.specs.Utf8.{are_printable}
use Rattle.bx_bytes.specs.Pattern.{is_within}

-- the bytes are a text without controls
pub record IsPrintable (bytes : List ℕ) : Type 0 where
  pub utf8 : IsUtf8 bytes
  pub printed : are_printable bytes ≡ true

-- the bytes begin with this text and then an escape
pub record IsBeforeEscape (text bytes : List ℕ) : Type 0 where
  pub some : 1 ≤ length text
  pub within : length text < length bytes
  pub front : text ≡ take (length text) bytes
  pub printable : IsPrintable text
  pub escape : get_or bytes (length text) 0 ≡ 0x1B

-- the second byte of a character of three bytes, by its first (Unicode, table 3-7): no overlong form (E0), no surrogate (ED)
abbrev pub is_second : ℕ → ℕ → Bool
is_second lead second =
    if lead == 0xE0 then is_within 0xA0 0xBF second
    else if lead == 0xED then is_within 0x80 0x9F second
    else is_within 0x80 0xBF second
