-- Refusals of a text.
use Rattle.std.specs.Prelude.{◌≡◌, ℕ, ◌+◌, ◌<◌, ◌≤◌, ◌==◌, List, length, take, count_by}
use Rattle.std.specs.Str.{IsValidUpTo}
use Rattle.bx_common.specs.Characters.{largest_text}
use Rattle.bx_command.specs.declared.check.TextFault.{TextFault}
use Rattle.bx_command.specs.declared.check.TextFault.TheVariants.{NotUtf8, TooLong}

-- the number, from 1, of the line that the byte at this offset is in: one more than the line feeds (0A) before it
abbrev pub line_of : List ℕ → ℕ → ℕ
line_of bytes offset = count_by (λ b. b == 0x0a) (take offset bytes) + 1

-- the bytes before the offset `front` are UTF-8, and with the byte there they are not; that byte is in this line
pub record IsFirstBadLine (bytes : List ℕ) (line : ℕ) : Type 0 where
  pub front : ℕ
  pub valid : IsValidUpTo bytes front
  pub is_line : line ≡ line_of bytes front

-- the cause of each refusal
abbrev pub Refuses : List ℕ → TextFault → Type 0
Refuses bytes TooLong = largest_text < length bytes
Refuses bytes (NotUtf8 line) = (length bytes ≤ largest_text) × IsFirstBadLine bytes line
