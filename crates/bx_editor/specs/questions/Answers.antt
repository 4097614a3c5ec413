-- A text without its last character, and what an answer to the question for a line says.
use Rattle.std.specs.Prelude.{ℕ, ◌-◌, nat_lt, List, ◌++◌, length, take, chars, encode_utf8, encode_utf8_all, if◌then◌else◌, ◌+◌, ◌*◌, ◌==◌}
use Rattle.std.specs.Prelude.{◌||◌, Bool, max, is_some, fold, Option, Some, None, unwrap_or}
use Rattle.std.specs.List.{after_first, before_first, list_any}
use Rattle.std.specs.Option.{option_map}
use Rattle.bx_common.specs.Characters.{is_within}
use Rattle.bx_editor.specs.declared.questions.line.Target.{Target}

-- a text without its last character, if it has one
abbrev pub shortened : List ℕ → List ℕ
shortened text = encode_utf8_all (take (length (chars text) - 1) (chars text))

-- ---- the answer to the question for a line: a paragraph and a unit

-- the value of a digit, in ASCII, Arabic-Indic or extended Arabic-Indic
abbrev pub digit_of : ℕ → Option ℕ
digit_of c =
    if is_within 0x30 0x39 c then Some (c - 0x30)
    else (if is_within 0x660 0x669 c then Some (c - 0x660)
    else (if is_within 0x6F0 0x6F9 c then Some (c - 0x6F0) else None))

-- a digit of these scripts
abbrev pub is_digit : ℕ → Bool
is_digit c = is_some (digit_of c)

-- a colon or a comma, which ends the number before it
abbrev pub is_divider : ℕ → Bool
is_divider c = (c == 0x3A) || (c == 0x2C)

-- a character that may stand in the answer
abbrev pub is_line_letter : ℕ → Bool
is_line_letter c = is_digit c || is_divider c

-- an answer has a digit
abbrev pub has_digit : List ℕ → Bool
has_digit answer = list_any is_digit answer

-- a number with one more digit after it, None where no digit was read yet; other characters are ignored
abbrev pub with_digit : Option ℕ → ℕ → Option ℕ
with_digit number c = elim (digit_of c) [ None ↦ number | Some digit ↦ Some (unwrap_or number 0 * 10 + digit) ]

-- the number that digits write, where 0 means 1; none where there is no digit
abbrev pub number : List ℕ → Option ℕ
number cs = option_map (max 1) (fold with_digit None cs)

-- the first number names a paragraph, the second a unit in it, both from 1; without a first, the cursor's paragraph, without a
-- second, the first unit
abbrev pub asked : List ℕ → Option Target
asked answer =
    if has_digit answer
    then Some (record {
      paragraph = number (before_first is_divider answer);
      unit = unwrap_or (number (before_first is_divider (after_first is_divider answer))) 1;
    })
    else None
