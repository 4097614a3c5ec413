-- Worked examples: the lines of a text, and the refusals of its check.
use Rattle.std.proofs.Common.{◌≡◌, ℕ, ◌≤◌, List, [], ◌∷◌, length, refl, arith}
use Rattle.std.specs.Prelude.{codes}
use Rattle.bx_common.specs.Characters.{largest_text}
use Rattle.bx_command.specs.declared.check.TextFault.TheVariants.{NotUtf8, TooLong}
use Rattle.bx_command.specs.Check.{Refuses, line_of}
use Rattle.bx_command.specs.Lines.{line_starts, start_of_line}

-- ---- lines

pub a_line_begins_behind_each_line_feed : line_starts (codes "ab\n\nc\n") ≡ 0 ∷ 3 ∷ 4 ∷ 6 ∷ []
a_line_begins_behind_each_line_feed = refl

pub the_first_line_begins_at_0 : start_of_line (codes "ab\ncd") 1 ≡ 0
the_first_line_begins_at_0 = refl

pub the_second_line : start_of_line (codes "ab\ncd") 2 ≡ 3
the_second_line = refl

pub line_0_is_the_first : start_of_line (codes "ab\ncd") 0 ≡ 0
line_0_is_the_first = refl

pub behind_the_last_line_it_is_the_last : start_of_line (codes "ab\ncd") 9 ≡ 3
behind_the_last_line_it_is_the_last = refl

-- the last line is empty
pub behind_a_last_line_feed : start_of_line (codes "ab\n") 2 ≡ 3
behind_a_last_line_feed = refl

pub an_empty_text_has_one_line : start_of_line [] 7 ≡ 0
an_empty_text_has_one_line = refl

-- a carriage return alone ends no line, and CR LF ends one
pub lines_end_with_line_feeds : start_of_line (codes "a\rb\r\nc") 2 ≡ 5
lines_end_with_line_feeds = refl

-- ---- the check of a text

pub a_byte_is_in_the_line_that_its_line_feed_ends : line_of (codes "ab\ncd") 2 ≡ 1
a_byte_is_in_the_line_that_its_line_feed_ends = refl

pub a_byte_behind_it_is_in_the_next : line_of (codes "ab\ncd") 3 ≡ 2
a_byte_behind_it_is_in_the_next = refl

-- a short text is not refused for its length
pub a_short_text_is_not_too_long : Refuses (codes "ab") TooLong → ⊥
a_short_text_is_not_too_long long = omega (arith, long)

-- a text with a bad line is no longer than the largest
pub the_length_is_told_first : (bytes : List ℕ) (line : ℕ) → Refuses bytes (NotUtf8 line) → length bytes ≤ largest_text
the_length_is_told_first bytes line refused = refused.0
