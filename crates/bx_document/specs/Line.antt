-- Lines: paragraphs with their separators. Cut and Copy take the cursor's line where the region is empty. `ucd` is what the
-- tables say.
use Rattle.std.specs.Prelude.{ℕ, ◌+◌, ◌==◌, ◌&&◌, ◌||◌, Bool, false, List, [], ◌∷◌, length, reverse, slice_range, chars}
use Rattle.std.specs.List.{take_while}
use Rattle.bx_ucd.specs.Data.{Data}
use Rattle.bx_text.specs.index.Paragraphs.{is_separator, lengths, paragraph_of}
use Rattle.bx_view.specs.Numbers.{body_at, paragraph_at, start_at}

-- the offsets of the start of the paragraph that an offset falls in, and of the start of the next one, or the text's end
abbrev pub line_of : Data → List ℕ → ℕ → ℕ × ℕ
line_of ucd text offset =
    (start_at ucd text (paragraph_of (lengths ucd text) offset), start_at ucd text (paragraph_of (lengths ucd text) offset + 1))

-- a paragraph has nothing but its separator
abbrev pub is_line_empty : Data → List ℕ → ℕ → Bool
is_line_empty ucd text offset = length (body_at ucd text (paragraph_of (lengths ucd text) offset)) == 0

-- ---- the indent of a line, and the separator at a text's end

-- a blank or a tab, which indents
abbrev pub is_indent : ℕ → Bool
is_indent b = (b == 0x20) || (b == 0x9)

-- the blanks and tabs with which the paragraph of an offset begins, those that stand before the offset
abbrev pub indent : Data → List ℕ → ℕ → List ℕ
indent ucd text offset = take_while is_indent (slice_range text (line_of ucd text offset).0 offset)

-- some characters, the last one first, end with a separator of paragraphs
abbrev pub begins_with_separator : Data → List ℕ → Bool
begins_with_separator ucd [] = false
begins_with_separator ucd (c ∷ cs) = is_separator (ucd.class c)

-- a text ends with a separator of paragraphs
abbrev pub ends_with_separator : Data → List ℕ → Bool
ends_with_separator ucd text = begins_with_separator ucd (reverse (chars text))

-- ---- whether lines end with CR LF, by the first separator: Enter types what they end with

-- a separator's bytes are CR (13) and LF (10)
abbrev pub is_cr_lf : List ℕ → Bool
is_cr_lf (a ∷ b ∷ []) = (a == 13) && (b == 10)
is_cr_lf _ = false

-- the first separator of the text is CR LF; the first paragraph has no separator if the text has none
abbrev pub has_crlf_first : Data → List ℕ → Bool
has_crlf_first ucd text = is_cr_lf (paragraph_at ucd text 0).separator
