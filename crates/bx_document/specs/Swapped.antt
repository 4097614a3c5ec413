-- The texts that edits at several places write: other texts in place of matches, and two texts round a part. A match is the pair of
-- the offsets of its start and its end.
use Rattle.std.specs.Prelude.{ℕ, ◌+◌, List, [], ◌∷◌, ◌++◌, length, take, drop, chars, encode_utf8_all, slice_range}
use Rattle.bx_document.specs.declared.edits.RegionEnd.{RegionEnd}
use Rattle.bx_document.specs.declared.edits.RegionEnd.TheVariants.{Start, Stop}
use Rattle.bx_text.specs.Edits.{splice}

-- the offset at which the last of some matches ends; `start` if there is none
abbrev pub last_stop : ℕ → List (ℕ × ℕ) → ℕ
last_stop start [] = start
last_stop start (s ∷ ss) = last_stop s.1 ss

-- the text from the offset `start` to the end of the last match, with `other` in place of each match; empty if there is none
abbrev pub swapped : ℕ → List ℕ → List ℕ → List (ℕ × ℕ) → List ℕ
swapped start text other [] = []
swapped start text other (s ∷ ss) = slice_range text start s.0 ++ other ++ swapped s.1 text other ss

-- the offset after the character at the offset `x`; `x` itself at the text's end
abbrev pub behind_character : List ℕ → ℕ → ℕ
behind_character text x = x + length (encode_utf8_all (take 1 (chars (drop x text))))

-- ---- two texts put round a part of a text

-- the text with `back` inserted after the bytes from `start` to `stop`, and `front` before them
abbrev pub wrapped_text : List ℕ → ℕ → ℕ → List ℕ → List ℕ → List ℕ
wrapped_text text start stop front back = splice (splice text stop stop back) start start front

-- the offset, in the wrapped text, of an end of the bytes that stood from `start` to `stop`
abbrev pub wrapped_end : RegionEnd → ℕ → ℕ → List ℕ → ℕ
wrapped_end Start start stop front = start + length front
wrapped_end Stop start stop front = stop + length front
