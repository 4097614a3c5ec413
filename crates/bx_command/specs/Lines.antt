-- The lines of a text, each of which but the last ends with LF.
use Rattle.std.specs.Prelude.{ℕ, ◌+◌, ◌==◌, Bool, true, false, List, [], ◌∷◌, take}

-- `start` before the others, if the bool says so
abbrev pub with_start : Bool → ℕ → List ℕ → List ℕ
with_start true start starts = start ∷ starts
with_start false start starts = starts

-- the offsets after the line feeds among bytes, the first of which is at `offset`
abbrev pub behind_feeds : ℕ → List ℕ → List ℕ
behind_feeds offset [] = []
behind_feeds offset (b ∷ bytes) = with_start (b == 0x0a) (offset + 1) (behind_feeds (offset + 1) bytes)

-- the offsets at which a text's lines begin
abbrev pub line_starts : List ℕ → List ℕ
line_starts text = 0 ∷ behind_feeds 0 text

-- the last of these offsets, or `before` if the list is empty
abbrev pub last_from : ℕ → List ℕ → ℕ
last_from before [] = before
last_from before (start ∷ starts) = last_from start starts

-- the start of the line with this number, counted from 1, or of the last line if there are fewer; 0 counts as 1
abbrev pub start_of_line : List ℕ → ℕ → ℕ
start_of_line text line = last_from 0 (take line (line_starts text))
