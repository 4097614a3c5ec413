-- The text of a paste: what of its bytes goes to the editor. `b` is a byte, `bs` are bytes; from `kept_character` on `c` is a
-- character, `cs` are characters.
use Rattle.std.specs.Prelude.{ℕ, Bool, false, ◌&&◌, ◌||◌, ◌==◌, List, [], ◌∷◌, ◌++◌, flat_map, if◌then◌else◌}
use Rattle.bx_bytes.specs.Pattern.{fate_in, Piece, One, is_within}
use Rattle.bx_bytes.specs.declared.fate.Fate.{Fate}
use Rattle.bx_input.specs.Table.{exact, paste_end}

-- a control character of C0, or DELETE
abbrev pub is_control_byte : ℕ → Bool
is_control_byte b = is_within 0x00 0x1F b || b == 0x7F

-- the output for a byte of a paste: TAB passes, a new line is LF, and other control bytes are dropped. The LF of CR LF is
-- written for the CR.
abbrev pub pasted_byte : Bool → ℕ → List ℕ
pasted_byte after_return b =
    if b == 0x0D then 0x0A ∷ []
    else if b == 0x0A then (if after_return then [] else 0x0A ∷ [])
    else if b == 0x09 then 0x09 ∷ []
    else if is_control_byte b then []
    else b ∷ []

-- two bytes are a control character of C1 in UTF-8
abbrev pub is_c1 : ℕ → ℕ → Bool
is_c1 b c = b == 0xC2 && is_within 0x80 0x9F c

-- the output for a paste of these bytes, after a CR or not
abbrev pub pasted_after : Bool → List ℕ → List ℕ
pasted_after after_return [] = []
pasted_after after_return (b ∷ []) = pasted_byte after_return b
pasted_after after_return (b ∷ c ∷ bs) =
    if is_c1 b c then pasted_after false bs else pasted_byte after_return b ++ pasted_after (b == 0x0D) (c ∷ bs)

-- the output for a paste of these bytes
abbrev pub pasted : List ℕ → List ℕ
pasted bs = pasted_after false bs

-- The output for a character of a paste in UTF-8: TAB and new lines stay, other control characters, those of C0 and C1 and DELETE,
-- are dropped.
abbrev pub kept_character : Bool → ℕ → List ℕ
kept_character after_return c =
    if c == 0x0D then 0x0A ∷ []
    else if c == 0x0A then (if after_return then [] else 0x0A ∷ [])
    else if c == 0x09 then 0x09 ∷ []
    else if is_within 0x00 0x1F c || is_within 0x7F 0x9F c then []
    else c ∷ []

-- the characters that stay, after a CR or not
abbrev pub kept_after : Bool → List ℕ → List ℕ
kept_after after_return [] = []
kept_after after_return (c ∷ cs) = kept_character after_return c ++ kept_after (c == 0x0D) cs

-- the characters of a paste that stay
abbrev pub kept_characters : List ℕ → List ℕ
kept_characters cs = kept_after false cs

-- the sequences known within a paste: its end, and the control characters of C1 in UTF-8
abbrev pub paste_sequences : List (List Piece)
paste_sequences = exact paste_end ∷ (One 0xC2 0xC2 ∷ One 0x80 0x9F ∷ []) ∷ []

-- whether bytes are one of these sequences (Ends), begin one (Waits) or neither (Breaks)
abbrev pub paste_fate : List ℕ → Fate
paste_fate bs = fate_in paste_sequences bs

-- the output for the beginning of a sequence that the next byte breaks
abbrev pub pasted_part : List ℕ → List ℕ
pasted_part bs = flat_map (pasted_byte false) bs
