-- A terminal's input, cut into tokens: printable runs as long as possible, whole control sequences and strings, and all else.
use Rattle.std.specs.Prelude.{ℕ, zero, suc, max, Bool, ◌==◌, List, [], ◌∷◌, ◌++◌, length, take, drop, if◌then◌else◌}
use Rattle.bx_bytes.specs.Pattern.{Piece, One, Many, matches_any, begins_any}
use Rattle.bx_bytes.specs.Utf8.{long_characters, are_printable}

-- ---- items: characters in UTF-8 except ESC (1B), control sequences and strings

-- ECMA-48, 5.4: CSI (ESC and `[`), parameter bytes, intermediate bytes, and one final byte, in this order. (What `bx_keys`
-- reads as a sequence of the input may mix the first two.)
abbrev pub control_sequence : List Piece
control_sequence = One 0x1B 0x1B ∷ One 0x5B 0x5B ∷ Many 0x30 0x3F ∷ Many 0x20 0x2F ∷ One 0x40 0x7E ∷ []

-- ECMA-48, 5.6, with fewer bytes and xterm's end: OSC (ESC and `]`), printable ASCII, and BEL
abbrev pub control_string : List Piece
control_string = One 0x1B 0x1B ∷ One 0x5D 0x5D ∷ Many 0x20 0x7E ∷ One 0x07 0x07 ∷ []

-- ASCII without ESC, sequences, strings, and the characters of two to four bytes
abbrev pub items : List (List Piece)
items = (One 0x00 0x1A ∷ []) ∷ (One 0x1C 0x7F ∷ []) ∷ control_sequence ∷ control_string ∷ long_characters

-- the bytes are one whole item
abbrev pub is_item : List ℕ → Bool
is_item bs = matches_any items bs

-- the bytes begin an item, or are one
abbrev pub begins_item : List ℕ → Bool
begins_item bs = begins_any items bs

-- the length of the longest prefix that begins an item, at most `n`
abbrev pub beginning_up_to : ℕ → List ℕ → ℕ
beginning_up_to zero bs = 0
beginning_up_to (suc n) bs = if begins_item (take (suc n) bs) then suc n else beginning_up_to n bs

-- the length of the longest prefix that begins an item
abbrev pub beginning : List ℕ → ℕ
beginning bs = beginning_up_to (length bs) bs

-- ---- tokens

-- what a terminal reads as one piece
pub data Token : Type 0 where
  -- printable characters
  Run : (text : List ℕ) → Token
  -- a control sequence or a string
  Sequence : (bytes : List ℕ) → Token
  -- a character that is not printable, or the beginning of an item that the next byte breaks
  Other : (bytes : List ℕ) → Token

-- the token of an item
abbrev pub token_of : List ℕ → Token
token_of [] = Other []
token_of (b ∷ bs) = if b == 0x1B then Sequence (b ∷ bs) else if are_printable (b ∷ bs) then Run (b ∷ bs) else Other (b ∷ bs)

-- tokens, and the bytes that wait for more
pub record Cut : Type 0 where
  pub tokens : List Token
  pub rest : List ℕ

-- the cut `c` of the bytes that follow a token, with the token before its tokens
abbrev pub with_token : Token → Cut → Cut
with_token token c = record { tokens = token ∷ c.tokens; rest = c.rest }

-- the tokens of bytes, in which each printable character is a run of its own, in at most `n` cuts (each takes a byte or more)
abbrev pub cut_within : ℕ → List ℕ → Cut
cut_within zero bs = record { tokens = []; rest = bs }
cut_within (suc n) [] = record { tokens = []; rest = [] }
cut_within (suc n) (b ∷ bs) =
    let long = beginning (b ∷ bs) in
    if is_item (take long (b ∷ bs)) then with_token (token_of (take long (b ∷ bs))) (cut_within n (drop long (b ∷ bs)))
    else if long == length (b ∷ bs) then record { tokens = []; rest = b ∷ bs }
    else with_token (Other (take (max 1 long) (b ∷ bs))) (cut_within n (drop (max 1 long) (b ∷ bs)))

-- ---- runs as long as possible

-- tokens, then a run that later characters may extend, then the bytes that wait for more
pub record Cutting : Type 0 where
  pub tokens : List Token
  pub run : List ℕ
  pub rest : List ℕ

-- the token of a run; none if the run has no characters
abbrev pub run_token : List ℕ → List Token
run_token [] = []
run_token (b ∷ bs) = Run (b ∷ bs) ∷ []

-- the cutting `c` of the bytes that follow some tokens, with these before its tokens
abbrev pub with_tokens : List Token → Cutting → Cutting
with_tokens tokens c = record { tokens = tokens ++ c.tokens; run = c.run; rest = c.rest }

-- the cutting after the last token: later characters may extend the run, unless an escape waits after it
abbrev pub last_run : List ℕ → List ℕ → Cutting
last_run run [] = record { tokens = []; run = run; rest = [] }
last_run run (b ∷ bs) =
    if b == 0x1B then record { tokens = run_token run; run = []; rest = b ∷ bs } else record { tokens = []; run = run; rest = b ∷ bs }

-- a run and tokens after it, with adjacent runs joined
abbrev pub joined : List ℕ → List Token → List ℕ → Cutting
joined run [] rest = last_run run rest
joined run (Run text ∷ tokens) rest = joined (run ++ text) tokens rest
joined run (Sequence bytes ∷ tokens) rest = with_tokens (run_token run ++ Sequence bytes ∷ []) (joined [] tokens rest)
joined run (Other bytes ∷ tokens) rest = with_tokens (run_token run ++ Other bytes ∷ []) (joined [] tokens rest)

-- The longest prefix that begins an item is a token if it is an item, waits if no byte follows it, and is broken off otherwise,
-- at least one byte. Adjacent printable characters are one run.
abbrev pub cutting : List ℕ → Cutting
cutting bs = let c = cut_within (length bs) bs in joined [] c.tokens c.rest
