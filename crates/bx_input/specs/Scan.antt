-- What typed bytes are: known sequences, which have keys, pasted text, and bytes that pass on to the grammar of items (`bx_keys`,
-- specs/Items.antt). There are two states: outside a paste, and within one. `b` is a byte, `bs` are bytes, `s` is a state.
use Rattle.std.specs.Prelude.{ℕ, Bool, true, false, ◌&&◌, ◌||◌, ◌==◌, List, [], ◌∷◌, ◌++◌, map, drop, Option, Some, None, if◌then◌else◌}
use Rattle.std.specs.Str.{bytes_eq}
use Rattle.bx_bytes.specs.declared.fate.Fate.{Fate}
use Rattle.bx_bytes.specs.declared.fate.Fate.TheVariants.{Waits, Ends, Breaks}
use Rattle.bx_keys.specs.declared.key.Key.{Key}
use Rattle.bx_keys.specs.declared.key.Key.TheVariants.{Cancel, PasteStart, PasteEnd}
use Rattle.bx_input.specs.declared.pause.Pause.{Pause}
use Rattle.bx_input.specs.declared.pause.Pause.TheVariants as pauses
use Rattle.bx_input.specs.Known.{fate, known_keys}
use Rattle.bx_input.specs.Table.{paste_end}
use Rattle.bx_input.specs.Paste.{pasted_byte, pasted_part, paste_fate}

-- a byte that passes on, or a known sequence, which may have no key
pub data Part : Type 0 where
  Passed : (byte : ℕ) → Part
  Known : (keys : List Key) → Part

-- these bytes pass on
abbrev pub passed : List ℕ → List Part
passed bs = map Passed bs

-- The waiting bytes begin a known sequence. Within a paste, the last byte may have been a CR (`after_return`).
pub data State : Type 0 where
  Outside : (waiting : List ℕ) → State
  Within : (waiting : List ℕ) (after_return : Bool) → State

-- outside a paste, with nothing waiting
abbrev pub start : State
start = Outside []

-- the state after bytes, and what they are
pub record Step : Type 0 where
  pub state : State
  pub parts : List Part

-- a step to this state, with these parts
abbrev pub step_to : State → List Part → Step
step_to state parts = record { state = state; parts = parts }

-- parts before those of the rest
abbrev pub with_front : List Part → Step → Step
with_front front s = step_to s.state (front ++ s.parts)

-- ---- outside a paste; `fate` (`Known.antt`) says whether bytes are a known sequence (Ends), begin one (Waits) or neither
-- (Breaks)

-- a known sequence is whole; without keys, it is a paste's start
abbrev pub ended : Option (List Key) → Step
ended None = step_to (Within [] false) (Known (PasteStart ∷ []) ∷ [])
ended (Some keys) = step_to start (Known keys ∷ [])

-- two Escapes come first: the first one may be Alt for the sequence that the second begins
abbrev pub has_two_escapes : List ℕ → Bool
has_two_escapes (a ∷ b ∷ bs) = a == 0x1B && b == 0x1B
has_two_escapes _ = false

-- one Escape waits, or two do, and no more
abbrev pub are_escapes : List ℕ → Bool
are_escapes waiting = bytes_eq waiting (0x1B ∷ []) || bytes_eq waiting (0x1B ∷ 0x1B ∷ [])

-- whether or not the terminal's own erase character is DELETE
module _ (erases_by_delete : Bool) where
  -- a byte where none waits
  abbrev pub fresh : Fate → ℕ → Step
  fresh Waits b = step_to (Outside (b ∷ [])) []
  fresh Ends b = ended (known_keys erases_by_delete (b ∷ []))
  fresh Breaks b = step_to start (Passed b ∷ [])

  -- the byte breaks the sequence: the waiting bytes pass on, and the byte is read as if none waited
  abbrev pub broken : List ℕ → ℕ → Step
  broken waiting b = with_front (passed waiting) (fresh (fate (b ∷ [])) b)

  -- a byte after the waiting bytes, by the fate of both, if no two Escapes wait
  abbrev pub plain_step : Fate → List ℕ → ℕ → Step
  plain_step Waits waiting b = step_to (Outside (waiting ++ b ∷ [])) []
  plain_step Ends waiting b = ended (known_keys erases_by_delete (waiting ++ b ∷ []))
  plain_step Breaks waiting b = broken waiting b

  -- an Escape passes on, and the byte is read behind the bytes after it
  abbrev pub behind_escape : List ℕ → ℕ → Step
  behind_escape waiting b = with_front (Passed 0x1B ∷ []) (plain_step (fate (waiting ++ b ∷ [])) waiting b)

  -- The byte breaks the sequence. Of two Escapes that wait the second may begin a sequence of its own.
  abbrev pub breaks_off : List ℕ → ℕ → Step
  breaks_off waiting b = if has_two_escapes waiting then behind_escape (drop 1 waiting) b else broken waiting b

  -- a byte after the waiting bytes, by the fate of both
  abbrev pub step_by : Fate → List ℕ → ℕ → Step
  step_by Waits waiting b = plain_step Waits waiting b
  step_by Ends waiting b = plain_step Ends waiting b
  step_by Breaks waiting b = breaks_off waiting b

-- ---- within a paste; `paste_fate` (`Paste.antt`) says the same of the sequences that are known within one

-- a byte where none waits
abbrev pub fresh_in_paste : Fate → Bool → ℕ → Step
fresh_in_paste Waits after_return b = step_to (Within (b ∷ []) false) []
fresh_in_paste _ after_return b = step_to (Within [] (b == 0x0D)) (passed (pasted_byte after_return b))

-- a sequence within a paste is whole: the paste's end, or a control character of C1
abbrev pub ended_in_paste : Bool → Step
ended_in_paste is_end = if is_end then step_to start (Known (PasteEnd ∷ []) ∷ []) else step_to (Within [] false) []

-- a byte after the waiting bytes, by the fate of both
abbrev pub paste_step_by : Fate → List ℕ → Bool → ℕ → Step
paste_step_by Waits waiting after_return b = step_to (Within (waiting ++ b ∷ []) false) []
paste_step_by Ends waiting after_return b = ended_in_paste (bytes_eq (waiting ++ b ∷ []) paste_end)
paste_step_by Breaks waiting after_return b =
    with_front (passed (pasted_part waiting)) (fresh_in_paste (paste_fate (b ∷ [])) after_return b)

-- ---- a byte, and input

-- what passes on of the waiting bytes at the input's end
abbrev pub at_end : State → List Part
at_end (Outside waiting) = passed waiting
at_end (Within waiting after_return) = passed (pasted_part waiting)

-- an Escape waits alone in a paste
abbrev pub is_lone_escape : State → Bool
is_lone_escape (Outside waiting) = false
is_lone_escape (Within waiting after_return) = bytes_eq waiting (0x1B ∷ [])

-- the pause that counts after a byte: one right before an Escape that waits alone in a paste
abbrev pub before_escape : Pause → Pause
before_escape pauses.Behind = pauses.Before
before_escape _ = pauses.No

abbrev pub pause_after : Pause → State → Pause
pause_after pause state = if is_lone_escape state then before_escape pause else pauses.No

-- a pause came right before
abbrev pub is_before : Pause → Bool
is_before pauses.Before = true
is_before _ = false

-- Time goes by after the last byte. An Escape that waits alone, or behind another, is the key Cancel; in a paste, one with a pause
-- before it ends the paste. All else goes on waiting.
abbrev pub idle : Pause → State → Step
idle pause (Outside waiting) =
    if are_escapes waiting then step_to start (Known (Cancel ∷ []) ∷ []) else step_to (Outside waiting) []
idle pause (Within waiting after_return) =
    if bytes_eq waiting (0x1B ∷ []) && is_before pause then step_to start (Known (PasteEnd ∷ []) ∷ [])
    else step_to (Within waiting after_return) []

-- a paste is under way
abbrev pub is_in_paste : State → Bool
is_in_paste (Outside waiting) = false
is_in_paste (Within waiting after_return) = true

module _ (erases_by_delete : Bool) where
  -- a byte in any state
  abbrev pub step : State → ℕ → Step
  step (Outside waiting) b = step_by erases_by_delete (fate (waiting ++ b ∷ [])) waiting b
  step (Within waiting after_return) b = paste_step_by (paste_fate (waiting ++ b ∷ [])) waiting after_return b

  -- what bytes are, one after another
  abbrev pub run : State → List ℕ → Step
  run s [] = step_to s []
  run s (b ∷ bs) = with_front (step s b).parts (run (step s b).state bs)

  -- what a whole input is
  abbrev pub scanned : List ℕ → List Part
  scanned bs = let all = run start bs in all.parts ++ at_end all.state
