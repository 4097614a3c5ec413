-- The models of the crate's types: what their values mean.
use Rattle.std.specs.Prelude.{◌≡◌, ℕ, true, false, List, [], ◌∷◌, ◌++◌, map, Option, Some, None, option_map, option_to_list}
use Rattle.std.specs.Str.{bytes_eq}
use Rattle.bx_bytes.specs.declared.fate.Fate.TheVariants.{Waits, Ends, Breaks}
use Rattle.bx_keys.specs.declared.key.Key.{Key}
use Rattle.bx_input.specs.Machine as machine
use Rattle.bx_input.specs.Mouse as mouse
use Rattle.bx_input.specs.Paste.{paste_fate}
use Rattle.bx_input.specs.PasteTail.{tail_bytes}
use Rattle.bx_input.specs.Scan as scan
use Rattle.bx_input.specs.Scan.{State, Step, Part, Known, passed, step_to, start}
use Rattle.bx_input.specs.Table as table
use Rattle.bx_input.specs.Table.{paste_end}
use Rattle.bx_input.specs.declared.in_paste.AfterInPaste.{AfterInPaste}
use Rattle.bx_input.specs.declared.in_paste.AfterInPaste.TheVariants as after_in_paste
use Rattle.bx_input.specs.declared.known.Keys.{Keys}
use Rattle.bx_input.specs.declared.machine.Event.{Event}
use Rattle.bx_input.specs.declared.machine.Event.TheVariants as event
use Rattle.bx_input.specs.declared.mouse.Report.{Report}
use Rattle.bx_input.specs.declared.scan.Scanned.{Scanned}
use Rattle.bx_input.specs.declared.scan_state.ScanState.{ScanState}
use Rattle.bx_input.specs.declared.scan_state.ScanState.TheVariants as state
use Rattle.bx_input.specs.declared.table.Row.{Row}

-- a row of the code's table
abbrev pub row_in : Row → table.Row
row_in r = record { sequence = r.sequence.now; selects = r.selects; key = r.key }

-- the keys of a known sequence
abbrev pub keys_in : Keys → List Key
keys_in k = option_to_list k.before ++ option_to_list k.key

-- a mouse report
abbrev pub report_in : Report → mouse.Report
report_in r = record { button = r.button; column = r.column; row = r.row; is_release = r.is_release }

-- the state that the code's state means
abbrev pub state_of : ScanState → State
state_of (state.Outside waiting) = scan.Outside waiting.items
state_of (state.Within waiting after_return) = scan.Within (tail_bytes waiting) after_return

-- bytes that pass on, perhaps one more, and perhaps a known sequence
abbrev pub parts_of : List ℕ → Option ℕ → Option Keys → List Part
parts_of waiting byte known = passed waiting ++ (passed (option_to_list byte) ++ map Known (option_to_list (option_map keys_in known)))

-- the step to a state, with its parts
pub record Goes (went : Scanned) (s : Step) : Type 0 where
  pub state : state_of went.state ≡ s.state
  pub parts : parts_of went.waiting.items went.byte went.known ≡ s.parts

-- the step at a pause that completes this key, if any
abbrev pub paused : State → Option Key → Step
paused s None = step_to s []
paused s (Some key) = step_to start (Known (key ∷ []) ∷ [])

-- an event
abbrev pub event_of : Event → machine.Event
event_of (event.Typed byte) = machine.Typed byte
event_of (event.Size rows columns) = machine.Size rows columns
event_of event.Pause = machine.Pause
event_of (event.Notice number) = machine.Notice number
event_of event.End = machine.End

-- `AfterInPaste` tells what the bytes `read` are, within a paste
abbrev pub TellsInPaste : AfterInPaste → List ℕ → Type 0
TellsInPaste (after_in_paste.Waits tail) read = (paste_fate read ≡ Waits) × (tail_bytes tail ≡ read)
TellsInPaste after_in_paste.Drops read = (paste_fate read ≡ Ends) × (bytes_eq read paste_end ≡ false)
TellsInPaste after_in_paste.EndsPaste read = (paste_fate read ≡ Ends) × (bytes_eq read paste_end ≡ true)
TellsInPaste after_in_paste.Breaks read = paste_fate read ≡ Breaks
