-- The machine that turns the host's events into keys: typed bytes as `Scan.antt` divides them, and sizes, pauses and notices. `m` is its
-- state, `rest` are the bytes of an item that is not read to its end (`bx_keys`, specs/Keys.antt).
use Rattle.std.specs.Prelude.{ℕ, ◌+◌, ◌*◌, Bool, true, false, ◌&&◌, ◌==◌, List, [], ◌∷◌, ◌++◌, map, Option, Some, None, option_map, option_to_list, find, if◌then◌else◌}
use Rattle.bx_common.specs.Characters.{is_side}
use Rattle.bx_keys.specs.Keys.{Decoding, with_key, key_after, rest_after, head_of}
use Rattle.bx_keys.specs.declared.key.Key.{Key}
use Rattle.bx_keys.specs.declared.key.Key.TheVariants as keys
use Rattle.bx_keys.specs.declared.notice.Notice.TheVariants as notices
use Rattle.bx_input.specs.declared.pause.Pause as typing
use Rattle.bx_input.specs.declared.pause.Pause.TheVariants as pauses
use Rattle.bx_input.specs.Frames.{Frame}
use Rattle.bx_input.specs.Scan.{State, Part, Passed, Known, start, step, pause_after, idle, is_in_paste, at_end}
use Rattle.bx_input.specs.Strings.{begins_string, ends_string, is_short_string}

-- what the host tells: a typed byte, the window's rows and columns, that time went by after the last typed byte, the number of a notice,
-- and the input's end
pub data Event : Type 0 where
  Typed : (byte : ℕ) → Event
  Size : (rows columns : ℕ) → Event
  Pause : Event
  Notice : (number : ℕ) → Event
  End : Event

-- whether the terminal's own erase character is DELETE; the state outside a paste or within one; when there was a pause in typing; the
-- bytes of a control string behind its ESC, which waits in `state`, or none; the bytes of an item that is not read to its end; and the
-- key of a notice that waits for a paste's end
pub record Machine : Type 0 where
  pub erases_by_delete : Bool
  pub state : State
  pub pause : typing.Pause
  pub string : List ℕ
  pub rest : List ℕ
  pub notice : Option Key

-- the state after a step, and its keys
pub record Moved : Type 0 where
  pub machine : Machine
  pub keys : List Key

-- a machine at the start of its input
abbrev pub begun : Bool → Machine
begun erases_by_delete =
    record { erases_by_delete = erases_by_delete; state = start; pause = pauses.No; string = []; rest = []; notice = None }

-- no key
abbrev pub quiet : Machine → Moved
quiet m = record { machine = m; keys = [] }

-- a second step after a first, with the keys of both
abbrev pub and_then : Moved → (Machine → Moved) → Moved
and_then first second = let next = second first.machine in record { machine = next.machine; keys = first.keys ++ next.keys }

-- ---- the keys of parts

-- Bytes that pass on are read by the grammar of items. A known sequence drops an item that is not read to its end.
abbrev pub read : List ℕ → List Part → Decoding
read rest [] = record { keys = []; rest = rest }
read rest (Passed b ∷ ps) = with_key (key_after rest b) (read (head_of (rest_after rest b)) ps)
read rest (Known keys ∷ ps) = let d = read [] ps in record { keys = keys ++ d.keys; rest = d.rest }

-- parts are read
abbrev pub after_parts : List Part → Machine → Moved
after_parts parts m = let d = read m.rest parts in record { machine = record m { rest = d.rest }; keys = d.keys }

-- outside a paste, the key of the notice that waits
abbrev pub settled : Machine → Moved
settled m = if is_in_paste m.state then quiet m else record { machine = record m { notice = None }; keys = option_to_list m.notice }

-- the machine goes to this state
abbrev pub to_state : State → Machine → Machine
to_state state m = record m { state = state; pause = pause_after m.pause state }

-- ---- typed bytes

-- no byte is there
abbrev pub is_none : List ℕ → Bool
is_none [] = true
is_none (b ∷ bs) = false

-- a byte that is in no control string
abbrev pub after_scanned : ℕ → Machine → Moved
after_scanned b m = let s = step m.erases_by_delete m.state b in and_then (after_parts s.parts (to_state s.state m)) settled

-- such bytes, one after another
abbrev pub after_all_scanned : List ℕ → Machine → Moved
after_all_scanned [] m = quiet m
after_all_scanned (b ∷ bs) m = and_then (after_scanned b m) (after_all_scanned bs)

-- the bytes of a string that is none after all
abbrev pub after_broken : List ℕ → Machine → Moved
after_broken held m = after_all_scanned held (record m { string = [] })

-- A string is whole. Like each known sequence it drops an item that is not read to its end.
abbrev pub after_whole : Machine → Moved
after_whole m = quiet (record m { state = start; pause = pauses.No; string = []; rest = [] })

-- a byte where no string waits
abbrev pub after_first : ℕ → Machine → Moved
after_first b m = if begins_string m.state b then quiet (record m { string = b ∷ [] }) else after_scanned b m

-- a byte in a string
abbrev pub after_held : List ℕ → Machine → Moved
after_held held m = if is_short_string held then quiet (record m { string = held }) else after_broken held m

abbrev pub after_in_string : ℕ → Machine → Moved
after_in_string b m = if ends_string m.string b then after_whole m else after_held (m.string ++ b ∷ []) m

-- a typed byte
abbrev pub after_typed : ℕ → Machine → Moved
after_typed b m = if is_none m.string then after_first b m else after_in_string b m

-- ---- the other events

-- time goes by, where no string waits: a lone Escape is a key, or ends a paste
abbrev pub after_idle : Machine → Moved
after_idle m =
    let s = idle m.pause m.state in
    and_then (after_parts s.parts (record m { state = s.state; pause = pauses.Behind })) settled

-- it breaks a control string
abbrev pub after_pause : Machine → Moved
after_pause m = and_then (after_broken m.string m) after_idle

-- the key of a size, if a window may have it
abbrev pub size_key : ℕ → ℕ → Option Key
size_key rows columns = if is_side rows && is_side columns then Some (keys.Size rows columns) else None

-- a size, and Fill
abbrev pub after_size : ℕ → ℕ → Machine → Moved
after_size rows columns m = record { machine = m; keys = option_to_list (size_key rows columns) ++ keys.Fill ∷ [] }

-- the notices, by number
abbrev pub all_notices : List (ℕ × Key)
all_notices =
    (1, keys.Notice notices.NoSpace) ∷ (2, keys.Notice notices.FolderGone) ∷ (3, keys.Notice notices.NotPermitted)
    ∷ (4, keys.Notice notices.ReadOnly) ∷ (5, keys.Notice notices.Unkept) ∷ (6, keys.Notice notices.KeptAgain)
    ∷ (7, keys.Notice notices.Recovered) ∷ (8, keys.Notice notices.RecoveredAside) ∷ (9, keys.Notice notices.InPlace) ∷ []

-- the key of a notice; a number without one shows nothing
abbrev pub notice_key : ℕ → Option Key
notice_key number = option_map (λ n. n.1) (find (λ n. n.0 == number) all_notices)

-- a notice, which in a paste waits for its end
abbrev pub after_notice : ℕ → Machine → Moved
after_notice number m = settled (record m { notice = notice_key number })

-- the input's end, where no string waits
abbrev pub after_last : Machine → Moved
after_last m = after_parts (at_end m.state) (record m { state = start; pause = pauses.No })

abbrev pub after_end : Machine → Moved
after_end m = and_then (after_broken m.string m) after_last

-- an event
abbrev pub after : Event → Machine → Moved
after (Typed b) m = after_typed b m
after (Size rows columns) m = after_size rows columns m
after Pause m = after_pause m
after (Notice number) m = after_notice number m
after End m = after_end m

-- events, one after another
abbrev pub after_all : List Event → Machine → Moved
after_all [] m = quiet m
after_all (e ∷ es) m = and_then (after e m) (after_all es)

-- ---- frames

-- a size that is told, in four bytes; a number of bytes that is none of a size says nothing
abbrev pub size_events : List ℕ → List Event
size_events (a ∷ b ∷ c ∷ d ∷ []) = Size (a * 256 + b) (c * 256 + d) ∷ []
size_events _ = []

-- a notice's number, in one byte
abbrev pub notice_events : List ℕ → List Event
notice_events (number ∷ []) = Notice number ∷ []
notice_events _ = []

-- the events of a frame, by its letter; unknown letters say nothing
abbrev pub events_of : Frame → List Event
events_of f =
    if f.letter == 0x62 then map Typed f.bytes
    else if f.letter == 0x7A then size_events f.bytes
    else if f.letter == 0x69 then Pause ∷ []
    else if f.letter == 0x6E then notice_events f.bytes
    else []

-- a frame
abbrev pub after_frame : Frame → Machine → Moved
after_frame f m = after_all (events_of f) m
