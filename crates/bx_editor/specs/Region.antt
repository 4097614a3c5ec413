-- The region between the mark and the cursor's place, and the keys that mark, copy and cut. `d` is Unicode's data, `e` the
-- editor.
use Rattle.std.specs.Prelude.{ℕ, ◌==◌, ◌&&◌, nat_lt, min, max, Bool, false, List, length, slice_range, Option, Some, None, unwrap_or, if◌then◌else◌}
use Rattle.std.specs.Prelude.{true, not, is_some}
use Rattle.bx_ucd.specs.Data.{Data}
use Rattle.bx_document.specs.Line as lines
use Rattle.bx_editor.specs.declared.message.Message.{Message}
use Rattle.bx_editor.specs.declared.message.Message.TheVariants as messages
use Rattle.bx_editor.specs.declared.message.Message.TheVariants.{Copied, LineCopied, MarkOff, MarkSet, NothingToCopy, TooLongForClipboard}
use Rattle.bx_editor.specs.declared.cursor.Soft.TheVariants.{Off, Fresh, Old}
use Rattle.bx_editor.specs.Editor.{Editor, with_removal}
use Rattle.bx_editor.specs.declared.cursor.Soft.{Soft}
use Rattle.bx_keys.specs.declared.key.Key.{Key}
use Rattle.bx_keys.specs.declared.key.Key.TheVariants.{Select, ScrollBack, ScrollOn, Repaint, Copy, Cut}

-- ---- parts of the text, from one offset to another

abbrev pub is_empty : ℕ × ℕ → Bool
is_empty part = part.0 == part.1

abbrev pub bytes_in : Editor → ℕ × ℕ → List ℕ
bytes_in e part = slice_range e.content.text part.0 part.1

-- from the smaller of the mark and the place to the greater; empty if there is no mark
abbrev pub region : Editor → ℕ × ℕ
region e = (min (unwrap_or e.mark e.place) e.place, max (unwrap_or e.mark e.place) e.place)

-- the place's paragraph with its separator
abbrev pub line : Data → Editor → ℕ × ℕ
line d e = lines.line_of d e.content.text e.place

-- the part that Copy and Cut take: the region, or the line if the region is empty
abbrev pub taken : Data → Editor → ℕ × ℕ
taken d e = if is_empty (region e) then line d e else region e

-- ---- the keys

-- there is a mark, and it is at the place
abbrev pub is_at_mark : Option ℕ → ℕ → Bool
is_at_mark None place = false
is_at_mark (Some mark) place = mark == place

-- Mark sets the mark at the place, or removes it if it is at the place already
abbrev pub after_mark : Editor → Editor
after_mark e =
    if is_at_mark e.mark e.place then record e { mark = None; soft = Off; message = Some MarkOff } else record e { mark = Some e.place; soft = Off; message = Some MarkSet }

-- the mark is a selection's
abbrev pub is_soft : Soft → Bool
is_soft Off = false
is_soft _ = true

-- Cancel removes the mark
abbrev pub without_mark : Editor → Editor
without_mark e = record e { mark = None; soft = Off }

-- Copy leaves a selection, and removes another mark
abbrev pub without_hard_mark : Editor → Editor
without_hard_mark e = if is_soft e.soft then e else without_mark e

-- the most bytes of held text that go out to a clipboard
abbrev pub largest_clip : ℕ
largest_clip = 65536

-- the message of a key that held this text: its own, but with a clipboard a text that is too long for it is told
abbrev pub held_message : Bool → List ℕ → Option Message → Option Message
held_message clipboard held own = if clipboard && nat_lt largest_clip (length held) then Some TooLongForClipboard else own

-- this text is held, with its message; `whole_line`: it is a line. A mark that is no selection's is removed
abbrev pub with_held : Editor → List ℕ → Bool → Message → Editor
with_held e held whole_line own =
    record (without_hard_mark e) { held = held; whole_line = whole_line; message = held_message e.clipboard held (Some own) }

-- Copy makes the region the held text, or the line if the region is empty; if both are empty, the held text stays
abbrev pub after_copy : Data → Editor → Editor
after_copy d e =
    if is_empty (region e)
    then (if is_empty (line d e)
    then record (without_hard_mark e) { message = Some NothingToCopy }
    else with_held e (bytes_in e (line d e)) true LineCopied)
    else with_held e (bytes_in e (region e)) false Copied

-- Cut makes the part that Copy would take the held text, and removes it from the text
abbrev pub after_cut : Data → Editor → Editor
after_cut d e =
    if is_empty (taken d e)
    then after_copy d e
    else record (with_removal d e ((taken d e).0) ((taken d e).1) false) {
      held = bytes_in e (taken d e);
      whole_line = is_empty (region e);
      message = held_message e.clipboard (bytes_in e (taken d e)) (Some messages.Cut);
    }

-- ---- selections

-- a mark is set at the place, if there is none; an old selection goes on
abbrev pub selecting : Editor → Option ℕ → Soft → Editor
selecting e None soft = record e { mark = Some e.place; soft = Fresh }
selecting e (Some mark) Old = record e { soft = Fresh }
selecting e (Some mark) _ = e

-- the effect of Select
abbrev pub after_select : Editor → Editor
after_select e = selecting e e.mark e.soft

-- the mark, once an old selection is taken off
abbrev pub mark_left : Soft → Option ℕ → Option ℕ
mark_left Old mark = None
mark_left soft mark = mark

-- the softness, once an old selection is taken off
abbrev pub soft_left : Soft → Soft
soft_left Old = Off
soft_left soft = soft

-- an old selection is taken off, as moves and the keys that begin a search, go to the next match or ask for a line do first
abbrev pub unselected : Editor → Editor
unselected e = record e { mark = mark_left e.soft e.mark; soft = soft_left e.soft }

-- a region that gives way to what is typed, put in or removed
abbrev pub is_selection : Editor → Bool
is_selection e = is_soft e.soft && not (is_empty (region e))

-- the softness once another key than Select and Repaint is pressed
abbrev pub aged : Soft → Soft
aged Fresh = Old
aged soft = soft

-- the softness that a key which the user presses leaves; the wheel ages it where it carries the cursor along
abbrev pub soft_behind : Key → Soft → Soft
soft_behind Select soft = soft
soft_behind ScrollBack soft = soft
soft_behind ScrollOn soft = soft
soft_behind Repaint soft = soft
soft_behind _ soft = aged soft

-- ---- what goes out to a clipboard; `e` is the editor after a key

-- the message tells that text was copied, and so that it is not too long for a clipboard
abbrev pub tells_copy : Option Message → Bool
tells_copy (Some Copied) = true
tells_copy (Some LineCopied) = true
tells_copy _ = false

-- the message is that text was cut
abbrev pub tells_cut : Option Message → Bool
tells_cut (Some messages.Cut) = true
tells_cut _ = false

-- whether a key held text that is not too long, by the message that it left
abbrev pub is_clip : Key → Option Message → Bool
is_clip Copy message = tells_copy message
is_clip Cut message = tells_cut message
is_clip _ message = false

-- what goes out to the clipboard after a key: the held text, where this key has held it
abbrev pub clip_of : Editor → Key → Option (List ℕ)
clip_of e key = if e.clipboard && is_clip key e.message then Some e.held else None
