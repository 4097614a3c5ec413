-- The start of a session from the bytes of its files: Unicode's, the text and the journal. `d` is Unicode's data, `b` what a
-- session starts with, `s` the session.
use Rattle.std.specs.Global.{Vec}
use Rattle.std.specs.Prelude.{◌≡◌, ℕ, List, [], Option, Some, None, option_map, vec_items}
use Rattle.bx_ucd.specs.Data.{Data}
use Rattle.bx_command.specs.Lines.{start_of_line}
use Rattle.bx_session.specs.Session.{Session}
use Rattle.bx_session.specs.Painting.{QueuesPicture}
use Rattle.bx_session.specs.Beginning.{Beginning, at_offset, opened}
use Rattle.bx_recovery.specs.declared.beginning.Beginning as given

-- a file that does not exist is an empty text
abbrev pub bytes_of : Option (Vec ℕ) → List ℕ
bytes_of None = []
bytes_of (Some bytes) = vec_items bytes

-- the offset at which a line, counted from 1, starts; None if no line is asked for: then the cursor is not sent anywhere
abbrev pub offset_of : List ℕ → Option ℕ → Option ℕ
offset_of text line = option_map (start_of_line text) line

-- a `Beginning` of `src/beginning.rt` as the definitions of sessions have it
abbrev pub beginning_of : given.Beginning → Beginning
beginning_of b = record {
  text = bytes_of b.text;
  height = b.rows;
  width = b.cols;
  base = b.direction;
  settings = b.settings;
  clipboard = b.clipboard;
  offset = offset_of (bytes_of b.text) b.line;
  unsaved = b.unsaved;
  journal = b.keys.now;
}

-- the session is opened from this start; its journal is not replayed yet
pub record IsOpened (d : Data) (b : Beginning) (s : Session) : Type 0 where
  pub session : s ≡ at_offset d b
  pub paints : QueuesPicture d [] None (opened d b)
