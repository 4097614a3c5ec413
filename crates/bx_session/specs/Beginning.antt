-- The start of a session: a text is opened, the settings are told, the cursor goes to an offset, a journal is replayed, and the screen is
-- painted. `d` is Unicode's data, `b` what the session starts with, `s` the session.
use Rattle.std.specs.Prelude.{ℕ, Bool, true, false, List, [], Option, Some, None}
use Rattle.bx_common.specs.declared.base.Base.{Base}
use Rattle.bx_ucd.specs.Data.{Data}
use Rattle.bx_editor.specs.Settings.{SettingsState}
use Rattle.bx_session.specs.Session.{Session, at_opening, with_painting, with_settings, clipboard_if}
use Rattle.bx_session.specs.Replaying.{after_going, as_changed, after_journal}
use Rattle.bx_session.specs.Painting.{QueuesPicture}
use Rattle.bx_session.specs.Inputs.{presses_from}

-- what a session starts with
pub record Beginning : Type 0 where
  -- the opened text, in UTF-8
  pub text : List ℕ
  -- the window's rows and columns
  pub height : ℕ
  pub width : ℕ
  pub base : Base
  -- how the session works
  pub settings : SettingsState
  -- text that is copied or cut goes out to a clipboard
  pub clipboard : Bool
  -- the offset, in bytes, that the cursor goes to before the journal's keys; None for the text's start
  pub offset : Option ℕ
  -- the opened text counts as unsaved, as a recovered one does
  pub unsaved : Bool
  -- the journal's bytes; empty if there is none
  pub journal : List ℕ

-- opened, to work by its settings, and its first picture queued
abbrev pub opened : Data → Beginning → Session
opened d b = with_settings d (at_opening d b.text b.height b.width b.base) b.settings

-- after the cursor goes to the offset, if one is given
abbrev pub after_going_to : Data → Session → Option ℕ → Session
after_going_to d s None = s
after_going_to d s (Some offset) = after_going d s offset

-- an unsaved text counts as changed
abbrev pub changed_if : Bool → Session → Session
changed_if true s = as_changed s
changed_if false s = s

-- opened, before the journal's keys
abbrev pub at_offset : Data → Beginning → Session
at_offset d b = changed_if b.unsaved (after_going_to d (clipboard_if b.clipboard (opened d b)) b.offset)

-- after the replay of the journal, not painted yet
abbrev pub unpainted_at : Data → Beginning → Session
unpainted_at d b = after_journal d (at_offset d b) (presses_from [] b.journal)

-- painted: a run starts here
abbrev pub begun : Data → Beginning → Session
begun d b = with_painting d (unpainted_at d b)

-- the paintings before a run: the first picture was queued, then the picture after the journal's keys
pub record IsBegun (d : Data) (b : Beginning) : Type 0 where
  pub opened : QueuesPicture d [] None (opened d b)
  pub painted : QueuesPicture d (unpainted_at d b).pending (unpainted_at d b).known (begun d b)
