-- How a session works, as it is told before the first key.
use Rattle.std.specs.Prelude.{ℕ, Bool, false, true, nat_lt, List, length, Option, Some, None}
use Rattle.bx_editor.specs.Editor.{Editor}

pub record SettingsState : Type 0 where
  -- nothing changes the text
  pub read_only : Bool
  -- a new line is indented as the one before
  pub auto_indent : Bool
  -- a tab that is typed becomes spaces up to the next multiple of this number of units; 0: it is a tab
  pub tab_width : ℕ
  -- the file's name, in UTF-8; an empty one says that the text has none yet
  pub name : Option (List ℕ)

-- the settings of a session for which none are told
abbrev pub plain : SettingsState
plain = record { read_only = false; auto_indent = false; tab_width = 0; name = None }

-- saves go to the file that was opened: a text without a name has none
abbrev pub is_home : Option (List ℕ) → Bool
is_home None = true
is_home (Some name) = nat_lt 0 (length name)

-- the session works by these settings
abbrev pub with_settings : Editor → SettingsState → Editor
with_settings e s = record e {
  read_only = s.read_only;
  auto_indent = s.auto_indent;
  tab_width = s.tab_width;
  name = s.name;
  home = is_home s.name;
}
