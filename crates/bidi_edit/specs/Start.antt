-- The start of a session by the options of the command line.
use Rattle.std.specs.Global.{Global, Vec}
use Rattle.std.specs.Prelude.{◌≡◌, ℕ, Option, String, option_map, string_bytes}
use Rattle.bx_command.specs.declared.files.Files.{Files}
use Rattle.bx_command.specs.declared.parsed.Options.{Options}
use Rattle.bx_recovery.specs.declared.beginning.Beginning.{Beginning}

-- a session starts with what its files hold, and as the option of each name says
pub record BeginsBy (options : Options) (files : Files) (text : Option (Vec ℕ)) (name : Option (String Global)) (b : Beginning) : Type 0 where
  pub unicode : b.unicode.now ≡ files.unicode
  pub opened : b.text ≡ text
  pub rows : b.rows ≡ options.rows
  pub cols : b.cols ≡ options.cols
  pub direction : b.direction ≡ options.direction
  pub clipboard : b.clipboard ≡ options.clipboard
  pub view : b.settings.read_only ≡ options.view
  pub indent : b.settings.auto_indent ≡ options.indent
  pub spaces : b.settings.tab_width ≡ options.spaces
  pub named : b.settings.name ≡ option_map string_bytes name
  pub line : b.line ≡ options.line
  pub unsaved : b.unsaved ≡ options.unsaved
  pub keys : b.keys.now ≡ files.keys.items
