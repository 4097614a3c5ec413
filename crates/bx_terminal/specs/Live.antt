-- The model of the program's terminal (`Live`).
use Rattle.std.specs.Prelude.{◌≡◌, ◌<◌, length, IfSome, string_bytes}
use Rattle.bx_grid.specs.Seen.{all_seen}
use Rattle.bx_grid.specs.Tokens.{fate}
use Rattle.bx_grid.specs.Grid.{IsSized}
use Rattle.bx_grid.specs.Terminal.{Terminal}
use Rattle.bx_terminal.specs.Uncut.{AreUncutRows}
use Rattle.bx_bytes.specs.declared.fate.Fate.TheVariants.{Waits}
use Rattle.bx_terminal.specs.declared.live.Live.TheInside.{Inside}

-- the terminal whose state the fields `s` of a `Live` are
abbrev pub terminal_of : Inside → Terminal
terminal_of s = record {
  height = s.height;
  width = s.width;
  columns = all_seen s.columns.items;
  position = s.position;
  negative = s.negative;
  run = string_bytes s.run;
  half_read = s.half_read.items;
}

-- the columns fit the size, the cursor's row and column are inside, the half-read bytes can become a token, and no glyph is
-- cut
pub record IsLive (s : Inside) : Type 0 where
  pub sized : IsSized s.height s.width (length s.columns.items)
  pub position : IfSome s.position (λ p. (p.0 < s.height) × (p.1 < s.width))
  pub waits : fate s.half_read.items ≡ Waits
  pub uncut : AreUncutRows s.height s.width (all_seen s.columns.items)
