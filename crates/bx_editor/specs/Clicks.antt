-- Presses at a cell of the window, and what was pressed. `d` is Unicode's data.
use Rattle.std.specs.Prelude.{ℕ, List, Option, Some, None}
use Rattle.bx_ucd.specs.Data.{Data}
use Rattle.bx_view.specs.Places.{IsTextPlace}
use Rattle.bx_keys.specs.declared.key.Key.{Key}
use Rattle.bx_keys.specs.declared.key.Key.TheVariants.{Drag, Point, ScrollBack, ScrollOn}
use Rattle.bx_editor.specs.declared.clicks.Clicks.{Clicks}
use Rattle.bx_editor.specs.declared.clicks.Pressed.{Pressed}

-- what was pressed starts and stops at places of the text
pub record IsPressed (d : Data) (text : List ℕ) (p : Pressed) : Type 0 where
  pub start : IsTextPlace d text p.start
  pub stop : IsTextPlace d text p.stop

-- the presses at one cell behind a key that the user presses: a click alone leaves some
abbrev pub clicks_behind : Key → Option Clicks → Option Clicks
clicks_behind (Point row column) clicks = clicks
clicks_behind _ clicks = None

-- what was pressed, behind a key that the user presses: what goes on from it leaves it
abbrev pub pressed_behind : Key → Option Pressed → Option Pressed
pressed_behind (Point row column) pressed = pressed
pressed_behind (Drag row column) pressed = pressed
pressed_behind ScrollBack pressed = pressed
pressed_behind ScrollOn pressed = pressed
pressed_behind _ pressed = None
