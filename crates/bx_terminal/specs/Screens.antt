-- The model of a screen: a terminal, or none once it has failed.
use Rattle.std.specs.Prelude.{Option, Some, None, if◌then◌else◌}
use Rattle.bx_grid.specs.Terminal.{Terminal}
use Rattle.bx_grid.specs.Picture.{PictureState, Shows}
use Rattle.bx_terminal.specs.declared.screen.Screen.TheInside.{Inside}

-- the value of a screen with the fields `s`: None once it has failed
abbrev pub terminal_if_live : Inside → Option Terminal
terminal_if_live s = if s.failed then None else Some s.live

-- the screen has not failed, and shows the picture
abbrev pub IfShown : Option Terminal → PictureState → Type 0
IfShown None p = ⊥
IfShown (Some t) p = Shows t p
